-- What a test may go on with.
use Rattle.std.specs.Prelude.{◌≡◌, ℕ, true, List, ◌∷◌, IsTrue, Some, None, ⊤}
use Rattle.std.specs.declared.option.Option.{Option}
use Rattle.qp_model.specs.declared.systems.System.{System}
use Rattle.qp_model.specs.Sound.{IsSound}
use Rattle.qp_calls.specs.declared.tokens.HeldEntry.{HeldEntry}
use Rattle.qp_calls.specs.declared.deferred.Deferred.{Deferred}
use Rattle.qp_calls.specs.declared.did.Did.{Did}
use Rattle.qp_calls.specs.LaneView.{LaneView, ceiling_in}
use Rattle.qp_calls.specs.Tokens.{without_entry}
use Rattle.qp_model.specs.declared.bodies.Entry as model
use Rattle.qp_plain_tests.specs.declared.ends.End.{End}
use Rattle.qp_plain_tests.specs.declared.ends.End.TheVariants as ended
use Rattle.qp_calls.specs.Deferring.{StandAll}
use Rattle.qp_calls.specs.Entries.{is_value}

-- the lane is of the same system, serves the same objects and has the same tokens
pub record Steady (v w : LaneView) : Type 0 where
  pub sys : w.sys ≡ v.sys
  pub serves : (o : ℕ) → w.serves o ≡ v.serves o
  pub hands : w.hands ≡ v.hands

-- the lane is of this sound system, serves all objects, and may be handed these entries
pub record MayGoOn (sys : System) (entries : List HeldEntry) (v : LaneView) : Type 0 where
  pub sound : IsSound sys
  pub its : v.sys ≡ sys
  pub serves : (o : ℕ) → IsTrue (v.serves o)
  pub stand : StandAll entries v

-- a value leaves the tokens as they were
abbrev pub StaysSteady : LaneView → LaneView → Option Did → Type 0
StaysSteady v w None = ⊤
StaysSteady v w (Some d) = is_value d ≡ true → Steady v w

-- a note of `lock` and one of `unlock` came, after which the ceiling is 0
abbrev pub LocksOnce : LaneView → LaneView → Option (Unit {0}) → Type 0
LocksOnce v w None = ⊤
LocksOnce v w (Some u) = Steady v w × (0 ≡ ceiling_in 0 w.told)

-- after a value a publication has given up its own reference, and no other token has changed
pub record Without (e : model.Entry) (v w : LaneView) : Type 0 where
  pub sys : w.sys ≡ v.sys
  pub serves : (o : ℕ) → w.serves o ≡ v.serves o
  pub hands : w.hands ≡ without_entry e v.hands

abbrev pub EndsIt : model.Entry → LaneView → LaneView → Option Did → Type 0
EndsIt e v w None = ⊤
EndsIt e v w (Some d) = is_value d ≡ true → Without e v w

-- a test may go on after a value
abbrev pub GoesOnAfter : System → HeldEntry → Deferred → LaneView → Option Did → Type 0
GoesOnAfter sys now list w None = ⊤
GoesOnAfter sys now list w (Some d) = is_value d ≡ true → MayGoOn sys (now ∷ list.entries.items) w

-- a test may go on unless something ended it
abbrev pub MayStillGoOn : System → List HeldEntry → LaneView → End → Type 0
MayStillGoOn sys entries w ended.Whole = MayGoOn sys entries w
MayStillGoOn sys entries w _ = ⊤
