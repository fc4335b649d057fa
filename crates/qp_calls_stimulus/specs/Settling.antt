-- What a `settle` comes to.
use Rattle.std.specs.Prelude.{◌≡◌, ◌≢◌, ℕ, ◌+◌, ◌<◌, List, [], ◌∷◌, ◌++◌, Ok, Err, IsTrue}
use Rattle.std.specs.declared.result.Result.{Result}
use Rattle.qp_model.specs.declared.systems.System.{System}
use Rattle.qp_model.specs.declared.bodies.Body.TheVariants as body
use Rattle.qp_model.specs.Told.{Told, plain}
use Rattle.qp_model.specs.WordLaw.{is_object}
use Rattle.qp_model.specs.Sources.{SeesEmpty, SeesEntry, Settles, priorities}
use Rattle.qp_calls.specs.declared.answers.RoomFault.{RoomFault}
use Rattle.qp_calls.specs.declared.answers.Counts as counts
use Rattle.qp_calls_stimulus.specs.declared.settling.Sight.{Sight}
use Rattle.qp_calls_stimulus.specs.declared.settling.Sight.TheVariants as sight
use Rattle.qp_calls.specs.LaneView.{LaneView, Grows}
use Rattle.qp_calls.specs.Clauses.{IsFault, Sees}

-- the queues of these objects were seen empty
pub record SeesNone (os : List ℕ) (old new : LaneView) : Type 0 where
  pub one : List Told
  pub grows : Grows (plain body.Settle ∷ one) old new
  pub fits : SeesEmpty os one
  pub hands : new.hands ≡ old.hands

-- the last look showed an entry in the queue of an object, once the lane had gained these records
pub record HasEntry (sys : System) (old new : LaneView) : Type 0 where
  pub object : ℕ
  pub its : IsTrue (is_object sys object)
  pub g : List Told
  pub before : LaneView
  pub counts : counts.Counts
  pub grows : Grows g old before
  pub sees : Sees object before new counts
  pub some : counts.m < counts.f + counts.l

-- the queues were seen up to the first with an entry
pub record SeesSome (sys : System) (old new : LaneView) : Type 0 where
  pub one : List Told
  pub grows : Grows (plain body.Settle ∷ one) old new
  pub fits : SeesEntry (priorities sys) one
  pub hands : new.hands ≡ old.hands
  pub found : HasEntry sys old new

-- `room` refused before all were seen; those before were empty
pub record SettleCut (sys : System) (old new : LaneView) : Type 0 where
  pub g : List Told
  pub rest : List Told
  pub grows : Grows g old new
  pub fits : (kernel : ℕ) → Settles sys kernel (g ++ rest)
  pub some : rest ≢ []

abbrev pub SettlesTo : System → LaneView → LaneView → Result Sight RoomFault → Type 0
SettlesTo sys old new (Ok sight.Empty) = SeesNone (priorities sys) old new
SettlesTo sys old new (Ok (sight.Entry object now)) = (h : SeesSome sys old new) × (h.found.object ≡ object) × (h.found.counts ≡ now)
SettlesTo sys old new (Err fault) = SettleCut sys old new × IsFault new fault
