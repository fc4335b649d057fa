-- What each call of a seat answers, and what the seat knows then. A record's kind tells which of a call's records it is.
use Rattle.std.specs.Prelude.{◌≡◌, ℕ, suc, ◌+◌, ◌<◌, ◌≤◌, ◌==◌, ◌||◌, [], ◌∷◌, true, false, IsTrue, if◌then◌else◌, Some, None}
use Rattle.std.specs.Bool.{MatchBool}
use Rattle.std.specs.List.{list_all}
use Rattle.std.specs.declared.option.Option.{Option}
use Rattle.qp_model.specs.declared.record.Rec.{Rec}
use Rattle.qp_model.specs.declared.systems.System.{System}
use Rattle.qp_model.specs.declared.words.Word.{Word}
use Rattle.qp_model.specs.declared.words.Word.TheVariants as word
use Rattle.qp_model.specs.Parts.{members}
use Rattle.qp_model.specs.WordLaw.{is_object}
use Rattle.qp_table.specs.After.{rec_of}
use Rattle.qp_side.specs.Rule.{member_in}
use Rattle.qp_side.specs.declared.view.SideView.{SideView}
use Rattle.qp_side.specs.Seat.{side_mark, SideAdds}

-- an operation: the record drew number n of the word
pub record SideDraws (sys : System) (w : Word) (n : ℕ) (r : Rec) (v u : SideView) : Type 0 where
  pub adds : SideAdds sys w (suc n) r v u
  pub up : side_mark sys v w ≤ n

-- Signals.

-- `sub` where object o comes, or `same` where it is a subscriber
pub record ObjectComes (sys : System) (o sig : ℕ) (v : SideView) (r : Rec) (u : SideView) : Type 0 where
  pub n : ℕ
  pub is : r ≡ rec_of 31 o (sig ∷ n ∷ [])
  pub draws : SideDraws sys (word.Signal sig) n r v u
  pub was : member_in o sig v.view.logs ≡ false

pub record IsThere (sys : System) (o sig : ℕ) (v : SideView) (r : Rec) (u : SideView) : Type 0 where
  pub n : ℕ
  pub is : r ≡ rec_of 33 o (sig ∷ n ∷ [])
  pub adds : SideAdds sys (word.Signal sig) n r v u
  pub was : member_in o sig v.view.logs ≡ true

abbrev pub SideSubscribes : System → ℕ → ℕ → SideView → Rec → SideView → Type 0
SideSubscribes sys o sig v r u = MatchBool (r.kind == 31) (ObjectComes sys o sig v r u) (IsThere sys o sig v r u)

-- `unsub` where object o goes, or `same` where it is no subscriber
pub record ObjectGoes (sys : System) (o sig : ℕ) (v : SideView) (r : Rec) (u : SideView) : Type 0 where
  pub n : ℕ
  pub is : r ≡ rec_of 32 o (sig ∷ n ∷ [])
  pub draws : SideDraws sys (word.Signal sig) n r v u
  pub was : member_in o sig v.view.logs ≡ true

pub record SideIsAway (sys : System) (o sig : ℕ) (v : SideView) (r : Rec) (u : SideView) : Type 0 where
  pub n : ℕ
  pub is : r ≡ rec_of 33 o (sig ∷ n ∷ [])
  pub adds : SideAdds sys (word.Signal sig) n r v u
  pub was : member_in o sig v.view.logs ≡ false

abbrev pub SideUnsubscribes : System → ℕ → ℕ → SideView → Rec → SideView → Type 0
SideUnsubscribes sys o sig v r u = MatchBool (r.kind == 32) (ObjectGoes sys o sig v r u) (SideIsAway sys o sig v r u)

-- `pub` with the set, whose members are objects of the system
pub record ShowsSet (sys : System) (o sig : ℕ) (v : SideView) (r : Rec) (u : SideView) : Type 0 where
  pub n : ℕ
  pub set : ℕ
  pub is : r ≡ rec_of 23 o (sig ∷ n ∷ set ∷ [])
  pub adds : SideAdds sys (word.Signal sig) n r v u
  pub small : set < 4294967296
  pub known : IsTrue (list_all (λ a. is_object sys a) (members set))

-- Time events.

-- `arm` where it was disarmed, or assertion 3 with its counter
pub record IsArmed (sys : System) (o t ticks interval : ℕ) (v : SideView) (r : Rec) (u : SideView) : Type 0 where
  pub n : ℕ
  pub is : r ≡ rec_of 34 o (t ∷ n ∷ ticks ∷ interval ∷ [])
  pub draws : SideDraws sys (word.Timer t) n r v u

pub record WasArmed (sys : System) (o t : ℕ) (v : SideView) (r : Rec) (u : SideView) : Type 0 where
  pub n : ℕ
  pub counter : ℕ
  pub is : r ≡ rec_of 42 o (3 ∷ t ∷ n ∷ counter ∷ [])
  pub adds : SideAdds sys (word.Timer t) n r v u
  pub few : n < 67108864
  pub some : 0 < counter
  pub small : counter < 65536

abbrev pub ArmsTimer : System → ℕ → ℕ → ℕ → ℕ → SideView → Rec → SideView → Type 0
ArmsTimer sys o t ticks interval v r u = MatchBool (r.kind == 34) (IsArmed sys o t ticks interval v r u) (WasArmed sys o t v r u)

-- `idle`: it is disarmed
pub record IsIdleTimer (sys : System) (o t : ℕ) (v : SideView) (r : Rec) (u : SideView) : Type 0 where
  pub n : ℕ
  pub is : r ≡ rec_of 37 o (t ∷ n ∷ [])
  pub adds : SideAdds sys (word.Timer t) n r v u

-- `disarm` with the former counter, or `idle`
pub record IsDisarmed (sys : System) (o t : ℕ) (v : SideView) (r : Rec) (u : SideView) : Type 0 where
  pub n : ℕ
  pub former : ℕ
  pub is : r ≡ rec_of 35 o (t ∷ n ∷ former ∷ [])
  pub draws : SideDraws sys (word.Timer t) n r v u
  pub some : 0 < former
  pub small : former < 65536

abbrev pub DisarmsTimer : System → ℕ → ℕ → SideView → Rec → SideView → Type 0
DisarmsTimer sys o t v r u = MatchBool (r.kind == 35) (IsDisarmed sys o t v r u) (IsIdleTimer sys o t v r u)

-- `rearm` with the former counter
pub record RearmsTimer (sys : System) (o t ticks : ℕ) (v : SideView) (r : Rec) (u : SideView) : Type 0 where
  pub n : ℕ
  pub former : ℕ
  pub is : r ≡ rec_of 36 o (t ∷ n ∷ former ∷ ticks ∷ [])
  pub draws : SideDraws sys (word.Timer t) n r v u
  pub small : former < 65536

-- `tick` with the counter that is left, or `fire` with the one reloaded, of no object; or `idle`
pub record IsDown (sys : System) (t : ℕ) (v : SideView) (r : Rec) (u : SideView) : Type 0 where
  pub n : ℕ
  pub counter : ℕ
  pub is : r ≡ rec_of 38 0 (t ∷ n ∷ counter ∷ [])
  pub draws : SideDraws sys (word.Timer t) n r v u
  pub some : 0 < counter

pub record IsFired (sys : System) (t : ℕ) (v : SideView) (r : Rec) (u : SideView) : Type 0 where
  pub n : ℕ
  pub reload : ℕ
  pub is : r ≡ rec_of 39 0 (t ∷ n ∷ reload ∷ [])
  pub draws : SideDraws sys (word.Timer t) n r v u

abbrev pub SideTicksTimer : System → ℕ → ℕ → SideView → Rec → SideView → Type 0
SideTicksTimer sys o t v r u = MatchBool (r.kind == 37) (IsIdleTimer sys o t v r u) (MatchBool (r.kind == 39) (IsFired sys t v r u) (IsDown sys t v r u))

-- Tries: a call makes at most one more than others made operations on the word in it, by which the mark rose. Its own is 1 but where its record, `idle` or
-- an assertion, draws no number.
abbrev pub own_draw : ℕ → ℕ
own_draw kind = if (kind == 37) || (kind == 42) then 0 else 1

pub record SideTries (sys : System) (w : Word) (r : Rec) (before after : ℕ) (v u : SideView) : Type 0 where
  pub up : before ≤ after
  pub few : after + side_mark sys v w + own_draw r.kind ≤ before + 1 + side_mark sys u w

-- The stop word.

-- the code handed in
abbrev pub SideHandsIn : ℕ → SideView → SideView → Type 0
SideHandsIn code v u = u ≡ record v { stops = code ∷ v.stops }

-- the code found, which is the one found before; where there is none, none was found before and the seat handed none in
abbrev pub FindsCode : SideView → SideView → Option ℕ → Type 0
FindsCode v u None = (u ≡ v) × (v.stops ≡ []) × (v.answered ≡ [])
FindsCode v u (Some code) = (u ≡ record v { answered = code ∷ v.answered }) × (0 < code) × (code ≤ 7) × IsTrue (list_all (λ c. c == code) v.answered)
