-- Where the run stops between two records, or may go on.
use Rattle.std.specs.Prelude.{◌≡◌, ℕ, suc, true, ◌≤◌, ◌⊎◌, ◌∷◌, Ok, Err}
use Rattle.std.specs.declared.result.Result.{Result}
use Rattle.qp_calls.specs.LaneView.{LaneView, Roomier}
use Rattle.qp_calls.specs.Halting.{HaltsDry, HaltsFull}
use Rattle.qp_kernel.specs.Interrupting.{is_unset}
use Rattle.qp_kernel_turns.specs.declared.halting.Halt.{Halt}
use Rattle.qp_kernel_turns.specs.declared.halting.Halt.TheVariants as halt

-- the lane has looked at the stop word once more
abbrev pub asked_once : LaneView → LaneView
asked_once v = record v { asked = suc v.asked }

-- the stop word was found set
pub record FindsStop (v w : LaneView) : Type 0 where
  pub code : ℕ
  pub answered : w ≡ record v { answered = code ∷ v.answered; asked = suc v.asked }

-- it has no room, or memory was refused
abbrev pub GivesUp : LaneView → LaneView → Halt → Type 0
GivesUp v w halt.Stopped = HaltsFull v w
GivesUp v w halt.Memory = HaltsDry v w

abbrev pub TurnHalts : LaneView → LaneView → Halt → Type 0
TurnHalts v w halt.Stopped = FindsStop v w ⊎ HaltsFull (asked_once v) w
TurnHalts v w halt.Memory = HaltsDry (asked_once v) w

-- the stop word was looked at, and wasn't set, by no lane of the world; and there is room for eight records
pub record IsReadied (v w : LaneView) : Type 0 where
  pub unset : is_unset v ≡ true
  pub roomier : Roomier (asked_once v) w
  pub spare : 8 ≤ w.spare

abbrev pub Readies : LaneView → LaneView → Result (Unit {0}) Halt → Type 0
Readies v w (Ok u) = IsReadied v w
Readies v w (Err h) = TurnHalts v w h
