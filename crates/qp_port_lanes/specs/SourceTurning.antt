-- What the turn of a source comes to.
use Rattle.std.specs.Prelude.{◌≡◌, ℕ, ◌+◌, ◌<◌, ◌≤◌, true, false, not, ◌||◌, List, ◌∷◌, ◌++◌, ◌⊎◌, drop, Some, None}
use Rattle.std.specs.declared.option.Option.{Option}
use Rattle.qp_model.specs.declared.stimulus.Stim.{Stim}
use Rattle.qp_model.specs.declared.systems.System.{System}
use Rattle.qp_model.specs.Told.{ToldItem}
use Rattle.qp_model.specs.Kernels.{may_try}
use Rattle.qp_model.specs.Ends.{may_cut}
use Rattle.qp_model.specs.Stops as stop
use Rattle.qp_calls.specs.LaneView.{LaneView}
use Rattle.qp_dispatch.specs.declared.objects.Turn.{Turn}
use Rattle.qp_dispatch.specs.declared.objects.Turn.TheVariants as turn
use Rattle.qp_port_law.specs.SourcesLeft.{SourceLeaves}
use Rattle.qp_port_lanes.specs.declared.cursor.Cursor.{Cursor}
use Rattle.qp_calls_stimulus.specs.declared.doing.Stimulated.TheVariants as stimulated
use Rattle.qp_calls_stimulus.specs.Stimulating.{Stimulates}
use Rattle.qp_kernel.specs.Interrupting.{is_unset}
use Rattle.qp_kernel_turns.specs.Halting.{FindsStop}
use Rattle.qp_kernel_turns.specs.Lanes.{HandsCode, HasFound, SameLane}
use Rattle.qp_port_lanes.specs.CursorAt.{IsCursorAt, mine, at_settle_in, begins_settle, left_in}

-- the same source of the same stimuli, in the same lane
abbrev pub IsSameSource : Cursor → Cursor → Type 0
IsSameSource x y = (y.stim ≡ x.stim) × (y.source ≡ x.source) × (y.lane ≡ x.lane)

-- no stimulus from the one place of the cursor to the other is a `settle`
abbrev pub DoesNoSettle : Cursor → Cursor → Type 0
DoesNoSettle x y = (k : ℕ) → x.begun ≤ k → k < y.begun → begins_settle (drop k (mine x)) ≡ false

-- Stimuli of the source were done from the cursor on, and none was a `settle`; the hands are as they were, and no code was handed in or found.
pub record CursorGoes (sys : System) (x y : Cursor) (v w : LaneView) : Type 0 where
  pub at : IsCursorAt sys y w
  pub stim : y.stim ≡ x.stim
  pub source : y.source ≡ x.source
  pub lane : y.lane ≡ x.lane
  pub settling : y.settling ≡ x.settling
  pub further : x.begun ≤ y.begun
  pub bare : DoesNoSettle x y
  pub ts : List ToldItem
  pub told : w.told ≡ v.told ++ ts
  pub hands : w.hands ≡ v.hands
  pub stops : w.stops ≡ v.stops
  pub answered : w.answered ≡ v.answered
  pub keeps : SameLane v w

pub record SourceIdles (sys : System) (x y : Cursor) (v w : LaneView) : Type 0 where
  pub goes : CursorGoes sys x y v w
  pub rests : (at_settle_in y || not (left_in y)) ≡ true

-- It stopped where a lane may. It has just handed in the code of its last record, or found the stop word set.
pub record SourceHasStopped (sys : System) (x y : Cursor) (v w : LaneView) : Type 0 where
  pub leaves : (kernel end : ℕ) → may_try kernel ≡ true → may_cut end ≡ true → SourceLeaves sys kernel end (mine x) w.told
  pub why : HandsCode v w ⊎ HasFound v w
  pub ts : List ToldItem
  pub told : w.told ≡ v.told ++ ts
  pub keeps : SameLane v w

-- memory was refused, and 7 handed in
pub record SourceStarves (v w : LaneView) : Type 0 where
  pub ts : List ToldItem
  pub told : w.told ≡ v.told ++ ts
  pub stops : w.stops ≡ stop.memory ∷ v.stops
  pub keeps : SameLane v w

abbrev pub SourceTurns : System → Cursor → Cursor → LaneView → LaneView → Turn → Type 0
SourceTurns sys x y v w turn.Idle = SourceIdles sys x y v w
SourceTurns sys x y v w turn.Stopped = SourceHasStopped sys x y v w
SourceTurns sys x y v w turn.Memory = SourceStarves v w

-- The turn stopped where the stop word was found set, or this stimulus stopped the lane, or memory was refused in it.
abbrev pub StimulusBreaksOff : System → Stim → ℕ → LaneView → LaneView → Turn → Type 0
StimulusBreaksOff sys s place v w turn.Idle = ⊥
StimulusBreaksOff sys s place v w turn.Stopped = FindsStop v w ⊎ Stimulates sys s place 0 v w stimulated.Stopped
StimulusBreaksOff sys s place v w turn.Memory = Stimulates sys s place 0 v w stimulated.Memory

-- Stimuli were done up to one that is no `settle`, before which the cursor stands, and it ended there.
pub record SourceBreaksOff (sys : System) (x y : Cursor) (v w : LaneView) (answer : Turn) : Type 0 where
  pub before : LaneView
  pub goes : CursorGoes sys x y v before
  pub stands : (at_settle_in y || not (left_in y)) ≡ false
  pub s : Stim
  pub next : drop y.begun (mine y) ≡ s ∷ drop (y.begun + 1) (mine y)
  pub ends : StimulusBreaksOff sys s (y.begun + 1) before w answer

-- a turn breaks off at a stimulus that is no `settle`, or is Idle
abbrev pub BreaksOffUnlessIdle : System → Cursor → Cursor → LaneView → LaneView → Turn → Type 0
BreaksOffUnlessIdle sys x y v w turn.Idle = Unit {0}
BreaksOffUnlessIdle sys x y v w turn.Stopped = SourceBreaksOff sys x y v w turn.Stopped
BreaksOffUnlessIdle sys x y v w turn.Memory = SourceBreaksOff sys x y v w turn.Memory

-- one stimulus more was done, or the turn ends
pub record OneMore (sys : System) (x y : Cursor) (v w : LaneView) : Type 0 where
  pub goes : CursorGoes sys x y v w
  pub one : y.begun ≡ x.begun + 1

abbrev pub DoesNext : System → Cursor → Cursor → LaneView → LaneView → Option Turn → Type 0
DoesNext sys x y v w None = OneMore sys x y v w
DoesNext sys x y v w (Some t) = SourceTurns sys x y v w t

abbrev pub NextBreaks : System → Cursor → Cursor → LaneView → LaneView → Option Turn → Type 0
NextBreaks sys x y v w None = Unit {0}
NextBreaks sys x y v w (Some t) = BreaksOffUnlessIdle sys x y v w t

-- No stimulus more is done but where the stop word was found unset first.
abbrev pub UnsetNext : LaneView → Option Turn → Type 0
UnsetNext v None = is_unset v ≡ true
UnsetNext v (Some t) = Unit {0}
