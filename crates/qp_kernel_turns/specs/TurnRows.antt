-- How many rows at the base without a step come by a turn.
use Rattle.std.specs.Prelude.{◌≡◌, ℕ, ◌+◌, ◌<◌, ◌≤◌, ◌==◌, Bool, true, false, List, [], length, if◌then◌else◌, IsTrue, Ok, Err}
use Rattle.std.specs.declared.result.Result.{Result}
use Rattle.qp_model.specs.declared.systems.System.{System}
use Rattle.qp_model.specs.WordLaw.{is_object}
use Rattle.qp_model_order.specs.RunOrder.{has_stim}
use Rattle.qp_calls.specs.LaneView.{LaneView}
use Rattle.qp_dispatch.specs.declared.objects.Turn.{Turn}
use Rattle.qp_dispatch.specs.declared.objects.Turn.TheVariants as turn
use Rattle.qp_kernel.specs.declared.kernel.Kernel.{Kernel}
use Rattle.qp_kernel.specs.Happenings.{lanes_of}
use Rattle.qp_kernel.specs.Turning.{Terms}
use Rattle.qp_kernel_turns.specs.declared.halting.Halt.{Halt}
use Rattle.qp_kernel_turns.specs.declared.halting.Halt.TheVariants as halt
use Rattle.qp_kernel_turns.specs.BaseRows.{HasStep, InRow, reading_in}
use Rattle.qp_kernel_turns.specs.Pending.{Pending}
use Rattle.qp_kernel_turns.specs.Turning.{idle_in}

-- how many whole rows at the base of the lane have no step
abbrev pub idle_rows : System → Terms → LaneView → ℕ
idle_rows sys terms v = idle_in sys terms v.told (has_stim (lanes_of v))

-- in a system without objects a row is one look
abbrev pub bare_row : System → ℕ
bare_row sys = if length sys.objects == 0 then 1 else 0

-- under `qk` no source acts in a look
abbrev pub SourcesAreApart : Bool → Terms → Type 0
SourcesAreApart acts terms = terms.threaded ≡ true → acts ≡ false

-- under `qk` a run that stopped has at most so many
abbrev pub FewRows : System → Terms → ℕ → LaneView → Halt → Type 0
FewRows sys terms n w halt.Stopped = terms.threaded ≡ true → idle_rows sys terms w ≤ n
FewRows sys terms n w halt.Memory = Unit {0}

-- no more than before
abbrev pub RowStops : System → Terms → LaneView → LaneView → Halt → Type 0
RowStops sys terms v w h = FewRows sys terms (idle_rows sys terms v + bare_row sys) w h

abbrev pub LooksRow : Bool → System → Terms → LaneView → LaneView → Result Bool Halt → Type 0
LooksRow acts sys terms v w (Ok came) = came ≡ true → acts ≡ true
LooksRow acts sys terms v w (Err h) = RowStops sys terms v w h

-- from a look that has come to `before` to one that has come to `after`; u is the lane before it was added
abbrev pub VisitsRow : System → Terms → List ℕ → List ℕ → LaneView → LaneView → Result Bool Halt → Type 0
VisitsRow sys terms before after v w (Ok true) = (u : LaneView) → InRow sys terms before u v → HasStep (reading_in sys terms u) (reading_in sys terms w)
VisitsRow sys terms before after v w (Ok false) = (u : LaneView) → InRow sys terms before u v → InRow sys terms after u w
VisitsRow sys terms before after v w (Err h) = (u : LaneView) → InRow sys terms before u v → RowStops sys terms u w h

abbrev pub StepsRow : System → Terms → LaneView → LaneView → Result (Unit {0}) Halt → Type 0
StepsRow sys terms v w (Ok t) = Unit {0}
StepsRow sys terms v w (Err h) = RowStops sys terms v w h

-- between two looks of a turn: no row at the base has ended since v, and where a step has begun, the row has one
pub record RowGoes (sys : System) (terms : Terms) (k later : Kernel) (v w : LaneView) : Type 0 where
  pub idle : (reading_in sys terms w).idle ≡ (reading_in sys terms v).idle
  pub stepped : k.steps < later.steps → (reading_in sys terms w).stepped ≡ true

-- A turn that has come to its end has one row more at most, and none more where it began at the base over a pending queue.
pub record RowsOver (sys : System) (terms : Terms) (k : Kernel) (v w : LaneView) : Type 0 where
  pub most : idle_rows sys terms w ≤ idle_rows sys terms v + 1
  pub pending : k.stack.items ≡ [] → (p : ℕ) → IsTrue (is_object sys p) → Pending p v → idle_rows sys terms w ≡ idle_rows sys terms v

abbrev pub TurnsRows : Bool → System → Terms → Kernel → LaneView → LaneView → Turn → Type 0
TurnsRows acts sys terms k v w turn.Idle = SourcesAreApart acts terms → RowsOver sys terms k v w
TurnsRows acts sys terms k v w turn.Stopped = SourcesAreApart acts terms → RowStops sys terms v w halt.Stopped
TurnsRows acts sys terms k v w turn.Memory = Unit {0}

-- the same within a turn
abbrev pub RoundsRows : Bool → System → Terms → Kernel → LaneView → LaneView → Result (Unit {0}) Halt → Type 0
RoundsRows acts sys terms k v w (Ok t) = SourcesAreApart acts terms → RowsOver sys terms k v w
RoundsRows acts sys terms k v w (Err h) = SourcesAreApart acts terms → RowStops sys terms v w h
