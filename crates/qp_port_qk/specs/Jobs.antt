-- What runs in a lane, and where it stands there.
use Rattle.std.specs.Prelude.{◌≡◌, ℕ, Bool, true, false, length, ⊤}
use Rattle.qp_model.specs.declared.systems.System.{System}
use Rattle.qp_model.specs.Kernels.{may_try}
use Rattle.qp_model.specs.Ends.{may_cut}
use Rattle.qp_calls.specs.LaneView.{LaneView}
use Rattle.qp_dispatch.specs.declared.objects.Turn.{Turn}
use Rattle.qp_dispatch.specs.declared.objects.Turn.TheVariants as turn
use Rattle.qp_kernel.specs.declared.kernel.Kernel.{Kernel}
use Rattle.qp_model_order.specs.SourceRun.{untold_all}
use Rattle.qp_kernel.specs.Starts.{AreStarts, IsStartAlone}
use Rattle.qp_kernel.specs.Turning.{under_qk}
use Rattle.qp_kernel_turns.specs.declared.objects.Objects.{Objects}
use Rattle.qp_kernel_turns.specs.Lanes.{LaneTurns}
use Rattle.qp_kernel_turns.specs.Ordering.{TurnsInOrder}
use Rattle.qp_kernel_turns.specs.Turning.{TurnsTo, stand_of}
use Rattle.qp_port_phases.specs.Stopping.{HasStarved, HasStopped}
use Rattle.qp_port_law.specs.SourcesLeft.{SourceLeaves}
use Rattle.qp_port_lanes.specs.Answers.{is_short}
use Rattle.qp_port_lanes.specs.CursorAt.{IsCursorAt, at_settle_in, left_in, mine}
use Rattle.qp_port_lanes.specs.SourceTurning.{SourceTurns}
use Rattle.qp_port_qk.specs.declared.job.QkJob.{QkJob}
use Rattle.qp_port_qk.specs.declared.job.QkJob.TheVariants as job
use Rattle.qp_port_qk.specs.KernelRests.{KernelBegins, KernelEnds, KernelRests, KernelStops}

abbrev pub is_source : QkJob → Bool
is_source (job.Kernel xs k) = false
is_source (job.Source x) = true

-- a source that stands at a `settle`
abbrev pub qk_stands_at_settle : QkJob → Bool
qk_stands_at_settle (job.Kernel xs k) = false
qk_stands_at_settle (job.Source x) = at_settle_in x

-- a source that has a stimulus left
abbrev pub qk_is_left_in : QkJob → Bool
qk_is_left_in (job.Kernel xs k) = false
qk_is_left_in (job.Source x) = left_in x

-- the kernel, or a source of the same stimuli
abbrev pub IsSameQkJob : QkJob → QkJob → Type 0
IsSameQkJob (job.Kernel xs k) (job.Kernel ys l) = ⊤
IsSameQkJob (job.Source x) (job.Source y) = mine y ≡ mine x
IsSameQkJob _ _ = ⊥

-- how many objects start in the lane
abbrev pub qk_starts_of : System → QkJob → ℕ
qk_starts_of sys (job.Kernel xs k) = length sys.objects
qk_starts_of sys (job.Source x) = 0

-- Its starts alone stand in the lane: to their end, where that is the answer, or as far as they came.
abbrev pub QkJobStartsAlone : System → Turn → QkJob → LaneView → Type 0
QkJobStartsAlone sys turn.Idle x v = AreStarts (qk_starts_of sys x) (untold_all v.told)
QkJobStartsAlone sys turn.Stopped x v = IsStartAlone (qk_starts_of sys x) (untold_all v.told)
QkJobStartsAlone sys turn.Memory x v = Unit {0}

-- or as far as they came, where memory wasn't refused
abbrev pub QkJobIsAlone : System → Turn → QkJob → LaneView → Type 0
QkJobIsAlone sys t x v = is_short t ≡ false → IsStartAlone (qk_starts_of sys x) (untold_all v.told)

-- between two turns
abbrev pub QkJobRests : System → ℕ → QkJob → LaneView → Type 0
QkJobRests sys budget (job.Kernel xs k) v = KernelRests sys budget xs k v
QkJobRests sys budget (job.Source x) v = IsCursorAt sys x v

-- where the run stops early, the lane may end so
abbrev pub QkJobStops : System → ℕ → QkJob → LaneView → Type 0
QkJobStops sys budget (job.Kernel xs k) v = KernelStops sys budget xs k v
QkJobStops sys budget (job.Source x) v = (kernel end : ℕ) → may_try kernel ≡ true → may_cut end ≡ true → SourceLeaves sys kernel end (mine x) v.told

-- behind a turn with this answer; where it isn't the end of the turn, the lane tells why
abbrev pub QkJobStands : System → ℕ → Turn → QkJob → LaneView → Type 0
QkJobStands sys budget turn.Idle x v = QkJobRests sys budget x v
QkJobStands sys budget turn.Stopped x v = QkJobStops sys budget x v × HasStopped v
QkJobStands sys budget turn.Memory x v = HasStarved v

abbrev pub KernelStands : System → ℕ → Turn → Objects → Kernel → LaneView → Type 0
KernelStands sys budget turn.Idle xs k v = KernelRests sys budget xs k v
KernelStands sys budget turn.Stopped xs k v = KernelStops sys budget xs k v × HasStopped v
KernelStands sys budget turn.Memory xs k v = HasStarved v

-- what a turn of the kernel with this answer leaves of its objects and of its lane
pub record KernelTurns (acts : Bool) (sys : System) (budget : ℕ) (xs : Objects) (k : Kernel) (v : LaneView) (ys : Objects) (l : Kernel) (w : LaneView) (t : Turn) : Type 0 where
  pub goes : TurnsTo sys (under_qk budget) (stand_of k xs v) (stand_of l ys w) t
  pub order : TurnsInOrder acts sys (stand_of k xs v) (stand_of l ys w) t
  pub lane : LaneTurns acts v w t

-- the same of what runs in a lane
abbrev pub QkJobTurns : Bool → System → ℕ → QkJob → QkJob → LaneView → LaneView → Turn → Type 0
QkJobTurns acts sys budget (job.Kernel xs k) (job.Kernel ys l) v w t = KernelTurns acts sys budget xs k v ys l w t
QkJobTurns acts sys budget (job.Source x) (job.Source y) v w t = SourceTurns sys x y v w t
QkJobTurns acts sys budget _ _ v w t = ⊥

-- A worker's turn: that of what runs in its lane. Where an earlier one has stopped, it does nothing, and leaves that answer.
abbrev pub QkTurnsFrom : Bool → System → ℕ → Turn → QkJob → LaneView → Turn → QkJob → LaneView → Type 0
QkTurnsFrom acts sys budget turn.Idle x v t y w = QkJobTurns acts sys budget x y v w t
QkTurnsFrom acts sys budget turn.Stopped x v t y w = (t ≡ turn.Stopped) × (y ≡ x) × (w ≡ v)
QkTurnsFrom acts sys budget turn.Memory x v t y w = (t ≡ turn.Memory) × (y ≡ x) × (w ≡ v)

-- before the start
abbrev pub QkJobBegins : System → QkJob → LaneView → Type 0
QkJobBegins sys (job.Kernel xs k) v = KernelBegins sys xs k v
QkJobBegins sys (job.Source x) v = IsCursorAt sys x v

-- where the run stopped early, the lane may end so; nothing is known of objects whose start broke off
abbrev pub JobMayEnd : System → ℕ → QkJob → LaneView → Type 0
JobMayEnd sys budget (job.Kernel xs k) v = KernelEnds sys budget v
JobMayEnd sys budget (job.Source x) v = (kernel end : ℕ) → may_try kernel ≡ true → may_cut end ≡ true → SourceLeaves sys kernel end (mine x) v.told

-- where the run has ended, and why it did for one that doesn't rest
abbrev pub QkJobEnds : System → ℕ → Turn → QkJob → LaneView → Type 0
QkJobEnds sys budget turn.Idle x v = JobMayEnd sys budget x v
QkJobEnds sys budget turn.Stopped x v = JobMayEnd sys budget x v × HasStopped v
QkJobEnds sys budget turn.Memory x v = HasStarved v

-- behind the start
abbrev pub JobStarts : System → ℕ → Turn → QkJob → LaneView → Type 0
JobStarts sys budget turn.Idle x v = QkJobRests sys budget x v
JobStarts sys budget turn.Stopped x v = JobMayEnd sys budget x v × HasStopped v
JobStarts sys budget turn.Memory x v = HasStarved v
