-- What runs in a lane, and where it stands there.
use Rattle.std.specs.Prelude.{◌≡◌, ℕ, Bool, true, false, [], ⊤}
use Rattle.qp_model.specs.declared.systems.System.{System}
use Rattle.qp_model.specs.Kernels.{may_try}
use Rattle.qp_model.specs.Ends.{may_cut}
use Rattle.qp_calls.specs.LaneView.{LaneView}
use Rattle.qp_dispatch.specs.declared.objects.Turn.{Turn}
use Rattle.qp_dispatch.specs.declared.objects.Turn.TheVariants as turn
use Rattle.qp_kernel_turns.specs.Lanes.{LaneTurns}
use Rattle.qp_model_order.specs.SourceRun.{untold_all}
use Rattle.qp_port_law.specs.SourcesLeft.{SourceLeaves}
use Rattle.qp_kernel.specs.Starts.{AreStarts, IsStartAlone}
use Rattle.qp_port_lanes.specs.At.{HasEmptyLane, IsHome, IsUnstartedHome}
use Rattle.qp_port_phases.specs.declared.lanes.Passed.{Passed}
use Rattle.qp_port_phases.specs.Stopping.{HasStarved, HasStopped}
use Rattle.qp_port_lanes.specs.Turning.{HomeStops, HomeTurns}
use Rattle.qp_port_lanes.specs.Answers.{is_short, turn_by}
use Rattle.qp_port_lanes.specs.CursorAt.{IsCursorAt, at_settle_in, left_in, mine}
use Rattle.qp_port_lanes.specs.SourceTurning.{SourceTurns}
use Rattle.qp_port.specs.declared.job.Job.{Job}
use Rattle.qp_port.specs.declared.job.Job.TheVariants as job

-- a source that stands at a `settle`
abbrev pub stands_at_settle : Job → Bool
stands_at_settle job.Nothing = false
stands_at_settle (job.Home x) = false
stands_at_settle (job.Source x) = at_settle_in x

-- a source that has a stimulus left
abbrev pub is_left_in : Job → Bool
is_left_in job.Nothing = false
is_left_in (job.Home x) = false
is_left_in (job.Source x) = left_in x

-- the same object, or a source of the same stimuli
abbrev pub IsSameJob : Job → Job → Type 0
IsSameJob job.Nothing job.Nothing = ⊤
IsSameJob (job.Home x) (job.Home y) = y.me ≡ x.me
IsSameJob (job.Source x) (job.Source y) = mine y ≡ mine x
IsSameJob _ _ = ⊥

-- nothing has happened in the lane
pub record IsEmptyLane (v : LaneView) : Type 0 where
  pub told : v.told ≡ []
  pub hands : v.hands ≡ []

-- before the start
abbrev pub JobBegins : System → Job → LaneView → Type 0
JobBegins sys job.Nothing v = IsEmptyLane v
JobBegins sys (job.Home x) v = IsUnstartedHome sys x.me x × HasEmptyLane sys x.me v
JobBegins sys (job.Source x) v = IsCursorAt sys x v

-- between two turns
abbrev pub JobRests : System → ℕ → Job → LaneView → Type 0
JobRests sys budget job.Nothing v = IsEmptyLane v
JobRests sys budget (job.Home x) v = IsHome sys budget x v
JobRests sys budget (job.Source x) v = IsCursorAt sys x v

-- where the run stops early, the lane may end so
abbrev pub JobStops : System → ℕ → Job → LaneView → Type 0
JobStops sys budget job.Nothing v = IsEmptyLane v
JobStops sys budget (job.Home x) v = HomeStops sys budget x.me x v
JobStops sys budget (job.Source x) v = (kernel end : ℕ) → may_try kernel ≡ true → may_cut end ≡ true → SourceLeaves sys kernel end (mine x) v.told

-- behind a turn with this answer; where it isn't the end of the turn, the lane tells why
abbrev pub JobStands : System → ℕ → Turn → Job → LaneView → Type 0
JobStands sys budget turn.Idle x v = JobRests sys budget x v
JobStands sys budget turn.Stopped x v = JobStops sys budget x v × HasStopped v
JobStands sys budget turn.Memory x v = HasStarved v

-- what a turn of it with this answer leaves of it and of its lane: that of an object, or of a source
abbrev pub JobTurns : System → ℕ → Job → Job → LaneView → LaneView → Turn → Type 0
JobTurns sys budget job.Nothing job.Nothing v w t = (t ≡ turn.Idle) × (w ≡ v)
JobTurns sys budget (job.Home x) (job.Home y) v w t = HomeTurns sys budget x.me y w t × LaneTurns false v w t
JobTurns sys budget (job.Source x) (job.Source y) v w t = SourceTurns sys x y v w t
JobTurns sys budget _ _ v w t = ⊥

-- A worker's turn: that of what runs in its lane. Where an earlier one has stopped, it does nothing, and leaves that answer.
abbrev pub TurnsFrom : System → ℕ → Turn → Job → LaneView → Turn → Job → LaneView → Type 0
TurnsFrom sys budget turn.Idle x v t y w = JobTurns sys budget x y v w t
TurnsFrom sys budget turn.Stopped x v t y w = (t ≡ turn.Stopped) × (y ≡ x) × (w ≡ v)
TurnsFrom sys budget turn.Memory x v t y w = (t ≡ turn.Memory) × (y ≡ x) × (w ≡ v)

-- what is done in a lane behind a turn with this answer: something in that of a source alone
abbrev pub DoneBehindTurn : {O : Type 0} → (Turn → O → O → Type 0) → Job → Turn → O → O → Type 0
DoneBehindTurn Over job.Nothing t a b = b ≡ a
DoneBehindTurn Over (job.Home x) t a b = b ≡ a
DoneBehindTurn Over (job.Source x) t a b = Over t a b

-- that is the last that was done in a lane
pub record LaneEndsBehind {O : Type 0} (lane : O → LaneView) (Over : Turn → O → O → Type 0) (x : Job) (t : Turn) (b : O) : Type 0 where
  pub before : O
  pub still : lane b ≡ lane before
  pub over : DoneBehindTurn Over x t before b

-- how many objects start in the lane
abbrev pub starts_of : Job → ℕ
starts_of job.Nothing = 0
starts_of (job.Home x) = 1
starts_of (job.Source x) = 0

-- Its start alone stands in the lane: to its end, where that is the answer, or as far as it came.
abbrev pub JobStartsAlone : Turn → Job → LaneView → Type 0
JobStartsAlone turn.Idle x v = AreStarts (starts_of x) (untold_all v.told)
JobStartsAlone turn.Stopped x v = IsStartAlone (starts_of x) (untold_all v.told)
JobStartsAlone turn.Memory x v = Unit {0}

-- or as far as it came, where memory wasn't refused
abbrev pub JobIsAlone : Turn → Job → LaneView → Type 0
JobIsAlone t x v = is_short t ≡ false → IsStartAlone (starts_of x) (untold_all v.told)

-- behind a `settle` that was passed, or tried
abbrev pub JobPasses : System → ℕ → Passed → Job → LaneView → Type 0
JobPasses sys budget p x v = JobStands sys budget (turn_by p) x v

-- where the run has ended, want of memory apart
abbrev pub JobEnds : System → ℕ → Turn → Job → LaneView → Type 0
JobEnds sys budget turn.Idle x v = JobStops sys budget x v
JobEnds sys budget turn.Stopped x v = JobStops sys budget x v
JobEnds sys budget turn.Memory x v = Unit {0}
