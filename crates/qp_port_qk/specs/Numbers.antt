-- What is counted of a worker.
use Rattle.std.specs.Prelude.{◌≡◌, ℕ, ◌≤◌, true}
use Rattle.std.proofs.Common.{arith}
use Rattle.qp_model.specs.declared.systems.System.{System}
use Rattle.qp_calls.specs.LaneView.{LaneView}
use Rattle.qp_dispatch.specs.declared.objects.Turn.{Turn}
use Rattle.qp_kernel.specs.Turning.{under_qk}
use Rattle.qp_kernel_turns.specs.TurnRows.{idle_rows}
use Rattle.qp_port_lanes.specs.Passing.{settles_of}
use Rattle.qp_port_phases.specs.Rows.{Numbers}
use Rattle.qp_port_qk.specs.declared.job.QkJob.{QkJob}
use Rattle.qp_port_qk.specs.declared.job.QkJob.TheVariants as job
use Rattle.qp_port_lanes.specs.Answers.{is_short}
use Rattle.qp_port_qk.specs.Jobs.{IsSameQkJob, is_source}

-- the rows at the base without a step in the kernel's lane; a source has none
abbrev pub job_rows : System → ℕ → QkJob → LaneView → ℕ
job_rows sys budget (job.Kernel xs k) v = idle_rows sys (under_qk budget) v
job_rows sys budget (job.Source x) v = 0

abbrev pub numbers_of : System → ℕ → Turn → QkJob → LaneView → Numbers
numbers_of sys budget t x v = record { rows = job_rows sys budget x v; settles = settles_of v.told; lost = is_short t }

-- a turn of a source ends no row
pub source-rows : (s t : System) (b c : ℕ) (x y : QkJob) (v w : LaneView) → IsSameQkJob x y → is_source x ≡ true → job_rows t c y w ≤ job_rows s b x v
source-rows s t b c (job.Source x) (job.Source y) v w same is = omega arith
source-rows s t b c (job.Source x) (job.Kernel ys l) v w same is = absurd same
source-rows s t b c (job.Kernel xs k) y v w same is = absurd (cc)
