-- What the parts of a run do.
use Rattle.std.specs.Prelude.{◌≡◌, ◌==◌, true, List}
use Rattle.qp_model.specs.declared.record.Rec.{Rec}
use Rattle.qp_model.specs.declared.systems.System.{System}
use Rattle.qp_model.specs.declared.journals.Journal.{Journal}
use Rattle.qp_model.specs.History.{all_items}
use Rattle.qp_model.specs.End.{end_of}
use Rattle.qp_stim.specs.Rules.{StimuliFit}
use Rattle.qp_calls.specs.LaneView.{LaneView}
use Rattle.qp_dispatch.specs.declared.objects.Turn.{Turn}
use Rattle.qp_dispatch.specs.declared.objects.Turn.TheVariants as turn
use Rattle.qp_kernel_turns.specs.declared.objects.Objects.{Objects}
use Rattle.qp_kernel_turns.specs.Objects.{AreMade}
use Rattle.qp_kernel_turns.specs.Starting.{IsFreshLane}
use Rattle.qp_kernel_runs.specs.Left.{IsIdle, HasStoppedEarly}
use Rattle.qp_kernel.specs.Turning.{Terms, kernel_in}

-- the lane and the objects of a run that begins
pub record MayRunKernel (sys : System) (xs : Objects) (v : LaneView) : Type 0 where
  pub made : AreMade sys xs
  pub fresh : IsFreshLane sys v
  pub fit : StimuliFit sys v.plan

-- the run came to its end, or stopped early; the system and the stimuli are as they were
pub record RunsOn (v w : LaneView) : Type 0 where
  pub of : w.sys ≡ v.sys
  pub plan : w.plan ≡ v.plan

abbrev pub KernelRunsTo : System → Terms → LaneView → LaneView → Turn → Type 0
KernelRunsTo sys terms v w turn.Idle = RunsOn v w × IsIdle sys terms w
KernelRunsTo sys terms v w turn.Stopped = RunsOn v w × HasStoppedEarly sys terms w
KernelRunsTo sys terms v w turn.Memory = Unit {0}

-- the journal of these lanes, with the end that their records state
pub record IsClosed (lanes : List (List Rec)) (terms : Terms) (j : Journal) : Type 0 where
  pub kernel : j.kernel ≡ kernel_in terms
  pub budget_is : j.budget ≡ terms.budget
  pub lanes_are : j.lanes ≡ lanes
  pub stated : (j.end == end_of (all_items lanes)) ≡ true
