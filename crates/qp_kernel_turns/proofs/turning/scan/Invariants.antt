use Rattle.qp_model.specs.KernelLane.{above}
use Rattle.qp_calls.specs.LaneView.{LaneView}
use Rattle.qp_told.specs.Steps.{TellsSteps}
use Rattle.qp_kernel_turns.specs.BaseRows.{InRow}
use Rattle.qp_kernel_turns.specs.Counting.{Asks, Begin}
use Rattle.qp_kernel_turns.specs.Lanes.{LaneGoes}
use Rattle.qp_kernel_turns.specs.Ordering.{PassedInOrder}
use Rattle.qp_kernel_turns.specs.Turning.{Passed, row_below, stand_of, terms_of}
use Rattle.qp_kernel_turns.proofs.turning.scan.Given as goal

-- the objects visited so far had empty queues
abbrev pub invariant-loop-place : goal.invariant-loop-place
invariant-loop-place g l =
    record {
      passed : Passed (row_below l.at.sys.now l.floor l.place) l.at.sys.now (terms_of l.at) (stand_of l.fn.kernel l.fn.objects (g.W.Ops.lane l.fn.world)) (stand_of l.kernel l.objects (g.W.Ops.lane l.world));
      order : PassedInOrder g.W.World.acts l.at.sys.now l.floor l.place (stand_of l.fn.kernel l.fn.objects (g.W.Ops.lane l.fn.world)) (stand_of l.kernel l.objects (g.W.Ops.lane l.world));
      lane : LaneGoes g.W.World.acts (g.W.Ops.lane l.fn.world) (g.W.Ops.lane l.world);
      begun : Begin 0 l.fn.kernel l.kernel l.fn.objects l.objects;
      tells : TellsSteps l.fn.kernel.steps l.kernel.steps l.fn.gate.steps.list l.gate.steps.list;
      asks : Asks g.W.World.acts l.fn.kernel l.kernel (g.W.Ops.lane l.fn.world) (g.W.Ops.lane l.world);
      rows : (u : LaneView) → InRow l.at.sys.now (terms_of l.at) (above l.at.sys.now l.floor) u (g.W.Ops.lane l.fn.world) → InRow l.at.sys.now (terms_of l.at) (row_below l.at.sys.now l.floor l.place) u (g.W.Ops.lane l.world);
    }
