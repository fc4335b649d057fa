use Rattle.qp_told.specs.Steps.{TellsSteps}
use Rattle.qp_kernel_turns.specs.Knowing.{MayLook}
use Rattle.qp_kernel_turns.specs.Counting.{AreCounted, Asks}
use Rattle.qp_kernel_turns.specs.Lanes.{LaneGoes}
use Rattle.qp_kernel_turns.specs.Ordering.{InOrder}
use Rattle.qp_kernel_turns.specs.Pending.{PendingStays}
use Rattle.qp_kernel_turns.specs.TurnRows.{SourcesAreApart, RowGoes}
use Rattle.std.specs.Prelude.{◌≡◌, []}
use Rattle.qp_kernel_turns.specs.Turning.{GoesOnward, Stood, stand_of, terms_of}
use Rattle.qp_kernel_turns.proofs.turning.rounds.Given as goal

-- a look may stand
abbrev pub invariant-loop : goal.invariant-loop
invariant-loop g l =
    record {
      knows : Stood (MayLook l.at.sys.now (terms_of l.at)) l.at.sys.now (terms_of l.at) (stand_of l.kernel l.objects (g.W.Ops.lane l.world));
      onward : GoesOnward l.fn.objects (g.W.Ops.lane l.fn.world) l.objects (g.W.Ops.lane l.world);
      order : InOrder g.W.World.acts l.at.sys.now l.kernel.looks (g.W.Ops.lane l.world);
      lane : LaneGoes g.W.World.acts (g.W.Ops.lane l.fn.world) (g.W.Ops.lane l.world);
      counted : AreCounted l.fn.kernel l.kernel l.fn.objects l.objects;
      tells : TellsSteps l.fn.kernel.steps l.kernel.steps l.fn.gate.steps.list l.gate.steps.list;
      asks : Asks g.W.World.acts l.fn.kernel l.kernel (g.W.Ops.lane l.fn.world) (g.W.Ops.lane l.world);
      rows : SourcesAreApart g.W.World.acts (terms_of l.at) → RowGoes l.at.sys.now (terms_of l.at) l.fn.kernel l.kernel (g.W.Ops.lane l.fn.world) (g.W.Ops.lane l.world);
      quiet : l.fn.kernel.stack.items ≡ [] → l.kernel.steps ≡ l.fn.kernel.steps → (l.kernel.stack.items ≡ []) × PendingStays (g.W.Ops.lane l.fn.world) (g.W.Ops.lane l.world);
    }
