use Rattle.qp_model.specs.Shapes.{Drops}
use Rattle.qp_check_shapes.specs.ShapeAction.{IsWhole}
use Rattle.qp_check_shapes.specs.ObjectRead.{IsTurnOf}
use Rattle.qp_check_shapes.proofs.GroupsLoopLemmas.{reads-none, reads-more, reads-all, reads-shorter}
use Rattle.qp_check_shapes.proofs.ObjectReadLemmas.{turn-filled-at}
use Rattle.qp_check_shapes.proofs.object_turns.behind_turns.Goals as goal

pub loop-rest-init : goal.loop-rest-init
loop-rest-init c = reads-none (IsTurnOf (IsWhole c.args.scene.now.sys.now c.args.scene.now.o) Drops c.args.nils) c.args.told.now

pub loop-rest-preserved : goal.loop-rest-preserved
loop-rest-preserved c =
    reads-more (IsTurnOf (IsWhole c.args.scene.now.sys.now c.args.scene.now.o) Drops c.args.nils) c.args.told.now c.loop-rest.left.now c.in-Some.rest.now c.loop-rest.invariant c.in-Some.ensures

pub loop-rest-smaller : goal.loop-rest-smaller
loop-rest-smaller c =
    reads-shorter (IsTurnOf (IsWhole c.args.scene.now.sys.now c.args.scene.now.o) Drops c.args.nils) (turn-filled-at (IsWhole c.args.scene.now.sys.now c.args.scene.now.o) Drops c.args.nils)
    c.loop-rest.left.now c.in-Some.rest.now c.in-Some.ensures

pub returns-in-None : goal.returns-in-None
returns-in-None c =
    reads-all (IsTurnOf (IsWhole c.args.scene.now.sys.now c.args.scene.now.o) Drops c.args.nils) c.args.told.now c.loop-rest.left.now c.loop-rest.invariant c.in-None.ensures
