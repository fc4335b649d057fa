use Rattle.qp_check_shapes.specs.ShapeAction.{IsWhole}
use Rattle.qp_check_shapes.specs.GroupsRead.{IsElement}
use Rattle.qp_check_shapes.proofs.GroupsLawLemmas.{whole-parts}
use Rattle.qp_check_shapes.proofs.GroupsElementLemmas.{element-parts}
use Rattle.qp_check_shapes.proofs.GroupsLoopLemmas.{reads-none, reads-more, reads-all, reads-shorter}
use Rattle.qp_check_shapes.proofs.groups.behind_groups.Goals as goal

pub loop-rest-init : goal.loop-rest-init
loop-rest-init c = reads-none (IsElement (IsWhole c.args.scene.now.sys.now c.args.scene.now.o c.args.now)) c.args.told.now

pub loop-rest-preserved : goal.loop-rest-preserved
loop-rest-preserved c = reads-more (IsElement (IsWhole c.args.scene.now.sys.now c.args.scene.now.o c.args.now)) c.args.told.now c.loop-rest.left.now c.in-Some.rest.now c.loop-rest.invariant c.in-Some.ensures

pub loop-rest-smaller : goal.loop-rest-smaller
loop-rest-smaller c = reads-shorter (IsElement (IsWhole c.args.scene.now.sys.now c.args.scene.now.o c.args.now)) (element-parts (IsWhole c.args.scene.now.sys.now c.args.scene.now.o c.args.now) (whole-parts c.args.scene.now.sys.now c.args.scene.now.o c.args.now)).filled c.loop-rest.left.now c.in-Some.rest.now c.in-Some.ensures

pub returns-in-None : goal.returns-in-None
returns-in-None c = reads-all (IsElement (IsWhole c.args.scene.now.sys.now c.args.scene.now.o c.args.now)) c.args.told.now c.loop-rest.left.now c.loop-rest.invariant c.in-None.ensures
