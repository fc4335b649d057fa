use Rattle.qp_check_calls.specs.AsPiece.{as_cut}
use Rattle.qp_check_shapes.specs.GroupsLast.{group_kinds}
use Rattle.qp_check_shapes.proofs.ObjectTestLemmas.{tail-steps, tail-takes, tail-else}
use Rattle.qp_check_shapes.proofs.object_shape.is_tail.Goals as goal

pub returns-in-Some-behind_head : goal.returns-in-Some-behind_head
returns-in-Some-behind_head c =
    tail-steps (group_kinds c.args.scene.now.sys.now c.args.scene.now.o (as_cut c.args.cut)) c.args.told.now c.in-Some-behind_head.body.now c.in-Some.e c.ends_step.result c.in-Some.ensures
    c.in-Some-behind_head.ensures c.ends_step.ensures

pub returns-in-None-behind_head : goal.returns-in-None-behind_head
returns-in-None-behind_head c =
    tail-takes (group_kinds c.args.scene.now.sys.now c.args.scene.now.o (as_cut c.args.cut)) c.args.told.now c.in-Some.e c.is_taken_only.result c.in-Some.ensures c.in-None-behind_head.ensures
    c.is_taken_only.ensures

pub returns-in-None : goal.returns-in-None
returns-in-None c =
    tail-else (group_kinds c.args.scene.now.sys.now c.args.scene.now.o (as_cut c.args.cut)) c.args.told.now c.is_spent.result c.in-None.ensures c.is_spent.ensures
