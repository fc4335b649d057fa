use Rattle.qp_check_calls.specs.AsPiece.{as_cut}
use Rattle.qp_check_shapes.specs.GroupsLast.{group_kinds}
use Rattle.qp_check_shapes.proofs.ObjectTestLemmas.{start-goes, start-breaks}
use Rattle.qp_check_shapes.proofs.ObjectShapeLemmas.{kind-laws}
use Rattle.qp_check_shapes.proofs.object_shape.ends_start.Goals as goal

pub returns-in-Some : goal.returns-in-Some
returns-in-Some c =
    start-goes (group_kinds c.args.scene.now.sys.now c.args.scene.now.o (as_cut c.args.cut)) c.args.nils (kind-laws c.args.scene.now.sys.now c.args.scene.now.o (as_cut c.args.cut)) c.args.told.now
    c.behind_groups.result.now c.in-Some.rest.now c.behind_turns.result.now c.is_tail.result c.behind_groups.ensures c.in-Some.ensures c.behind_turns.ensures c.is_tail.ensures

pub returns-in-None : goal.returns-in-None
returns-in-None c =
    start-breaks (group_kinds c.args.scene.now.sys.now c.args.scene.now.o (as_cut c.args.cut)) c.args.nils (kind-laws c.args.scene.now.sys.now c.args.scene.now.o (as_cut c.args.cut)) c.args.told.now
    c.behind_groups.result.now c.breaks_start.result c.behind_groups.ensures c.in-None.ensures c.breaks_start.ensures
