use Rattle.qp_check_calls.specs.AsPiece.{as_cut}
use Rattle.qp_check_shapes.specs.ShapeAction.{IsWhole}
use Rattle.qp_check_shapes.specs.GroupsLast.{LastOf}
use Rattle.qp_check_shapes.proofs.GroupsLawLemmas.{whole-parts, last-lasts}
use Rattle.qp_check_shapes.proofs.GroupsEndLemmas.{breaks-decided}
use Rattle.qp_check_shapes.proofs.groups_end.breaks_off.Goals as goal

pub returns : goal.returns
returns c =
    breaks-decided (IsWhole c.args.scene.now.sys.now c.args.scene.now.o c.args.now) (LastOf c.args.scene.now.sys.now c.args.scene.now.o (as_cut c.args.cut) c.args.now)
    (whole-parts c.args.scene.now.sys.now c.args.scene.now.o c.args.now) (last-lasts c.args.scene.now.sys.now c.args.scene.now.o (as_cut c.args.cut) c.args.now) c.args.told.now
    c.behind_groups.result.now c.is_end.result c.behind_groups.ensures c.is_end.ensures
