use Rattle.qp_check_calls.specs.AsPiece.{as_cut}
use Rattle.qp_check_shapes.specs.ShapeAction.{IsWhole}
use Rattle.qp_check_shapes.specs.GroupsLast.{LastOf}
use Rattle.qp_check_shapes.proofs.GroupsEndLemmas.{end-plainly, end-decided}
use Rattle.qp_check_shapes.proofs.groups_end.is_end.Goals as goal

pub returns-then-is_last : goal.returns-then-is_last
returns-then-is_last c =
    end-plainly (IsWhole c.args.scene.now.sys.now c.args.scene.now.o c.args.now) (LastOf c.args.scene.now.sys.now c.args.scene.now.o (as_cut c.args.cut) c.args.now) c.args.told.now c.if-is_last.ensures

pub returns : goal.returns
returns c =
    end-decided (IsWhole c.args.scene.now.sys.now c.args.scene.now.o c.args.now) (LastOf c.args.scene.now.sys.now c.args.scene.now.o (as_cut c.args.cut) c.args.now) c.args.told.now
    c.is_under_ceiling.result c.if-is_last.ensures c.is_under_ceiling.ensures
