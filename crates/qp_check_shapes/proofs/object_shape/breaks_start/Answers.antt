use Rattle.std.proofs.Common.{None, sym}
use Rattle.qp_check_calls.specs.AsPiece.{as_cut}
use Rattle.qp_check_shapes.specs.ShapeAction.{IsWhole}
use Rattle.qp_check_shapes.specs.GroupsRead.{Breaks}
use Rattle.qp_check_shapes.specs.GroupsLast.{LastOf, is_cut, start_cut}
use Rattle.qp_check_shapes.proofs.ObjectShapeLemmas.{break-decided, break-not, first-decided}
use Rattle.qp_check_shapes.proofs.object_shape.breaks_start.Goals as goal

pub returns-then-is_cut : goal.returns-then-is_cut
returns-then-is_cut c =
    break-decided (Breaks (IsWhole c.args.scene.now.sys.now c.args.scene.now.o None) (LastOf c.args.scene.now.sys.now c.args.scene.now.o (start_cut (as_cut c.args.cut)) None) c.args.told.now)
    (is_cut (as_cut c.args.cut)) c.breaks_off.result (sym c.if-is_cut.ensures)
    (first-decided c.args.scene.now.sys.now c.args.scene.now.o (as_cut c.args.cut) (as_cut c.start_cut.result) c.args.told.now c.breaks_off.result c.start_cut.ensures c.breaks_off.ensures)

pub returns-else-is_cut : goal.returns-else-is_cut
returns-else-is_cut c =
    break-not (Breaks (IsWhole c.args.scene.now.sys.now c.args.scene.now.o None) (LastOf c.args.scene.now.sys.now c.args.scene.now.o (start_cut (as_cut c.args.cut)) None) c.args.told.now)
    (is_cut (as_cut c.args.cut)) (sym c.if-is_cut.ensures)
