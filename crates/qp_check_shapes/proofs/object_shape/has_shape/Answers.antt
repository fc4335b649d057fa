use Rattle.std.proofs.Common.{sym}
use Rattle.qp_check_calls.specs.AsPiece.{as_cut}
use Rattle.qp_check_shapes.proofs.ObjectShapeLemmas.{shape-decided, shape-not}
use Rattle.qp_check_shapes.proofs.object_shape.has_shape.Goals as goal

pub returns-then-asserts_last : goal.returns-then-asserts_last
returns-then-asserts_last c =
    shape-decided c.args.scene.now.sys.now c.args.scene.now.o c.args.nils (as_cut c.args.cut) c.args.told.now c.has_groups.result (sym c.if-asserts_last.ensures) c.has_groups.ensures

pub returns-else-asserts_last : goal.returns-else-asserts_last
returns-else-asserts_last c =
    shape-not c.args.scene.now.sys.now c.args.scene.now.o c.args.nils (as_cut c.args.cut) c.args.told.now (sym c.if-asserts_last.ensures)
