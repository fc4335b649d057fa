use Rattle.qp_check_calls.specs.AsPiece.{as_cut}
use Rattle.qp_check_shapes.proofs.ObjectShapeLemmas.{groups-decided, unbegun-decided}
use Rattle.qp_check_shapes.proofs.object_shape.has_groups.Goals as goal

pub returns-in-Some : goal.returns-in-Some
returns-in-Some c =
    groups-decided c.args.scene.now.sys.now c.args.scene.now.o c.args.nils (as_cut c.args.cut) c.args.told.now c.in-Some.rest.now c.ends_start.result c.in-Some.ensures c.ends_start.ensures

pub returns-in-None : goal.returns-in-None
returns-in-None c =
    unbegun-decided c.args.scene.now.sys.now c.args.scene.now.o c.args.nils (as_cut c.args.cut) c.args.told.now c.is_unbegun.result c.in-None.ensures c.is_unbegun.ensures
