use Rattle.std.proofs.Common.{sym, subst}
use Rattle.qp_check_calls.specs.Decides.{Decides}
use Rattle.qp_check_shapes.specs.ShapeAction.{StopsInside}
use Rattle.qp_check_shapes.proofs.ShapeDecideLemmas.{stops-decides}
use Rattle.qp_check_shapes.proofs.shape_action.stops_in_publication.Goals as goal

pub returns : goal.returns
returns c =
    λ now. subst (λ r. Decides r (StopsInside c.args.scene.now.sys.now c.args.scene.now.o now c.args.told.now)) (sym c.stops_first.ensures)
    (stops-decides c.args.scene.now.sys.now c.args.scene.now.o now c.args.told.now)
