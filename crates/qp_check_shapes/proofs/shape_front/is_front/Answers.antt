use Rattle.std.proofs.Common.{sym, subst}
use Rattle.qp_check_calls.specs.Decides.{Decides}
use Rattle.qp_check_shapes.specs.ShapeAction.{IsFront}
use Rattle.qp_check_shapes.proofs.ShapeFrontsLemmas.{front-decides}
use Rattle.qp_check_shapes.proofs.shape_front.is_front.Goals as goal

pub returns : goal.returns
returns c =
    subst (λ r. Decides r (IsFront c.args.scene.now.sys.now c.args.scene.now.o c.args.now c.args.told.now)) (sym c.begins.ensures)
    (front-decides c.args.scene.now.sys.now c.args.scene.now.o c.args.now c.args.told.now)
