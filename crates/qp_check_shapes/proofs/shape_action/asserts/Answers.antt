use Rattle.std.proofs.Common.{sym, subst}
use Rattle.qp_check_calls.specs.Decides.{Decides}
use Rattle.qp_check_shapes.specs.ShapeAction.{IsCut}
use Rattle.qp_check_shapes.proofs.ShapeDecideLemmas.{asserts-decides}
use Rattle.qp_check_shapes.proofs.shape_action.asserts.Goals as goal

pub returns : goal.returns
returns c =
    subst (λ r. Decides r (IsCut c.args.scene.now.sys.now c.args.scene.now.o c.args.now c.args.told.now)) (sym c.asserts_first.ensures)
    (asserts-decides c.args.scene.now.sys.now c.args.scene.now.o c.args.now c.args.told.now)
