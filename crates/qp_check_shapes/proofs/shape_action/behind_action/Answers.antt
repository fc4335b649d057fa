use Rattle.std.proofs.Common.{sym, subst}
use Rattle.qp_check_shapes.specs.ShapeRelease.{IsUnambiguous}
use Rattle.qp_check_shapes.specs.ShapeAction.{IsWhole}
use Rattle.qp_check_shapes.proofs.ShapeActionLemmas.{action-leaves}
use Rattle.qp_check_shapes.proofs.shape_action.behind_action.Goals as goal

pub returns : goal.returns
returns c =
    subst (λ r. IsUnambiguous (IsWhole c.args.scene.now.sys.now c.args.scene.now.o c.args.now) c.args.told.now r) (sym c.action_first.ensures)
    (action-leaves c.args.scene.now.sys.now c.args.scene.now.o c.args.now c.args.told.now)
