use Rattle.std.proofs.Common.{sym, subst}
use Rattle.qp_check_shapes.specs.ShapeRelease.{IsUnambiguous}
use Rattle.qp_check_shapes.specs.ShapeAssertion.{IsAsserted}
use Rattle.qp_check_shapes.proofs.ShapeAssertedLemmas.{assertion-leaves}
use Rattle.qp_check_shapes.proofs.shape_assertion.behind_assertion.Goals as goal

pub returns : goal.returns
returns c =
    subst (λ r. IsUnambiguous (IsAsserted c.args.scene.now.sys.now c.args.scene.now.o c.args.now) c.args.told.now r) (sym c.assertion_first.ensures)
    (assertion-leaves c.args.scene.now.sys.now c.args.scene.now.o c.args.now c.args.told.now)
