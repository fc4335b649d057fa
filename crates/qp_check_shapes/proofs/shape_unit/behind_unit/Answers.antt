use Rattle.std.proofs.Common.{sym, subst}
use Rattle.qp_check_shapes.specs.ShapeRelease.{IsUnambiguous}
use Rattle.qp_check_shapes.specs.ShapeUnit.{IsUnit}
use Rattle.qp_check_shapes.proofs.ShapeUnitLemmas.{unit-leaves}
use Rattle.qp_check_shapes.proofs.shape_unit.behind_unit.Goals as goal

pub returns : goal.returns
returns c =
    subst (λ r. IsUnambiguous (IsUnit c.args.scene.now.sys.now c.args.scene.now.o c.args.now) c.args.told.now r) (sym c.unit_first.ensures)
    (unit-leaves c.args.scene.now.sys.now c.args.scene.now.o c.args.now c.args.told.now)
