use Rattle.std.proofs.Common.{Some}
use Rattle.qp_model.specs.Shapes.{Drops}
use Rattle.qp_check_shapes.specs.ShapeAction.{IsWhole}
use Rattle.qp_check_shapes.specs.ObjectRead.{GroupsThenDone, FrontOf}
use Rattle.qp_check_shapes.proofs.GroupsDecideLemmas.{decides-no}
use Rattle.qp_check_shapes.proofs.GroupsLawLemmas.{whole-parts}
use Rattle.qp_check_shapes.proofs.ObjectTestLemmas.{closes-decided, closes-not}
use Rattle.qp_check_shapes.proofs.object_shape.ends_in_release.Goals as goal

pub returns-in-Some : goal.returns-in-Some
returns-in-Some c =
    closes-decided (IsWhole c.args.scene.now.sys.now c.args.scene.now.o (Some c.args.e)) (FrontOf (Drops c.args.e)) (whole-parts c.args.scene.now.sys.now c.args.scene.now.o (Some c.args.e)) c.args.told.now
    c.behind_groups.result.now c.in-Some.rest.now c.is_release_front.result c.behind_groups.ensures c.in-Some.ensures c.is_release_front.ensures

pub returns-in-None : goal.returns-in-None
returns-in-None c =
    decides-no (GroupsThenDone (IsWhole c.args.scene.now.sys.now c.args.scene.now.o (Some c.args.e)) (FrontOf (Drops c.args.e)) c.args.told.now)
    (closes-not (IsWhole c.args.scene.now.sys.now c.args.scene.now.o (Some c.args.e)) (FrontOf (Drops c.args.e)) (whole-parts c.args.scene.now.sys.now c.args.scene.now.o (Some c.args.e)) c.args.told.now
    c.behind_groups.result.now c.behind_groups.ensures c.in-None.ensures)
