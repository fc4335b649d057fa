use Rattle.std.proofs.Common.{Some}
use Rattle.qp_model.specs.Shapes.{Drops}
use Rattle.qp_check_shapes.specs.ShapeAction.{IsWhole}
use Rattle.qp_check_shapes.proofs.GroupsLawLemmas.{whole-parts}
use Rattle.qp_check_shapes.proofs.ObjectTurnLemmas.{closes-leaves, closes-none}
use Rattle.qp_check_shapes.proofs.ObjectReleaseLemmas.{release-group}
use Rattle.qp_check_shapes.proofs.object_turns.behind_body.Goals as goal

pub returns-in-Some : goal.returns-in-Some
returns-in-Some c =
    closes-leaves (IsWhole c.args.scene.now.sys.now c.args.scene.now.o (Some c.args.e)) (Drops c.args.e) (whole-parts c.args.scene.now.sys.now c.args.scene.now.o (Some c.args.e)) c.args.told.now
    c.behind_groups.result.now c.in-Some.rest.now _ c.behind_groups.ensures c.in-Some.ensures (release-group c.args.e c.in-Some.rest.now _ c.behind_release.ensures)

pub returns-in-None : goal.returns-in-None
returns-in-None c =
    closes-none (IsWhole c.args.scene.now.sys.now c.args.scene.now.o (Some c.args.e)) (Drops c.args.e) (whole-parts c.args.scene.now.sys.now c.args.scene.now.o (Some c.args.e)) c.args.told.now
    c.behind_groups.result.now c.behind_groups.ensures c.in-None.ensures
