use Rattle.qp_model.specs.Shapes.{Drops}
use Rattle.qp_check_shapes.specs.ShapeAction.{IsWhole}
use Rattle.qp_check_shapes.proofs.ObjectTurnLemmas.{turn-body, turn-headless, turn-look}
use Rattle.qp_check_shapes.proofs.object_turns.behind_turn.Goals as goal

pub returns-in-Some-behind_head : goal.returns-in-Some-behind_head
returns-in-Some-behind_head c =
    turn-body (IsWhole c.args.scene.now.sys.now c.args.scene.now.o) Drops c.args.nils c.args.told.now c.in-Some-behind_head.body.now c.in-Some.e _ c.in-Some.ensures c.in-Some-behind_head.ensures
    c.behind_body.ensures

pub returns-in-None-behind_head : goal.returns-in-None-behind_head
returns-in-None-behind_head c =
    turn-headless (IsWhole c.args.scene.now.sys.now c.args.scene.now.o) Drops c.args.nils c.args.told.now c.in-Some.e c.in-Some.ensures c.in-None-behind_head.ensures

pub returns-in-None : goal.returns-in-None
returns-in-None c =
    turn-look (IsWhole c.args.scene.now.sys.now c.args.scene.now.o) Drops c.args.nils c.args.told.now _ c.in-None.ensures c.behind_look.ensures
