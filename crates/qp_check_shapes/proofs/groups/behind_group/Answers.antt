use Rattle.std.proofs.Common.{sym}
use Rattle.qp_check_shapes.specs.ShapeAction.{IsWhole}
use Rattle.qp_check_shapes.specs.GroupsRead.{IsElement}
use Rattle.qp_check_shapes.proofs.GroupsLawLemmas.{whole-parts}
use Rattle.qp_check_shapes.proofs.GroupsElementLemmas.{element-parts}
use Rattle.qp_check_shapes.proofs.GroupsEndLemmas.{empty-is}
use Rattle.qp_check_shapes.proofs.GroupsFirstLemmas.{none-group, note-group, locked-group, acts-group}
use Rattle.qp_check_shapes.proofs.groups.behind_group.Goals as goal

pub returns-in-None : goal.returns-in-None
returns-in-None c =
    none-group (IsElement (IsWhole c.args.scene.now.sys.now c.args.scene.now.o c.args.now))
    (element-parts (IsWhole c.args.scene.now.sys.now c.args.scene.now.o c.args.now) (whole-parts c.args.scene.now.sys.now c.args.scene.now.o c.args.now)).filled c.args.told.now
    (empty-is c.args.told.now c.in-None.ensures.cases)

pub returns-then-is_told_move : goal.returns-then-is_told_move
returns-then-is_told_move c =
    note-group (IsWhole c.args.scene.now.sys.now c.args.scene.now.o c.args.now) (whole-parts c.args.scene.now.sys.now c.args.scene.now.o c.args.now) c.args.told.now c.in-Some.first.now c.in-Some.rest.now
    c.in-Some.ensures.cases.0 (sym c.if-is_told_move.ensures)

pub returns-in-Some-former_of : goal.returns-in-Some-former_of
returns-in-Some-former_of c =
    locked-group (IsWhole c.args.scene.now.sys.now c.args.scene.now.o c.args.now) (whole-parts c.args.scene.now.sys.now c.args.scene.now.o c.args.now) c.args.told.now c.in-Some.first.now
    c.in-Some.rest.now c.behind_actions.result.now c.in-Some-former_of.former _ c.in-Some.ensures.cases.0 (sym c.in-Some-former_of.ensures) c.behind_actions.ensures c.behind_unlock.ensures

pub returns-in-None-former_of : goal.returns-in-None-former_of
returns-in-None-former_of c =
    acts-group (IsWhole c.args.scene.now.sys.now c.args.scene.now.o c.args.now) c.args.told.now c.in-Some.first.now c.in-Some.rest.now _ c.in-Some.ensures.cases.0 (sym c.if-is_told_move.ensures)
    (sym c.in-None-former_of.ensures) c.behind_action.ensures
