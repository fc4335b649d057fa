use Rattle.std.proofs.Common.{sym}
use Rattle.qp_check_calls.specs.AsPiece.{as_cut}
use Rattle.qp_check_shapes.specs.ShapeAction.{IsWhole}
use Rattle.qp_check_shapes.specs.GroupsLast.{LastOf}
use Rattle.qp_check_shapes.proofs.GroupsLawLemmas.{whole-parts, last-lasts}
use Rattle.qp_check_shapes.proofs.GroupsEndLemmas.{empty-is, under-empty, under-none, under-decided}
use Rattle.qp_check_shapes.proofs.groups_end.is_under_ceiling.Goals as goal

pub returns-in-None : goal.returns-in-None
returns-in-None c =
    under-empty (IsWhole c.args.scene.now.sys.now c.args.scene.now.o c.args.now) (LastOf c.args.scene.now.sys.now c.args.scene.now.o (as_cut c.args.cut) c.args.now) c.args.told.now
    (empty-is c.args.told.now c.in-None.ensures.cases)

pub returns-in-None-former_of : goal.returns-in-None-former_of
returns-in-None-former_of c =
    under-none (IsWhole c.args.scene.now.sys.now c.args.scene.now.o c.args.now) (LastOf c.args.scene.now.sys.now c.args.scene.now.o (as_cut c.args.cut) c.args.now) c.args.told.now c.in-Some.first.now
    c.in-Some.rest.now c.in-Some.ensures.cases.0 (sym c.in-None-former_of.ensures)

pub returns-in-Some-former_of : goal.returns-in-Some-former_of
returns-in-Some-former_of c =
    under-decided (IsWhole c.args.scene.now.sys.now c.args.scene.now.o c.args.now) (LastOf c.args.scene.now.sys.now c.args.scene.now.o (as_cut c.args.cut) c.args.now)
    (whole-parts c.args.scene.now.sys.now c.args.scene.now.o c.args.now) (last-lasts c.args.scene.now.sys.now c.args.scene.now.o (as_cut c.args.cut) c.args.now) c.args.told.now c.in-Some.first.now
    c.in-Some.rest.now c.behind_actions.result.now c.in-Some-former_of.field-0 c.is_last.result c.in-Some.ensures.cases.0 (sym c.in-Some-former_of.ensures) c.behind_actions.ensures c.is_last.ensures
