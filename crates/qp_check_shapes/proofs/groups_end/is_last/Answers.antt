use Rattle.std.proofs.Common.{length, sym, ap}
use Rattle.std.proofs.lemmas.Bool.{eqb-true}
use Rattle.qp_check_calls.specs.AsPiece.{as_cut}
use Rattle.qp_check_shapes.proofs.GroupsEndLemmas.{empty-is, some-is, whole-decided, stopped-decided, none-decided, front-decided}
use Rattle.qp_check_shapes.proofs.groups_end.is_last.Goals as goal

pub returns-in-Whole : goal.returns-in-Whole
returns-in-Whole c =
    whole-decided c.args.scene.now.sys.now c.args.scene.now.o c.args.now c.args.told.now (as_cut c.args.cut) c.asserts.result (ap as_cut c.in-Whole.is) c.asserts.ensures

pub returns-in-Stopped : goal.returns-in-Stopped
returns-in-Stopped c =
    stopped-decided c.args.scene.now.sys.now c.args.scene.now.o c.args.now c.args.told.now (as_cut c.args.cut) c.stops.result (ap as_cut c.in-Stopped.is) c.stops.ensures

pub returns-then-is_empty : goal.returns-then-is_empty
returns-then-is_empty c =
    none-decided c.args.scene.now.sys.now c.args.scene.now.o c.args.now c.args.told.now (as_cut c.args.cut) (ap as_cut c.in-Anywhere.is)
    (empty-is c.args.told.now (eqb-true (length c.args.told.now) 0 (sym c.if-is_empty.ensures)))

pub returns-else-is_empty : goal.returns-else-is_empty
returns-else-is_empty c =
    front-decided c.args.scene.now.sys.now c.args.scene.now.o c.args.now c.args.told.now (as_cut c.args.cut) c.is_front.result (ap as_cut c.in-Anywhere.is)
    (some-is c.args.told.now (sym c.if-is_empty.ensures)) c.is_front.ensures
