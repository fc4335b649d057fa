use Rattle.std.proofs.Common.{true, length, refl, sym}
use Rattle.std.proofs.lemmas.Bool.{eqb-true}
use Rattle.qp_model.specs.Groups.{IsLast, Stops}
use Rattle.qp_check_shapes.specs.ShapeAction.{StopsInside}
use Rattle.qp_check_shapes.proofs.GroupsDecideLemmas.{decides-yes, decided, denied}
use Rattle.qp_check_shapes.proofs.GroupsEndLemmas.{empty-is, inside-last, stops-decided, some-is}
use Rattle.qp_check_shapes.proofs.groups_end.stops.Goals as goal

pub returns-then-is_empty : goal.returns-then-is_empty
returns-then-is_empty c =
    decides-yes (IsLast c.args.scene.now.sys.now c.args.scene.now.o c.args.now true c.args.told.now)
    (Stops refl (empty-is c.args.told.now (eqb-true (length c.args.told.now) 0 (sym c.if-is_empty.ensures))))

pub returns-then-stops_in_publication : goal.returns-then-stops_in_publication
returns-then-stops_in_publication c =
    decides-yes (IsLast c.args.scene.now.sys.now c.args.scene.now.o c.args.now true c.args.told.now)
    (inside-last c.args.scene.now.sys.now c.args.scene.now.o c.args.now c.args.told.now
    (decided (StopsInside c.args.scene.now.sys.now c.args.scene.now.o c.args.now c.args.told.now) c.stops_in_publication.result (c.stops_in_publication.ensures c.args.now) c.if-stops_in_publication.true))

pub returns : goal.returns
returns c =
    stops-decided c.args.scene.now.sys.now c.args.scene.now.o c.args.now c.args.told.now c.asserts.result
    (some-is c.args.told.now (sym c.if-is_empty.ensures))
    (denied (StopsInside c.args.scene.now.sys.now c.args.scene.now.o c.args.now c.args.told.now) c.stops_in_publication.result (c.stops_in_publication.ensures c.args.now) c.if-stops_in_publication.false)
    c.asserts.ensures
