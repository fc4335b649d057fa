use Rattle.std.proofs.Common.{◌∙◌, ap, sym, subst}
use Rattle.qp_table.specs.Counting.{Each}
use Rattle.qp_table.specs.First.{IsFreshServe}
use Rattle.qp_table.specs.declared.view.View.{View}
use Rattle.qp_side.specs.declared.view.SideView.{SideView}
use Rattle.qp_side.specs.Seats.{in_set}
use Rattle.qp_shared.proofs.Serving.{failing-fresh}
use Rattle.qp_shared.proofs.Roots.{given-views, root-left, side-left}
use Rattle.qp_shared.proofs.shared.Shared.give.Goals as goal

pub seated-requires-clause-views : goal.seated-requires-clause-views
seated-requires-clause-views c = given-views c.args.number c.args.count (in_set c.args.objects) c.args.root.now.seat.me.0 c.args.root.now.side.me.0 c.give_lane-seat.result.me.0 c.give_seat-beside.result.me.0
    c.requires.some c.give_lane-seat.ensures.seat c.give_seat-beside.ensures.seat (ap (λ (z : SideView). z.view.serves) c.requires.root.side_table)

pub returns-clause-root : goal.returns-clause-root
returns-clause-root c = record {
  own = c.give_lane-seat.ensures.same.0 ∙ c.requires.root.own;
  beside = c.give_seat-beside.ensures.same.0 ∙ c.requires.root.beside;
  bare = c.give_seat-beside.ensures.same.2 ∙ c.requires.root.bare;
  table = root-left c.args.number (in_set c.args.objects) c.args.root.now.seat.me.0 c.give_lane-seat.new.root.me.0 c.requires.few c.requires.root.table c.give_lane-seat.ensures.root;
  side_table = side-left c.args.number (in_set c.args.objects) c.args.root.now.side.me.0 c.give_seat-beside.new.root.me.0 c.args.root.now.seat.me.0.serves c.give_lane-seat.new.root.me.0.serves c.requires.some c.requires.few c.requires.root.side_table
      c.give_seat-beside.ensures.root (sym (ap (λ (z : View). z.serves) c.give_lane-seat.ensures.root));
  fresh = subst (Each IsFreshServe) (sym (ap (λ (z : View). z.serves) c.give_lane-seat.ensures.root)) (failing-fresh (in_set c.args.objects) c.args.root.now.seat.me.0.serves c.requires.root.fresh);
}
