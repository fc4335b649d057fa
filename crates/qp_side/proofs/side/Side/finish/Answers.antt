use Rattle.std.proofs.Common.{◌≡◌, [], Some, map, sym, ap, subst, ◌∙◌, arith}
use Rattle.std.proofs.lemmas.List.Elements.{All-pop}
use Rattle.qp_side.specs.Ending.{joined_last}
use Rattle.qp_side.specs.declared.seat.SideSeat.{SideSeat}
use Rattle.qp_side.specs.Laws.{IsSideWhole}
use Rattle.qp_side.proofs.EndLemmas.{ends}
use Rattle.qp_side.proofs.Finishing.{view_of, joined-next, rights-next, one-each}
use Rattle.qp_table.proofs.Facts.{none-long}
use Rattle.qp_side.proofs.side.Side.finish.Goals as goal

pub returns : goal.returns
returns c =
    let i = c.loop-next.invariant in
    let none : c.loop-next.seats.items ≡ [] = (let ok = c.loop-next.seats.ok.0 in let e = c.in_default.ensures.cases.0 in none-long c.loop-next.seats.items (omega arith)) in
    let whole : IsSideWhole c.args.self.now.words.shared.key (joined_last c.args.root.seat.me.0 (map view_of c.args.seats.items)) =
    subst (IsSideWhole c.args.self.now.words.shared.key) (ap (λ xs. joined_last c.loop-next.whole.me.0 (map view_of xs)) (sym none) ∙ i.joined) c.know_whole.ensures.told.1 in
    ends c.args.self.now.words.shared.key c.args.self.now.fitting c.args.root.seat.me.0 (map view_of c.args.seats.items) (none-long c.args.root.seat.me.0.view.logs c.args.root.none) (none-long c.args.root.seat.me.0.stops c.args.root.quiet) (one-each c.args.seats.items) whole

pub loop-next-preserved : goal.loop-next-preserved
loop-next-preserved c =
    let i = c.loop-next.invariant in
    let e = c.in-Some.ensures.items in record {
      own = c.join_seats.ensures.same.0 ∙ i.own;
      others = (All-pop (λ (s : SideSeat). s.seat.table_id ≡ c.args.self.now.words.shared.table_id) c.loop-next.seats.items c.pop.new.self.items (Some c.in-Some.next) e i.others).0;
      joined = joined-next c.loop-next.whole.me.0 c.join_seats.new.seat.me.0 c.pop.new.self.items c.loop-next.seats.items c.in-Some.next e c.join_seats.ensures.both ∙ i.joined;
      all = rights-next c.loop-next.whole.me.0 c.join_seats.new.seat.me.0 c.pop.new.self.items c.loop-next.seats.items c.in-Some.next e c.join_seats.ensures.both ∙ i.all;
    }
