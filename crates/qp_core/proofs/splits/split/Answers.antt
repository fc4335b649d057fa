use Rattle.qp_core.proofs.ApplyLemmas.{split-ok}
use Rattle.qp_core.proofs.splits.split.Goals as goal

pub returns : goal.returns
returns c = λ x here. split-ok c.args.seats.now c.add_seat.new.seats c.set_serves.new.seats c.args.at c.args.lanes c.args.into c.args.set c.seat_at-seat.result.now x c.may_split.result c.in_ok-kept.kept c.in_ok-part.part
    c.seat_at-seat.ensures c.may_split.ensures c.if-not-may_split.false c.in_ok-part.ensures c.in_ok-kept.ensures c.in_ok-add_seat.ensures.ok c.set_serves.ensures here
