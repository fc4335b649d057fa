use Rattle.qp_core.proofs.ApplyLemmas.{join-ok, join-err}
use Rattle.qp_core.proofs.splits.join.Goals as goal

pub returns-in-Ok : goal.returns-in-Ok
returns-in-Ok c = λ x here. join-ok c.args.seats.now c.put-other.new.seats c.put-seat.new.seats c.args.at c.in-Some.there c.args.from c.seat_at.result.now x c.put-other.result c.bare.result c.put-seat.result c.bare-2.result c.seat_place.result
    c.seat_at.ensures c.if-seat_at-from.false c.seat_place.ensures c.in-Some.is c.put-other.ensures.former c.put-other.ensures.puts c.put-seat.ensures.former c.put-seat.ensures.puts here
    c.take_over.new.seat c.put.new.seats c.bare.ensures c.in-Ok.ensures.ok c.put.ensures.puts

pub returns-in-Err : goal.returns-in-Err
returns-in-Err c = λ x here. join-err c.args.seats.now c.put-other.new.seats c.put-seat.new.seats c.args.at c.in-Some.there c.args.from c.seat_at.result.now x c.put-other.result c.bare.result c.put-seat.result c.bare-2.result c.seat_place.result
    c.seat_at.ensures c.if-seat_at-from.false c.seat_place.ensures c.in-Some.is c.put-other.ensures.former c.put-other.ensures.puts c.put-seat.ensures.former c.put-seat.ensures.puts here
    c.take_over.new.seat c.take_over.new.other c.put-in-Err.new.seats c.put-in-Err-2.new.seats c.in-Err.ensures.same c.in-Err.ensures.whole c.put-in-Err.ensures.puts c.put-in-Err-2.ensures.puts
