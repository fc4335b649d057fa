use Rattle.std.proofs.Common.{arith}
use Rattle.qp_model.specs.History.{lane_items}
use Rattle.qp_model.proofs.RecordLemmas.{lane-length}
use Rattle.qp_calls_log.proofs.LogLemmas.{length-kinds}
use Rattle.qp_table.specs.Lane.{lane_of}
use Rattle.qp_shared_blocks.proofs.Notes.{told-long, room-holds, roomier, stays}
use Rattle.qp_shared_blocks.proofs.noting.room.Goals as goal

pub overflow_cast-result : goal.overflow_cast-result
overflow_cast-result c =
    let g = c.args.lane.now.log in
    let all = length-kinds (lane_items g.recs.items) in let long = lane-length g.recs.items in let len = g.recs.ok in let few = g.few in let spills = g.spills in let e = c.len-len.ensures in let len0 = len.0 in
    record { fits = omega arith }

pub returns-then-len-gt1000000-clause-err : goal.returns-then-len-gt1000000-clause-err
returns-then-len-gt1000000-clause-err c = (let long = told-long c.args.lane.now in let len = c.args.lane.now.log.recs.ok in let len0 = len.0 in let e = c.len-len.ensures in omega arith, c.if-len-gt1000000.true)

pub returns-then-len-gt1000000-clause-stays : goal.returns-then-len-gt1000000-clause-stays
returns-then-len-gt1000000-clause-stays c = stays c.args.lane.now

pub returns-then-lane-ge8-clause-ok : goal.returns-then-lane-ge8-clause-ok
unfolding lane_of
returns-then-lane-ge8-clause-ok c = c.if-lane-ge8.true

pub returns-then-lane-ge8-clause-err : goal.returns-then-lane-ge8-clause-err
returns-then-lane-ge8-clause-err c = let long = told-long c.args.lane.now in let len = c.args.lane.now.log.recs.ok in let len0 = len.0 in let e = c.len-len.ensures in let f = c.if-len-gt1000000.false in omega arith

pub returns-then-lane-ge8-clause-stays : goal.returns-then-lane-ge8-clause-stays
returns-then-lane-ge8-clause-stays c = stays c.args.lane.now

pub returns-in_default-clause-err : goal.returns-in_default-clause-err
returns-in_default-clause-err c = let long = told-long c.args.lane.now in let len = c.args.lane.now.log.recs.ok in let len0 = len.0 in let e = c.len-len.ensures in let f = c.if-len-gt1000000.false in omega arith

pub returns-clause-ok : goal.returns-clause-ok
unfolding lane_of
returns-clause-ok c = let e = c.in-Ok.ensures.ok in omega arith

pub returns-clause-err : goal.returns-clause-err
returns-clause-err c = let long = told-long c.args.lane.now in let len = c.args.lane.now.log.recs.ok in let len0 = len.0 in let e = c.len-len.ensures in let f = c.if-len-gt1000000.false in omega arith

pub returns-clause-stays : goal.returns-clause-stays
returns-clause-stays c = roomier c.args.lane.now c.make_room.new.self c.make_room.ensures.recs c.make_room.ensures.stops c.make_room.ensures.answered (let e = c.in-Ok.ensures.ok in let f = c.if-lane-ge8.false in omega arith)

pub invariant_of-lane-clause-holds : goal.invariant_of-lane-clause-holds
invariant_of-lane-clause-holds c = room-holds c.args.lane.now c.make_room.new.self c.make_room.ensures.recs c.make_room.ensures.stops c.make_room.ensures.answered
