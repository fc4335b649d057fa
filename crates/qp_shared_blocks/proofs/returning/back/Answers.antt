use Rattle.std.proofs.Common.{◌∙◌}
use Rattle.qp_shared_blocks.proofs.Lanes.{spare-is, room, fresh-is, used-by}
use Rattle.qp_shared_blocks.proofs.Used.{end-known, back-ended}
use Rattle.qp_shared_blocks.proofs.Backs.{back-holds, back-clause}
use Rattle.qp_shared_blocks.proofs.returning.back.Goals as goal

pub of-end-requires-clause-pool : goal.of-end-requires-clause-pool
of-end-requires-clause-pool c = (used-by c.args.lane.now c.args.f c.pool-pool.result c.block-block.result c.pool-pool.ensures c.block-block.ensures c.requires.stands c.requires.used).0.1

pub of-end-requires-clause-block : goal.of-end-requires-clause-block
of-end-requires-clause-block c = (used-by c.args.lane.now c.args.f c.pool-pool.result c.block-block.result c.pool-pool.ensures c.block-block.ensures c.requires.stands c.requires.used).0.2

pub put_back-found-requires-clause-place : goal.put_back-found-requires-clause-place
put_back-found-requires-clause-place c = (used-by c.args.lane.now c.args.f c.pool-pool.result c.block-block.result c.pool-pool.ensures c.block-block.ensures c.requires.stands c.requires.used).0

pub put_back-found-requires-clause-room : goal.put_back-found-requires-clause-room
put_back-found-requires-clause-room c = room c.args.lane.now c.requires.room

pub put_back-found-requires-clause-used : goal.put_back-found-requires-clause-used
put_back-found-requires-clause-used c = let l = c.args.lane.now in
    let has = used-by c.args.lane.now c.args.f c.pool-pool.result c.block-block.result c.pool-pool.ensures c.block-block.ensures c.requires.stands c.requires.used in
    end-known l.ends.at l.seat.me.0.used c.pool-pool.result c.block-block.result c.of-end.result l.ended has.0 has.1 c.of-end.ensures

pub put-requires-clause-room : goal.put-requires-clause-room
put-requires-clause-room c = spare-is c.args.lane.now c.requires.room

pub invariant_of-lane-clause-own : goal.invariant_of-lane-clause-own
invariant_of-lane-clause-own c = c.put_back-found.ensures.same.0 ∙ c.args.lane.now.own

pub invariant_of-lane-clause-ended : goal.invariant_of-lane-clause-ended
invariant_of-lane-clause-ended c = let l = c.args.lane.now in
    back-ended l.words.now.shared.key l.by c.pool-pool.result c.block-block.result c.of-end.result l.seat.me.0 c.put_back-found.new.seat.me.0 c.put_back-found.result l.ends.at c.put_back-found.ensures.told l.ended

pub invariant_of-lane-clause-holds : goal.invariant_of-lane-clause-holds
invariant_of-lane-clause-holds c = back-holds c.args.lane.now c.args.f c.pool-pool.result c.block-block.result (fresh-is c.pool-pool.result c.block-block.result c.args.f c.pool-pool.ensures c.block-block.ensures) c.requires.stands c.requires.used
    c.put_back-found.new.seat.me.0 c.of-end.result c.put_back-found.result c.put.new.log c.put.new.numbers.list c.back-rec.result c.of-end.ensures c.put_back-found.ensures.told c.put.ensures.put c.back-rec.ensures

pub returns : goal.returns
returns c = back-clause c.args.lane.now c.args.f c.pool-pool.result c.block-block.result (fresh-is c.pool-pool.result c.block-block.result c.args.f c.pool-pool.ensures c.block-block.ensures) c.requires.stands c.requires.used
    c.put_back-found.new.seat.me.0 c.of-end.result c.put_back-found.result c.put.new.log c.put.new.numbers.list c.back-rec.result c.of-end.ensures c.put_back-found.ensures.told c.put.ensures.put c.back-rec.ensures c.put.ensures.spare
