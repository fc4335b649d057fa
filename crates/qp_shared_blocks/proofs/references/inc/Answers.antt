use Rattle.std.proofs.Common.{sym, subst, ◌∙◌}
use Rattle.qp_calls.specs.Clauses.{StandsHold}
use Rattle.qp_shared_lane.specs.Lane.{state_view}
use Rattle.qp_shared_blocks.proofs.Lanes.{spare-is, room, held, held-place, hold-is}
use Rattle.qp_shared_blocks.proofs.Used.{another-ended}
use Rattle.qp_shared_blocks.proofs.Making.{inc-holds, inc-clause}
use Rattle.qp_shared_blocks.proofs.references.inc.Goals as goal

stand : (c : goal.After-another-arg-1) → StandsHold (record { pool = c.pool-pool.result; block = c.block-block.result; name = c.name-name.result }) (state_view c.args.lane.now)
stand c = subst (λ h. StandsHold h (state_view c.args.lane.now)) (sym (hold-is c.pool-pool.result c.block-block.result c.name-name.result c.args.h.now c.pool-pool.ensures c.block-block.ensures c.name-name.ensures)) c.requires.stands

pub another-found-requires-clause-place : goal.another-found-requires-clause-place
another-found-requires-clause-place c = held-place c.args.lane.now (record { pool = c.pool-pool.result; block = c.block-block.result; name = c.name-name.result }) (stand c)

pub another-found-requires-clause-room : goal.another-found-requires-clause-room
another-found-requires-clause-room c = room c.args.lane.now c.requires.room

pub another-found-requires-clause-hand : goal.another-found-requires-clause-hand
another-found-requires-clause-hand c = held c.args.lane.now (record { pool = c.pool-pool.result; block = c.block-block.result; name = c.name-name.result }) (stand c)

pub put-requires-clause-room : goal.put-requires-clause-room
put-requires-clause-room c = spare-is c.args.lane.now c.requires.room

pub invariant_of-lane-clause-own : goal.invariant_of-lane-clause-own
invariant_of-lane-clause-own c = c.another-found.ensures.same.0 ∙ c.args.lane.now.own

pub invariant_of-lane-clause-ended : goal.invariant_of-lane-clause-ended
invariant_of-lane-clause-ended c = let l = c.args.lane.now in
    another-ended l.words.now.shared.key l.by c.pool-pool.result c.block-block.result l.seat.me.0 c.another-found.new.seat.me.0 c.another-found.result l.ends.at c.another-found.ensures.told l.ended

pub invariant_of-lane-clause-holds : goal.invariant_of-lane-clause-holds
invariant_of-lane-clause-holds c = inc-holds c.args.lane.now c.args.h.now c.pool-pool.result c.block-block.result c.name-name.result
    (hold-is c.pool-pool.result c.block-block.result c.name-name.result c.args.h.now c.pool-pool.ensures c.block-block.ensures c.name-name.ensures)
    c.another-found.new.seat.me.0 c.another-found.result c.put.new.log c.put.new.numbers.list c.inc-rec.result c.another-found.type_inv c.another-found.ensures.told c.put.ensures.put c.inc-rec.ensures

pub returns : goal.returns
returns c = inc-clause c.args.lane.now c.args.h.now c.pool-pool.result c.block-block.result c.name-name.result
    (hold-is c.pool-pool.result c.block-block.result c.name-name.result c.args.h.now c.pool-pool.ensures c.block-block.ensures c.name-name.ensures)
    c.another-found.new.seat.me.0 c.another-found.result c.put.new.log c.put.new.numbers.list c.inc-rec.result c.another-found.type_inv c.another-found.ensures.told c.put.ensures.put c.inc-rec.ensures c.of.result c.of.ensures c.put.ensures.spare
