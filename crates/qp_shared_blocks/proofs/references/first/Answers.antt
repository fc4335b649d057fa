use Rattle.std.proofs.Common.{sym, subst, ◌∙◌}
use Rattle.qp_calls.specs.Clauses.{StandsFresh}
use Rattle.qp_shared_lane.specs.Lane.{state_view}
use Rattle.qp_shared_blocks.proofs.Lanes.{spare-is, room, fresh, begun, fresh-place, fresh-is}
use Rattle.qp_shared_blocks.proofs.Used.{first-ended}
use Rattle.qp_shared_blocks.proofs.Making.{first-holds, first-clause}
use Rattle.qp_shared_blocks.proofs.references.first.Goals as goal

stand : (c : goal.After-first_reference-arg-1) → StandsFresh (record { pool = c.pool-pool.result; block = c.block-block.result; used = c.args.f.used }) (state_view c.args.lane.now)
stand c = subst (λ f. StandsFresh f (state_view c.args.lane.now)) (sym (fresh-is c.pool-pool.result c.block-block.result c.args.f c.pool-pool.ensures c.block-block.ensures)) c.requires.stands

pub first_reference-found-requires-clause-place : goal.first_reference-found-requires-clause-place
first_reference-found-requires-clause-place c = fresh-place c.args.lane.now (record { pool = c.pool-pool.result; block = c.block-block.result; used = c.args.f.used }) (stand c) c.requires.unused

pub first_reference-found-requires-clause-room : goal.first_reference-found-requires-clause-room
first_reference-found-requires-clause-room c = room c.args.lane.now c.requires.room

pub first_reference-found-requires-clause-fresh : goal.first_reference-found-requires-clause-fresh
first_reference-found-requires-clause-fresh c = fresh c.args.lane.now (record { pool = c.pool-pool.result; block = c.block-block.result; used = c.args.f.used }) (stand c) c.requires.unused

pub first_reference-found-requires-clause-begun : goal.first_reference-found-requires-clause-begun
first_reference-found-requires-clause-begun c = begun c.args.lane.now (record { pool = c.pool-pool.result; block = c.block-block.result; used = c.args.f.used }) (stand c) c.requires.unused

pub put-requires-clause-room : goal.put-requires-clause-room
put-requires-clause-room c = spare-is c.args.lane.now c.requires.room

pub invariant_of-lane-clause-own : goal.invariant_of-lane-clause-own
invariant_of-lane-clause-own c = c.first_reference-found.ensures.same.0 ∙ c.args.lane.now.own

pub invariant_of-lane-clause-ended : goal.invariant_of-lane-clause-ended
invariant_of-lane-clause-ended c = let l = c.args.lane.now in
    first-ended l.words.now.shared.key l.by c.pool-pool.result c.block-block.result l.seat.me.0 c.first_reference-found.new.seat.me.0 c.first_reference-found.result l.ends.at c.first_reference-found.ensures.told l.ended

pub invariant_of-lane-clause-holds : goal.invariant_of-lane-clause-holds
invariant_of-lane-clause-holds c = first-holds c.args.lane.now c.args.f c.pool-pool.result c.block-block.result (fresh-is c.pool-pool.result c.block-block.result c.args.f c.pool-pool.ensures c.block-block.ensures) c.requires.stands c.requires.unused
    c.first_reference-found.new.seat.me.0 c.first_reference-found.result c.put.new.log c.put.new.numbers.list c.inc-rec.result c.first_reference-found.type_inv c.first_reference-found.ensures.told c.put.ensures.put c.inc-rec.ensures

pub returns : goal.returns
returns c = first-clause c.args.lane.now c.args.f c.pool-pool.result c.block-block.result (fresh-is c.pool-pool.result c.block-block.result c.args.f c.pool-pool.ensures c.block-block.ensures) c.requires.stands c.requires.unused
    c.first_reference-found.new.seat.me.0 c.first_reference-found.result c.put.new.log c.put.new.numbers.list c.inc-rec.result c.first_reference-found.type_inv c.first_reference-found.ensures.told c.put.ensures.put c.inc-rec.ensures c.of.result c.of.ensures c.put.ensures.spare
