use Rattle.std.proofs.Common.{refl, sym, subst}
use Rattle.qp_calls.specs.Clauses.{StandsHold}
use Rattle.qp_table.specs.Lane.{lane_of}
use Rattle.qp_shared_lane.specs.Lane.{state_view}
use Rattle.qp_shared_blocks.proofs.Lanes.{held, held-place, held-known, hold-is}
use Rattle.qp_shared_blocks.proofs.Reading.{still-ended, still-holds, still-view, event-is, sig-is}
use Rattle.qp_shared_blocks.proofs.events.sig.Goals as goal

stand : (c : goal.After-read_event-arg-1) → StandsHold (record { pool = c.pool-pool.result; block = c.block-block.result; name = c.name-name.result }) (state_view c.args.lane.now)
stand c = subst (λ h. StandsHold h (state_view c.args.lane.now)) (sym (hold-is c.pool-pool.result c.block-block.result c.name-name.result c.args.h.now c.pool-pool.ensures c.block-block.ensures c.name-name.ensures)) c.requires.stands

pub read_event-found-requires-clause-place : goal.read_event-found-requires-clause-place
read_event-found-requires-clause-place c = held-place c.args.lane.now (record { pool = c.pool-pool.result; block = c.block-block.result; name = c.name-name.result }) (stand c)

pub read_event-found-requires-clause-hand : goal.read_event-found-requires-clause-hand
read_event-found-requires-clause-hand c = held c.args.lane.now (record { pool = c.pool-pool.result; block = c.block-block.result; name = c.name-name.result }) (stand c)

pub read_event-found-requires-clause-known : goal.read_event-found-requires-clause-known
read_event-found-requires-clause-known c = held-known c.args.lane.now (record { pool = c.pool-pool.result; block = c.block-block.result; name = c.name-name.result }) (stand c)

pub invariant_of-lane-clause-ended : goal.invariant_of-lane-clause-ended
invariant_of-lane-clause-ended c = still-ended c.args.lane.now c.read_event-found.new.seat.me.0 c.read_event-found.ensures.told.0

pub invariant_of-lane-clause-holds : goal.invariant_of-lane-clause-holds
invariant_of-lane-clause-holds c = still-holds c.args.lane.now c.read_event-found.new.seat.me.0 c.read_event-found.ensures.told.0

pub returns-clause-value : goal.returns-clause-value
returns-clause-value c = sig-is c.args.lane.now c.args.h.now c.pool-pool.result c.block-block.result c.name-name.result
    (hold-is c.pool-pool.result c.block-block.result c.name-name.result c.args.h.now c.pool-pool.ensures c.block-block.ensures c.name-name.ensures) c.read_event-found.new.seat.me.0 c.read_event-found.result 0 c.read_event-found.ensures.told refl

pub returns-clause-event : goal.returns-clause-event
unfolding lane_of
returns-clause-event c = event-is c.args.lane.now c.args.h.now c.pool-pool.result c.block-block.result c.name-name.result
    (hold-is c.pool-pool.result c.block-block.result c.name-name.result c.args.h.now c.pool-pool.ensures c.block-block.ensures c.name-name.ensures) c.read_event-found.new.seat.me.0 c.read_event-found.result 0 c.read_event-found.ensures.told

pub returns-clause-stays : goal.returns-clause-stays
returns-clause-stays c = still-view c.args.lane.now c.read_event-found.new.seat.me.0 c.read_event-found.ensures.told.0
