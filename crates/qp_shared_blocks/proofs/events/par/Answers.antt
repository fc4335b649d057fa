use Rattle.std.proofs.Common.{◌+◌, ap, sym, subst}
use Rattle.qp_calls.specs.Clauses.{StandsHold}
use Rattle.qp_shared_lane.specs.Lane.{state_view}
use Rattle.qp_shared_blocks.proofs.Lanes.{held, held-place, held-known, hold-is}
use Rattle.qp_shared_blocks.proofs.Reading.{still-ended, still-holds, still-view, par-is}
use Rattle.qp_shared_blocks.proofs.events.par.Goals as goal

stand : (c : goal.After-read_event-arg-1) → StandsHold (record { pool = c.pool-pool.result; block = c.block-block.result; name = c.name-name.result }) (state_view c.args.lane.now)
stand c = subst (λ h. StandsHold h (state_view c.args.lane.now)) (sym (hold-is c.pool-pool.result c.block-block.result c.name-name.result c.args.h.now c.pool-pool.ensures c.block-block.ensures c.name-name.ensures)) c.requires.stands

pub read_event-requires-clause-place : goal.read_event-requires-clause-place
read_event-requires-clause-place c = held-place c.args.lane.now (record { pool = c.pool-pool.result; block = c.block-block.result; name = c.name-name.result }) (stand c)

pub read_event-requires-clause-hand : goal.read_event-requires-clause-hand
read_event-requires-clause-hand c = held c.args.lane.now (record { pool = c.pool-pool.result; block = c.block-block.result; name = c.name-name.result }) (stand c)

pub read_event-requires-clause-known : goal.read_event-requires-clause-known
read_event-requires-clause-known c = held-known c.args.lane.now (record { pool = c.pool-pool.result; block = c.block-block.result; name = c.name-name.result }) (stand c)

pub invariant_of-lane-clause-ended : goal.invariant_of-lane-clause-ended
invariant_of-lane-clause-ended c = still-ended c.args.lane.now c.read_event.new.seat.me.0 c.read_event.ensures.told.0

pub invariant_of-lane-clause-holds : goal.invariant_of-lane-clause-holds
invariant_of-lane-clause-holds c = still-holds c.args.lane.now c.read_event.new.seat.me.0 c.read_event.ensures.told.0

pub returns-clause-value : goal.returns-clause-value
returns-clause-value c = par-is c.args.lane.now c.args.h.now c.pool-pool.result c.block-block.result c.name-name.result
    (hold-is c.pool-pool.result c.block-block.result c.name-name.result c.args.h.now c.pool-pool.ensures c.block-block.ensures c.name-name.ensures) c.read_event.new.seat.me.0 c.read_event.result (c.min.result + 1) c.read_event.ensures.told c.args.j (ap (λ x. x + 1) c.min.ensures) c.requires.within

pub returns-clause-stays : goal.returns-clause-stays
returns-clause-stays c = still-view c.args.lane.now c.read_event.new.seat.me.0 c.read_event.ensures.told.0
