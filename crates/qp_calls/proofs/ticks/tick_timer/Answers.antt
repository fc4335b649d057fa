use Rattle.qp_calls.specs.Clauses.{entry_of}
use Rattle.qp_calls.proofs.TickLemmas.{tick-down, tick-fired, tick-idle}
use Rattle.qp_calls.proofs.ticks.tick_timer.Goals as goal

pub returns-in-Idle : goal.returns-in-Idle
returns-in-Idle g c =
    let e = c.in-Idle.ensures.ticks in
    tick-idle c.args.t c.args.object c.args.sig e.0 _ (g.O.Ops.lane c.room.new.self) _ c.room.ensures.stays e.1

pub returns-in-Down : goal.returns-in-Down
returns-in-Down g c =
    let e = c.in-Down.ensures.ticks in
    tick-down c.args.t c.args.object c.args.sig e.2.0 e.0 _ (g.O.Ops.lane c.room.new.self) _ c.room.ensures.stays e.2.1

pub returns-in-Fired : goal.returns-in-Fired
unfolding entry_of
returns-in-Fired g c =
    let e = c.in-Fired.ensures.ticks in
    tick-fired c.args.t c.args.object c.args.sig e.1.0 e.0 c.post_entry.result _ (g.O.Ops.lane c.room.new.self) (g.O.Ops.lane c.tick_one.new.self) _ c.room.ensures.stays e.1.1 c.post_entry.ensures
