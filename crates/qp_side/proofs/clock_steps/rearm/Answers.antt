use Rattle.std.proofs.Common.{◌+◌, ◌-◌, eqb, arith, sym, subst}
use prog.Atomic.{either}
use Rattle.qp_side.specs.Told.{SideSteps, counter_in, RearmTold}
use Rattle.qp_side.proofs.ClockLemmas.{rearms-tell}
use Rattle.qp_side.proofs.clock_steps.rearm.Goals as goal

pub exchange-requires-clause-own : goal.exchange-requires-clause-own
exchange-requires-clause-own g c = let w = c.requires.wide in let at = c.timer_at.ensures in (c.requires.own, omega arith)

pub exchange-requires-clause-keeps : goal.exchange-requires-clause-keeps
exchange-requires-clause-keeps g c = subst (λ w. SideSteps c.args.words.now.shared.key c.args.seat.now.id c.args.seat.now.me.0 w (λ n. either (eqb n c.args.old) (c.args.old + 4294967296 + c.args.ticks - counter_in c.args.old) n) (RearmTold c.args.object c.args.t c.args.ticks c.args.old (c.args.old + 4294967296 + c.args.ticks - counter_in c.args.old) c.args.seat.now.me.0)) (sym c.timer_at.ensures)
    (rearms-tell c.args.words.now.shared.key c.args.seat.now.id c.args.seat.now.me.0 c.requires.room c.args.object c.args.t c.args.ticks c.args.old (c.args.old + 4294967296 + c.args.ticks - counter_in c.args.old) c.requires.timer (omega arith) c.requires.last (omega arith))
