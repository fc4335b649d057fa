use Rattle.std.proofs.Common.{◌≡◌, ◌+◌, eqb, cond, arith, sym, subst}
use prog.Atomic.{either}
use Rattle.qp_side.specs.Told.{SideSteps, counter_in, interval_in, TickTold}
use Rattle.qp_side.proofs.ClockLemmas.{ticks-tell}
use Rattle.qp_side.proofs.clock_steps.tick.Goals as goal

pub exchange-requires-clause-own : goal.exchange-requires-clause-own
exchange-requires-clause-own g c = let w = c.requires.wide in let at = c.timer_at.ensures in (c.requires.own, omega arith)

pub exchange-requires-clause-keeps : goal.exchange-requires-clause-keeps
exchange-requires-clause-keeps g c = subst (λ w. SideSteps c.args.words.now.shared.key c.args.seat.now.id c.args.seat.now.me.0 w (λ n. either (eqb n c.args.old) c.ticked-new.result n) (TickTold c.args.object c.args.t c.args.old c.ticked-new.result c.args.seat.now.me.0)) (sym c.timer_at.ensures)
    (ticks-tell c.args.words.now.shared.key c.args.seat.now.id c.args.seat.now.me.0 c.requires.room c.args.object c.args.t c.args.old c.ticked-new.result c.requires.timer c.requires.last c.requires.armed c.ticked-new.ensures)

pub returns-clause-told : goal.returns-clause-told
returns-clause-told g c =
    let r = c.ticked-new.ensures in
    let e : c.ticked-new.result ≡ c.args.old + 4294967295 + cond (eqb (counter_in c.args.old) 1) (interval_in c.args.old) 0 = omega arith in
    subst (λ k. TickTold c.args.object c.args.t c.args.old k c.args.seat.now.me.0 c.exchange.result c.exchange.new.seat.me.0) e c.exchange.ensures.told
