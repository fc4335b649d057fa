use Rattle.std.proofs.Common.{arith, sym, subst}
use Rattle.qp_side.specs.Told.{SideSteps, eyed_clock, EyeTimerTold}
use Rattle.qp_side.proofs.ClockLemmas.{eye-clocks}
use Rattle.qp_side.proofs.clock_steps.look_at.Goals as goal

pub look-requires-clause-own : goal.look-requires-clause-own
look-requires-clause-own c = let w = c.requires.wide in let at = c.timer_at.ensures in (c.requires.own, omega arith)

pub look-requires-clause-keeps : goal.look-requires-clause-keeps
look-requires-clause-keeps c = subst (λ w. SideSteps c.args.words.now.shared.key c.args.seat.now.id c.args.seat.now.me.0 w (λ n. n) (EyeTimerTold (eyed_clock c.args.t) c.args.t c.args.seat.now.me.0)) (sym c.timer_at.ensures)
    (eye-clocks c.args.words.now.shared.key c.args.seat.now.id c.args.seat.now.me.0 c.args.t c.requires.timer)
