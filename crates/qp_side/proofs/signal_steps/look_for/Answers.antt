use Rattle.std.proofs.Common.{arith, sym, subst}
use Rattle.qp_side.specs.Told.{SideSteps, EyeSignalTold}
use Rattle.qp_side.proofs.SignalLemmas.{eye-signals}
use Rattle.qp_side.proofs.signal_steps.look_for.Goals as goal

pub look-requires-clause-own : goal.look-requires-clause-own
look-requires-clause-own c = let w = c.requires.wide in let at = c.signal_at.ensures in let s = c.requires.small in (c.requires.own, omega arith)

pub look-requires-clause-keeps : goal.look-requires-clause-keeps
look-requires-clause-keeps c = subst (λ w. SideSteps c.args.words.now.shared.key c.args.seat.now.id c.args.seat.now.me.0 w (λ n. n) (EyeSignalTold c.args.bit c.args.object c.args.sig c.args.seat.now.me.0)) (sym c.signal_at.ensures)
    (eye-signals c.args.words.now.shared.key c.args.seat.now.id c.args.seat.now.me.0 c.requires.room c.args.bit c.args.object c.args.sig c.requires.signal c.requires.serves)
