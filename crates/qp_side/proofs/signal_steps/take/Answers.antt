use Rattle.std.proofs.Common.{◌+◌, ◌-◌, ◌*◌, ◌%◌, arith, sym, subst}
use Rattle.qp_side.specs.Told.{SideSteps, UnsubTold}
use Rattle.qp_side.proofs.SignalLemmas.{unsubs}
use Rattle.qp_side.proofs.signal_steps.take.Goals as goal

pub add-requires-clause-own : goal.add-requires-clause-own
add-requires-clause-own c = let w = c.requires.wide in let at = c.signal_at.ensures in let s = c.requires.small in (c.requires.own, omega arith)

pub add-requires-clause-keeps : goal.add-requires-clause-keeps
add-requires-clause-keeps c = subst (λ w. SideSteps c.args.words.now.shared.key c.args.seat.now.id c.args.seat.now.me.0 w (λ n. (n + (4294967296 - c.bit_of.result)) % 18446744073709551616) (UnsubTold c.args.object c.args.sig c.args.seat.now.me.0)) (sym c.signal_at.ensures)
    (subst (λ b. SideSteps c.args.words.now.shared.key c.args.seat.now.id c.args.seat.now.me.0 (8 * c.args.sig) (λ n. (n + (4294967296 - b)) % 18446744073709551616) (UnsubTold c.args.object c.args.sig c.args.seat.now.me.0)) (sym c.bit_of.ensures.value)
    (unsubs c.args.words.now.shared.key c.args.seat.now.id c.args.seat.now.me.0 c.requires.room c.args.object c.args.sig c.requires.signal c.requires.serves c.requires.member))
