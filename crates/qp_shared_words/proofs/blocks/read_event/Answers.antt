use Rattle.std.proofs.Common.{arith, sym, subst}
use Rattle.qp_table.specs.After.{WordSteps}
use Rattle.qp_table.specs.Told.{ReadTold}
use Rattle.qp_table.proofs.StepLawLemmas.{reads_tell}
use Rattle.qp_shared_words.proofs.blocks.read_event.Goals as goal

pub look-requires-clause-own : goal.look-requires-clause-own
look-requires-clause-own c = let p = c.requires.place.1 in let b = c.requires.place.2 in let j = c.requires.low in let w = c.requires.wide in let at = c.event_at.ensures in (c.requires.own, omega arith)

pub look-requires-clause-keeps : goal.look-requires-clause-keeps
look-requires-clause-keeps c = subst (λ w. WordSteps c.args.words.now.shared.key c.args.seat.now.id c.args.seat.now.me.0 w (λ n. n) (ReadTold c.args.words.now.shared.key c.args.pool c.args.block c.args.name c.args.place c.args.seat.now.me.0)) (sym c.event_at.ensures)
    (reads_tell c.args.words.now.shared.key c.args.seat.now.id c.args.seat.now.me.0 c.args.pool c.args.block c.args.name c.args.place c.requires.place.0 c.requires.hand c.requires.known)
