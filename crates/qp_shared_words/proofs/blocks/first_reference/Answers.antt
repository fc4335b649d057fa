use Rattle.std.proofs.Common.{◌+◌, ◌%◌, arith, sym, subst}
use Rattle.qp_table.specs.After.{WordSteps}
use Rattle.qp_table.specs.Told.{FirstTold}
use Rattle.qp_table.proofs.StepLawLemmas.{first_references_tell}
use Rattle.qp_shared_words.proofs.blocks.first_reference.Goals as goal

pub add-requires-clause-own : goal.add-requires-clause-own
add-requires-clause-own c = let p = c.requires.place.1 in let b = c.requires.place.2 in let w = c.requires.wide in let at = c.block_at.ensures in (c.requires.own, omega arith)

pub add-requires-clause-keeps : goal.add-requires-clause-keeps
add-requires-clause-keeps c = subst (λ w. WordSteps c.args.words.now.shared.key c.args.seat.now.id c.args.seat.now.me.0 w (λ n. (n + 4294967297) % 18446744073709551616) (FirstTold c.args.words.now.shared.key c.args.by c.args.pool c.args.block c.args.seat.now.me.0)) (sym c.block_at.ensures)
    (first_references_tell c.args.words.now.shared.key c.args.seat.now.id c.args.seat.now.me.0 c.requires.room c.args.by c.args.pool c.args.block c.requires.fresh c.requires.begun c.requires.written)
