use Rattle.std.proofs.Common.{◌≡◌, arith, sym, subst}
use Rattle.qp_table.specs.Rule.{cell_at}
use Rattle.qp_table.specs.After.{WordSteps}
use Rattle.qp_shared_words.proofs.Still.{still}
use Rattle.qp_shared_words.proofs.queues.look_at_cell.Goals as goal

pub look-requires-clause-own : goal.look-requires-clause-own
look-requires-clause-own c = let o = c.requires.low.0 in let j = c.requires.low.1 in let w = c.requires.wide in let at = c.cell_at.ensures in (c.requires.own, omega arith)

pub look-requires-clause-keeps : goal.look-requires-clause-keeps
look-requires-clause-keeps c = subst (λ w. WordSteps c.args.words.now.shared.key c.args.seat.now.id c.args.seat.now.me.0 w (λ n. n) (λ n u. u ≡ c.args.seat.now.me.0)) (sym c.cell_at.ensures)
    (still c.args.words.now.shared.key c.args.seat.now.id c.args.seat.now.me.0 (cell_at c.args.object c.args.cell))
