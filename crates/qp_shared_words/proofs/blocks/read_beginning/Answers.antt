use Rattle.std.proofs.Common.{ℕ, ◌<◌, arith, sym, subst}
use Rattle.qp_table.specs.Counting.{many}
use Rattle.qp_table.specs.Rule.{is_spot_at}
use Rattle.qp_table.specs.After.{WordSteps}
use Rattle.qp_table.specs.Told.{FromTold}
use Rattle.qp_shared_words.proofs.Still.{begins}
use Rattle.qp_shared_words.proofs.blocks.read_beginning.Goals as goal

pub look-requires-clause-own : goal.look-requires-clause-own
look-requires-clause-own c = let p = c.requires.place.1 in let b = c.requires.place.2 in let w = c.requires.wide in let at = c.block_at.ensures in (c.requires.own, omega arith)

pub look-requires-clause-keeps : goal.look-requires-clause-keeps
look-requires-clause-keeps c = subst (λ w. WordSteps c.args.words.now.shared.key c.args.seat.now.id c.args.seat.now.me.0 w (λ n. n) (λ n u. (m : ℕ) → 0 < many (is_spot_at c.args.pool c.args.block m) c.args.seat.now.me.0.fresh → FromTold c.args.words.now.shared.key c.args.pool c.args.block m c.args.seat.now.me.0 n u)) (sym c.block_at.ensures)
    (begins c.args.words.now.shared.key c.args.seat.now.id c.args.seat.now.me.0 c.args.pool c.args.block c.requires.fresh)
