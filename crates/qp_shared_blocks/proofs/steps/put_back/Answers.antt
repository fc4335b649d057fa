use Rattle.std.proofs.Common.{ℕ, ◌+◌, ◌%◌, arith, sym, subst}
use Rattle.qp_table.specs.After.{WordSteps}
use Rattle.qp_shared_blocks.specs.Ends.{ReturnTold}
use Rattle.qp_shared_blocks.proofs.Ends.{returns-tell}
use Rattle.qp_shared_blocks.proofs.steps.put_back.Goals as goal

pub add-requires-clause-own : goal.add-requires-clause-own
add-requires-clause-own c = let w = c.requires.wide in let at = c.pool_at.ensures in let p = c.requires.place.1 in (c.requires.own, omega arith)

pub add-requires-clause-keeps : goal.add-requires-clause-keeps
add-requires-clause-keeps c =
    subst (λ (z : ℕ × ℕ). WordSteps c.args.words.now.shared.key c.args.seat.now.id c.args.seat.now.me.0 z.0 (λ n. (n + (4294967296 + z.1)) % 18446744073709551616) (ReturnTold c.args.words.now.shared.key c.args.by c.args.pool c.args.block c.args.at c.args.seat.now.me.0)) (λ i. (sym c.pool_at.ensures i, sym c.bit_of.ensures.value i))
    (returns-tell c.args.words.now.shared.key c.args.seat.now.id c.args.seat.now.me.0 c.requires.room c.args.by c.args.pool c.args.block c.args.at c.requires.place.2 c.requires.used)

pub returns-clause-told : goal.returns-clause-told
returns-clause-told c = c.add.ensures.told
