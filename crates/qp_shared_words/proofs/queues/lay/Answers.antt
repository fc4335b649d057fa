use Rattle.std.proofs.Common.{ℕ, arith, sym, subst}
use Rattle.qp_table.specs.After.{WordSteps}
use Rattle.qp_table.specs.Told.{LayTold}
use Rattle.qp_table.proofs.StepLawLemmas.{lays_tell}
use Rattle.qp_shared_words.proofs.queues.lay.Goals as goal

pub store-requires-clause-own : goal.store-requires-clause-own
store-requires-clause-own c = let o = c.requires.low.0 in let j = c.requires.low.1 in let w = c.requires.wide in let at = c.cell_at.ensures in (c.requires.own, omega arith)

pub store-requires-clause-keeps : goal.store-requires-clause-keeps
store-requires-clause-keeps c = subst (λ (z : ℕ × (ℕ × ℕ)). WordSteps c.args.words.now.shared.key c.args.seat.now.id c.args.seat.now.me.0 z.0 (λ n. z.1.0) (LayTold c.args.object z.1.1 (record { pool = c.args.pool; block = c.args.block; name = c.args.name }) c.args.seat.now.me.0)) (λ i. (sym c.cell_at.ensures i, (sym c.requires.value i, sym c.from.ensures i)))
    (lays_tell c.args.words.now.shared.key c.args.seat.now.id c.args.seat.now.me.0 c.args.object c.args.cell (record { pool = c.args.pool; block = c.args.block; name = c.args.name }) c.requires.object c.requires.inside c.requires.claim c.requires.oldest)

pub returns-clause-told : goal.returns-clause-told
returns-clause-told c = subst (λ j. LayTold c.args.object j (record { pool = c.args.pool; block = c.args.block; name = c.args.name }) c.args.seat.now.me.0 c.args.value c.store.new.seat.me.0) c.from.ensures c.store.ensures.told
