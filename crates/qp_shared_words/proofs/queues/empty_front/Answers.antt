use Rattle.std.proofs.Common.{ℕ, arith, refl, sym, subst, ap, ◌∙◌}
use Rattle.qp_table.specs.Rule.{cell_at, is_lifo, is_take_of, records}
use Rattle.qp_table.specs.After.{WordSteps}
use Rattle.qp_table.specs.Told.{SwapTold}
use Rattle.qp_table.proofs.StepLawLemmas.{swaps_tell}
use Rattle.qp_shared_words.proofs.queues.empty_front.Goals as goal

pub swap-requires-clause-own : goal.swap-requires-clause-own
swap-requires-clause-own c = let o = c.requires.low.0 in let j = c.requires.low.1 in let w = c.requires.wide in let at = c.cell_at.ensures in (c.requires.own, omega arith)

pub swap-requires-clause-keeps : goal.swap-requires-clause-keeps
swap-requires-clause-keeps c = let v = c.args.seat.now.me.0 in let front = c.requires.front in
    subst (λ (z : ℕ × ℕ). WordSteps c.args.words.now.shared.key c.args.seat.now.id v z.0 (λ n. 0) (SwapTold c.args.words.now.shared.key c.args.object z.1 v)) (λ i. ((ap (λ j. cell_at c.args.object j) (sym front.cell) ∙ sym c.cell_at.ensures) i, (sym front.cell ∙ sym c.from.ensures) i))
    (swaps_tell c.args.words.now.shared.key c.args.seat.now.id v c.args.object (records (is_lifo c.args.object) v.logs) (records (is_take_of c.args.object) v.logs) c.requires.object front.log front.serves refl refl front.idle)

pub returns-clause-told : goal.returns-clause-told
returns-clause-told c = subst (λ j. SwapTold c.args.words.now.shared.key c.args.object j c.args.seat.now.me.0 c.swap.result c.swap.new.seat.me.0) c.from.ensures c.swap.ensures.told
