use Rattle.std.proofs.Common.{◌∙◌, ap, refl, sym}
use Rattle.qp_model.specs.Record.{item_of}
use Rattle.qp_summary.specs.Counting.{with_one_more}
use Rattle.qp_summary.proofs.CountLemmas.{done-more, took-more, turn-skip}
use Rattle.qp_summary.proofs.turns.TurnCounts.add.Goals as goal

pub returns-then-is_took : goal.returns-then-is_took
unfolding item_of
returns-then-is_took c = λ items are.
    took-more items (item_of c.args.r.now) c.args.self.now _ (sym c.is_took.ensures ∙ c.if-is_took.true) (c.add.ensures ∙ ap (λ n. with_one_more c.args.self.now.taken n) c.from.ensures) refl are

pub returns-then-is_done : goal.returns-then-is_done
unfolding item_of
returns-then-is_done c = λ items are.
    done-more items (item_of c.args.r.now) c.args.self.now _ (sym c.is_took.ensures ∙ c.if-is_took.false) (sym c.is_done.ensures ∙ c.if-is_done.true) refl
    (c.add-then-is_done.ensures ∙ ap (λ n. with_one_more c.args.self.now.done n) c.from-then-is_done.ensures) are

pub returns-else-is_done : goal.returns-else-is_done
unfolding item_of
returns-else-is_done c = λ items are.
    turn-skip items (item_of c.args.r.now) c.args.self.now (sym c.is_took.ensures ∙ c.if-is_took.false) (sym c.is_done.ensures ∙ c.if-is_done.false) are
