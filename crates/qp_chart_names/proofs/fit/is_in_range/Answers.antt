use Rattle.std.proofs.Common.{sym, ◌∙◌, rules}
use Rattle.std.proofs.lemmas.List.Folds.{list_all-map}
use Rattle.qp_chart_text.specs.Terms.{command_of, order_of}
use Rattle.qp_chart_names.specs.ActionFaults.{command_in_range, order_in_range, is_between}
use Rattle.qp_chart_names.proofs.TestLemmas.{and-both}
use Rattle.qp_chart_names.proofs.fit.is_in_range.Goals as goal

pub returns-then-is_within : goal.returns-then-is_within
unfolding command_of command_in_range
returns-then-is_within c =
    let s = c.args.scope.now in
    rw c.in-Locked.is
    (and-both (is_between 1 32 c.in-Locked.ceiling) _ _ (search rules)
    ((rw c.as_slice.ensures at c.all_in_range.ensures) ∙ sym (list_all-map (λ o. order_in_range s.names.now o) order_of c.in-Locked.acts)))
