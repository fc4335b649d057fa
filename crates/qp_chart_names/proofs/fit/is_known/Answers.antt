use Rattle.std.proofs.Common.{sym, ◌∙◌}
use Rattle.std.proofs.lemmas.List.Folds.{list_all-map}
use Rattle.qp_chart_text.specs.Terms.{command_of, order_of}
use Rattle.qp_chart_names.specs.ActionFaults.{command_known, order_known}
use Rattle.qp_chart_names.proofs.fit.is_known.Goals as goal

pub returns-in-Locked : goal.returns-in-Locked
unfolding command_of command_known
returns-in-Locked c =
    let s = c.args.scope.now in
    rw c.in-Locked.is
    ((rw c.as_slice.ensures at c.all_plain_known.ensures) ∙ sym (list_all-map (λ o. order_known s.names.now s.chart.now o) order_of c.in-Locked.acts))
