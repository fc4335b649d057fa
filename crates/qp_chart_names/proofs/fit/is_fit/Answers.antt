use Rattle.std.proofs.Common.{sym, ◌∙◌}
use Rattle.std.proofs.lemmas.List.Folds.{list_all-map}
use Rattle.qp_chart_text.specs.Terms.{command_of, order_of}
use Rattle.qp_chart_names.specs.ActionFaults.{command_fits, order_fits}
use Rattle.qp_chart_names.proofs.fit.is_fit.Goals as goal

pub returns-in-Locked : goal.returns-in-Locked
unfolding command_of command_fits
returns-in-Locked c =
    let s = c.args.scope.now in
    rw c.in-Locked.is
    ((rw c.as_slice.ensures at c.all_fit.ensures) ∙ sym (list_all-map (λ o. order_fits s.names.now c.args.inside o) order_of c.in-Locked.acts))
