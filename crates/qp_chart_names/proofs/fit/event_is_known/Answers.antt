use Rattle.std.proofs.Common.{◌≡◌, true, sym, ap, ◌∙◌}
use Rattle.std.specs.Option.{is_some}
use Rattle.std.proofs.lemmas.List.Folds.{list_all-map}
use Rattle.qp_chart_text.specs.Terms.{event_of_tree, term_of}
use Rattle.qp_chart_names.specs.RawNumbers.{signal_number}
use Rattle.qp_chart_names.specs.ActionFaults.{term_known}
use Rattle.qp_chart_names.proofs.TestLemmas.{and-both}
use Rattle.qp_chart_names.proofs.fit.event_is_known.Goals as goal

pub returns-then-is_some : goal.returns-then-is_some
unfolding event_of_tree
returns-then-is_some c =
    let s = c.args.scope.now in
    let e = c.args.event.now in
    let declared : is_some (signal_number s.names.now e.signal) ≡ true = sym (ap is_some c.signal_number.ensures) ∙ sym c.is_some.ensures ∙ c.if-is_some.true in
    and-both _ _ _ declared ((rw c.as_slice.ensures at c.all_known.ensures) ∙ sym (list_all-map (λ t. term_known s.chart.now t) term_of e.pars))
