use Rattle.std.proofs.Common.{◌≡◌, sym, ap, ◌∙◌, length, map, eq-eqb}
use Rattle.std.proofs.lemmas.List.Folds.{list_all-map}
use Rattle.std.proofs.lemmas.List.{length-map}
use Rattle.qp_chart_text.specs.Terms.{event_of_tree, term_of}
use Rattle.qp_chart_names.specs.Known.{reaches}
use Rattle.qp_chart_names.specs.ActionFaults.{params_of_name}
use Rattle.qp_chart_names.proofs.TestLemmas.{and-both}
use Rattle.qp_chart_names.proofs.fit.event_is_fit.Goals as goal

pub returns-then-as_slice-count_of : goal.returns-then-as_slice-count_of
unfolding event_of_tree
returns-then-as_slice-count_of c =
    let s = c.args.scope.now in
    let e = c.args.event.now in
    let count : length (map term_of e.pars) ≡ params_of_name s.names.now e.signal =
    length-map e.pars term_of ∙ ap length (sym c.as_slice.ensures) ∙ c.if-as_slice-count_of.true ∙ c.count_of.ensures in
    and-both _ _ _ (eq-eqb _ _ count)
    ((rw c.as_slice-then-as_slice-count_of.ensures at c.all_reach.ensures) ∙ sym (list_all-map (λ t. reaches c.args.params t) term_of e.pars))
