use Rattle.std.proofs.lemmas.Result.{err_from_is_err_and, IfOk-weaker, IfErr-weaker}
use Rattle.qp_chart.specs.ChartFaults.{chart_fault}
use Rattle.qp_chart_names.proofs.FaultLemmas.{found-first, found-next, none-next, none-last}
use Rattle.qp_chart.proofs.LegalLemmas.{IsLegal-from}
use Rattle.qp_chart.proofs.checked.Chart.check.Goals as goal

pub returns-in_err-tables_of-clause-fault : goal.returns-in_err-tables_of-clause-fault
unfolding chart_fault
returns-in_err-tables_of-clause-fault c =
    let p = err_from_is_err_and c.from_residual.result c.from_residual.ensures.1 in
    rw (p.1, p.2) (found-first _ _ _ c.in_err-tables_of.ensures.fault)

pub returns-clause-fault : goal.returns-clause-fault
unfolding chart_fault
returns-clause-fault c = IfErr-weaker c.checked_chart.result _ _ (λ e h. found-next _ _ _ c.in_ok-tables_of.ensures.ok.0 (found-first _ _ _ h)) c.checked_chart.ensures.fault

pub returns-clause-ok : goal.returns-clause-ok
unfolding chart_fault
returns-clause-ok c = IfOk-weaker c.checked_chart.result _ _ (λ chart h. (none-next _ _ c.in_ok-tables_of.ensures.ok.0 (none-next _ _ h.0 none-last), h.1)) c.checked_chart.ensures.ok

pub returns-clause-legal : goal.returns-clause-legal
returns-clause-legal c = IfOk-weaker c.checked_chart.result _ _ (λ chart h. IsLegal-from c.args.names.now c.args.raw.now chart h.0 h.1) (returns-clause-ok c)
