use Rattle.std.proofs.Common.{◌∙◌, refl}
use Rattle.std.proofs.lemmas.Result.{err_from_is_err_and}
use Rattle.qp_chart.specs.ChartFaults.{parts_fault}
use Rattle.qp_chart_names.proofs.FaultLemmas.{found-first, found-next, none-next, none-last}
use Rattle.qp_chart.proofs.check.checked_chart.Goals as goal

pub returns-in_err-timer-clause-fault : goal.returns-in_err-timer-clause-fault
unfolding parts_fault
returns-in_err-timer-clause-fault c =
    let p = err_from_is_err_and c.from_residual.result c.from_residual.ensures.1 in
    rw (p.1, p.2) (found-first _ _ _ c.in_err-timer.ensures.fault)

pub returns-in_err-init-clause-fault : goal.returns-in_err-init-clause-fault
unfolding parts_fault
returns-in_err-init-clause-fault c =
    let p = err_from_is_err_and c.from_residual-in_err-init.result c.from_residual-in_err-init.ensures.1 in
    rw (p.1, p.2) (found-next _ _ _ c.in_ok-timer.ensures.ok.0 (found-first _ _ _ c.in_err-init.ensures.fault))

pub returns-clause-ok : goal.returns-clause-ok
unfolding parts_fault
returns-clause-ok c =
    let body = c.in_ok-init.ensures.ok in (
      none-next _ _ c.in_ok-timer.ensures.ok.0 (none-next _ _ body.0 none-last),
      record {
        name = refl;
        init = body.1.init;
        init_do = body.1.init_do;
        vars = c.in_ok-vars.ensures ∙ c.as_slice-2.ensures;
        timer = c.in_ok-timer.ensures.ok.1;
        state = body.1.state;
      },
    )
