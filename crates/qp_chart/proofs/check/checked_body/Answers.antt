use Rattle.std.proofs.lemmas.Result.{err_from_is_err_and}
use Rattle.qp_chart.specs.ChartFaults.{body_fault}
use Rattle.qp_chart_names.proofs.FaultLemmas.{found-first, found-next, none-next, none-last, undeclared-None}
use Rattle.qp_chart.proofs.check.checked_body.Goals as goal

pub returns-in_err-init-clause-fault : goal.returns-in_err-init-clause-fault
unfolding body_fault
returns-in_err-init-clause-fault c =
    let p = err_from_is_err_and c.from_residual.result c.from_residual.ensures.1 in
    rw (p.1, p.2) (found-first _ _ _ c.in_err-init.ensures.fault)

pub returns-in_err-init_do-clause-fault : goal.returns-in_err-init_do-clause-fault
unfolding body_fault
returns-in_err-init_do-clause-fault c =
    let p = err_from_is_err_and c.from_residual-in_err-init_do.result c.from_residual-in_err-init_do.ensures.1 in
    let init_do = rw c.as_slice.ensures at c.in_err-init_do.ensures.fault in
    rw (p.1, p.2) (found-next _ _ _ (undeclared-None _ c.in_ok-init.ensures.ok) (found-first _ _ _ init_do))

pub returns-in_err-state-clause-fault : goal.returns-in_err-state-clause-fault
unfolding body_fault
returns-in_err-state-clause-fault c =
    let p = err_from_is_err_and c.from_residual-in_err-state.result c.from_residual-in_err-state.ensures.1 in
    let init_do = rw c.as_slice.ensures at c.in_ok-init_do.ensures.ok in
    let states = rw c.as_slice-2.ensures at c.in_err-state.ensures.fault in
    rw (p.1, p.2)
    (found-next _ _ _ (undeclared-None _ c.in_ok-init.ensures.ok) (found-next _ _ _ init_do.0 (found-first _ _ _ states)))

pub returns-clause-ok : goal.returns-clause-ok
unfolding body_fault
returns-clause-ok c =
    let init_do = rw c.as_slice.ensures at c.in_ok-init_do.ensures.ok in
    let states = rw c.as_slice-2.ensures at c.in_ok-state.ensures.ok in (
      none-next _ _ (undeclared-None _ c.in_ok-init.ensures.ok) (none-next _ _ init_do.0 (none-next _ _ states.0 none-last)),
      record { init = c.in_ok-init.ensures.ok; init_do = init_do.1; state = states.1 },
    )
