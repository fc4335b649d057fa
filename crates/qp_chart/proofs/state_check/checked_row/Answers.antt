use Rattle.std.proofs.Common.{append-nil}
use Rattle.std.proofs.lemmas.Result.{err_from_is_err_and}
use Rattle.qp_chart.specs.ChartFaults.{row_fault}
use Rattle.qp_chart_names.proofs.FaultLemmas.{found-first, found-next, none-next, none-last, undeclared-None, undeclared_key-None, fault_if-false, fault_if-true}
use Rattle.qp_chart.proofs.state_check.checked_row.Goals as goal

pub returns-in_err-on-clause-fault : goal.returns-in_err-on-clause-fault
unfolding row_fault
returns-in_err-on-clause-fault c =
    let p = err_from_is_err_and c.from_residual.result c.from_residual.ensures.1 in
    rw (p.1, p.2) (found-first _ _ _ c.in_err-on.ensures.fault)

pub returns-then-covered-clause-fault : goal.returns-then-covered-clause-fault
unfolding row_fault
returns-then-covered-clause-fault c =
    found-next _ _ _ (undeclared-None _ c.in_ok-on.ensures.ok)
    (found-first _ _ _ (fault_if-true _ _ _ _ c.if-covered.ensures (rw append-nil at c.below.ensures)))

pub returns-in_err-when-clause-fault : goal.returns-in_err-when-clause-fault
unfolding row_fault
returns-in_err-when-clause-fault c =
    let p = err_from_is_err_and c.from_residual-in_err-when.result c.from_residual-in_err-when.ensures.1 in
    let when = rw c.count_of-params.ensures at c.in_err-when.ensures.fault in
    rw (p.1, p.2)
    (found-next _ _ _ (undeclared-None _ c.in_ok-on.ensures.ok)
    (found-next _ _ _ (fault_if-false _ _ _ c.if-covered.ensures)
    (found-first _ _ _ when)))

pub returns-in_err-acts-clause-fault : goal.returns-in_err-acts-clause-fault
unfolding row_fault
returns-in_err-acts-clause-fault c =
    let p = err_from_is_err_and c.from_residual-in_err-acts.result c.from_residual-in_err-acts.ensures.1 in
    let when = rw c.count_of-params.ensures at c.in_ok-when.ensures.ok in
    let acts = rw (c.count_of-params.ensures, c.as_slice.ensures) at c.in_err-acts.ensures.fault in
    rw (p.1, p.2)
    (found-next _ _ _ (undeclared-None _ c.in_ok-on.ensures.ok)
    (found-next _ _ _ (fault_if-false _ _ _ c.if-covered.ensures)
    (found-next _ _ _ when.0
    (found-first _ _ _ acts))))

pub returns-in_err-to-clause-fault : goal.returns-in_err-to-clause-fault
unfolding row_fault
returns-in_err-to-clause-fault c =
    let p = err_from_is_err_and c.from_residual-in_err-to.result c.from_residual-in_err-to.ensures.1 in
    let when = rw c.count_of-params.ensures at c.in_ok-when.ensures.ok in
    let acts = rw (c.count_of-params.ensures, c.as_slice.ensures) at c.in_ok-acts.ensures.ok in
    rw (p.1, p.2)
    (found-next _ _ _ (undeclared-None _ c.in_ok-on.ensures.ok)
    (found-next _ _ _ (fault_if-false _ _ _ c.if-covered.ensures)
    (found-next _ _ _ when.0
    (found-next _ _ _ acts.0
    (found-first _ _ _ c.in_err-to.ensures.fault)))))

pub returns-clause-ok : goal.returns-clause-ok
unfolding row_fault
returns-clause-ok c =
    let to = undeclared_key-None _ _ _ _ c.in_ok-to.ensures.ok in
    let when = rw c.count_of-params.ensures at c.in_ok-when.ensures.ok in
    let acts = rw (c.count_of-params.ensures, c.as_slice.ensures) at c.in_ok-acts.ensures.ok in (
      none-next _ _ (undeclared-None _ c.in_ok-on.ensures.ok)
          (none-next _ _ (fault_if-false _ _ _ c.if-covered.ensures) (none-next _ _ when.0 (none-next _ _ acts.0 (none-next _ _ to none-last)))),
      record { on = c.in_ok-on.ensures.ok; when = when.1; acts = acts.1; to = c.in_ok-to.ensures.ok },
    )
