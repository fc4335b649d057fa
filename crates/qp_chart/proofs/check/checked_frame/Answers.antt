use Rattle.std.proofs.Common.{◌∙◌}
use Rattle.std.proofs.lemmas.Result.{err_from_is_err_and}
use Rattle.qp_chart.specs.ChartFaults.{frame_fault}
use Rattle.qp_chart_names.proofs.FaultLemmas.{found-first, found-next, none-next, none-last}
use Rattle.qp_chart.proofs.check.checked_frame.Goals as goal

pub returns-in_err-timers-clause-fault : goal.returns-in_err-timers-clause-fault
unfolding frame_fault
returns-in_err-timers-clause-fault c =
    let p = err_from_is_err_and c.from_residual.result c.from_residual.ensures.1 in
    rw (p.1, p.2, ← c.as_slice.ensures) (found-first _ _ _ c.in_err-timers.ensures.fault)

pub returns-in_err-parents-clause-fault : goal.returns-in_err-parents-clause-fault
unfolding frame_fault
returns-in_err-parents-clause-fault c =
    let p = err_from_is_err_and c.from_residual-in_err-parents.result c.from_residual-in_err-parents.ensures.1 in
    let timers = rw c.as_slice.ensures at c.in_ok-timers.ensures.ok in
    let parents = rw c.as_slice-2.ensures at c.in_err-parents.ensures.fault in
    rw (p.1, p.2) (found-next _ _ _ timers.0 (found-first _ _ _ parents))

pub returns-in_err-check_tree-clause-fault : goal.returns-in_err-check_tree-clause-fault
unfolding frame_fault
returns-in_err-check_tree-clause-fault c =
    let p = err_from_is_err_and c.from_residual-in_err-check_tree.result c.from_residual-in_err-check_tree.ensures.1 in
    let timers = rw c.as_slice.ensures at c.in_ok-timers.ensures.ok in
    let parents = rw c.as_slice-2.ensures at c.in_ok-parents.ensures.ok in
    let tree = rw (c.as_slice-3.ensures.value ∙ parents.1) at c.in_err-check_tree.ensures.fault in
    rw (p.1, p.2) (found-next _ _ _ timers.0 (found-next _ _ _ parents.0 (found-first _ _ _ tree)))

pub returns-clause-ok : goal.returns-clause-ok
unfolding frame_fault
returns-clause-ok c =
    let timers = rw c.as_slice.ensures at c.in_ok-timers.ensures.ok in
    let parents = rw c.as_slice-2.ensures at c.in_ok-parents.ensures.ok in
    let tree = rw (c.as_slice-3.ensures.value ∙ parents.1) at c.in_ok-check_tree.ensures.ok in
    (none-next _ _ timers.0 (none-next _ _ parents.0 (none-next _ _ tree none-last)), timers.1, parents.1)
