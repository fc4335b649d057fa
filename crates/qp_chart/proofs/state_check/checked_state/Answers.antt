use Rattle.std.proofs.Common.{refl}
use Rattle.std.proofs.lemmas.Result.{err_from_is_err_and}
use Rattle.qp_chart.specs.ChartFaults.{state_fault}
use Rattle.qp_chart_names.proofs.FaultLemmas.{found-first, found-next, none-next, none-last}
use Rattle.qp_chart.proofs.state_check.checked_state.Goals as goal

pub returns-in_err-entry-clause-fault : goal.returns-in_err-entry-clause-fault
unfolding state_fault
returns-in_err-entry-clause-fault c =
    let p = err_from_is_err_and c.from_residual.result c.from_residual.ensures.1 in
    rw (p.1, p.2, ← c.as_slice.ensures) (found-first _ _ _ c.in_err-entry.ensures.fault)

pub returns-in_err-exit-clause-fault : goal.returns-in_err-exit-clause-fault
unfolding state_fault
returns-in_err-exit-clause-fault c =
    let p = err_from_is_err_and c.from_residual-in_err-exit.result c.from_residual-in_err-exit.ensures.1 in
    let entry = rw c.as_slice.ensures at c.in_ok-entry.ensures.ok in
    let exit = rw c.as_slice-2.ensures at c.in_err-exit.ensures.fault in
    rw (p.1, p.2) (found-next _ _ _ entry.0 (found-first _ _ _ exit))

pub returns-in_err-init-clause-fault : goal.returns-in_err-init-clause-fault
unfolding state_fault
returns-in_err-init-clause-fault c =
    let p = err_from_is_err_and c.from_residual-in_err-init.result c.from_residual-in_err-init.ensures.1 in
    let entry = rw c.as_slice.ensures at c.in_ok-entry.ensures.ok in
    let exit = rw c.as_slice-2.ensures at c.in_ok-exit.ensures.ok in
    rw (p.1, p.2) (found-next _ _ _ entry.0 (found-next _ _ _ exit.0 (found-first _ _ _ c.in_err-init.ensures.fault)))

pub returns-in_err-init_do-clause-fault : goal.returns-in_err-init_do-clause-fault
unfolding state_fault
returns-in_err-init_do-clause-fault c =
    let p = err_from_is_err_and c.from_residual-in_err-init_do.result c.from_residual-in_err-init_do.ensures.1 in
    let entry = rw c.as_slice.ensures at c.in_ok-entry.ensures.ok in
    let exit = rw c.as_slice-2.ensures at c.in_ok-exit.ensures.ok in
    let init_do = rw c.as_slice-3.ensures at c.in_err-init_do.ensures.fault in
    rw (p.1, p.2) (found-next _ _ _ entry.0 (found-next _ _ _ exit.0 (found-next _ _ _ c.in_ok-init.ensures.ok.0 (found-first _ _ _ init_do))))

pub returns-in_err-row-clause-fault : goal.returns-in_err-row-clause-fault
unfolding state_fault
returns-in_err-row-clause-fault c =
    let p = err_from_is_err_and c.from_residual-in_err-row.result c.from_residual-in_err-row.ensures.1 in
    let entry = rw c.as_slice.ensures at c.in_ok-entry.ensures.ok in
    let exit = rw c.as_slice-2.ensures at c.in_ok-exit.ensures.ok in
    let init_do = rw c.as_slice-3.ensures at c.in_ok-init_do.ensures.ok in
    let row = rw c.as_slice-4.ensures at c.in_err-row.ensures.fault in
    rw (p.1, p.2)
    (found-next _ _ _ entry.0 (found-next _ _ _ exit.0 (found-next _ _ _ c.in_ok-init.ensures.ok.0 (found-next _ _ _ init_do.0 (found-first _ _ _ row)))))

pub returns-clause-ok : goal.returns-clause-ok
unfolding state_fault
returns-clause-ok c =
    let entry = rw c.as_slice.ensures at c.in_ok-entry.ensures.ok in
    let exit = rw c.as_slice-2.ensures at c.in_ok-exit.ensures.ok in
    let init_do = rw c.as_slice-3.ensures at c.in_ok-init_do.ensures.ok in
    let row = rw c.as_slice-4.ensures at c.in_ok-row.ensures.ok in (
      none-next _ _ entry.0 (none-next _ _ exit.0 (none-next _ _ c.in_ok-init.ensures.ok.0 (none-next _ _ init_do.0 (none-next _ _ row.0 none-last)))),
      record {
        name = refl;
        parent = c.parent_of.ensures;
        entry = entry.1;
        exit = exit.1;
        init = c.in_ok-init.ensures.ok.1;
        init_do = init_do.1;
        row = row.1;
      },
    )
