use Rattle.std.proofs.Common.{refl}
use Rattle.std.proofs.lemmas.Result.{err_from_is_err_and}
use Rattle.qp_chart_names.specs.ActionFaults.{when_fault}
use Rattle.qp_chart.proofs.statements.checked_guard.Goals as goal

pub returns-in_err-checked_expr-in-Some-clause-fault : goal.returns-in_err-checked_expr-in-Some-clause-fault
unfolding when_fault
returns-in_err-checked_expr-in-Some-clause-fault c =
    let p = err_from_is_err_and c.from_residual.result c.from_residual.ensures.1 in
    rw (p.1, p.2, c.in-Some.is, ← c.as_str.ensures) c.in_err-checked_expr-in-Some.ensures.fault

pub returns-in_ok-checked_expr-in-Some-clause-ok : goal.returns-in_ok-checked_expr-in-Some-clause-ok
unfolding when_fault
returns-in_ok-checked_expr-in-Some-clause-ok c =
    rw (c.in-Some.is, ← c.as_str.ensures) c.in_ok-checked_expr-in-Some.ensures.ok

pub returns-in-None-clause-ok : goal.returns-in-None-clause-ok
unfolding when_fault
returns-in-None-clause-ok c = rw c.in-None.is (refl, tt)
