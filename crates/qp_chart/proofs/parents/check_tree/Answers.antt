use Rattle.std.proofs.lemmas.Result.{err_from_is_err_and, IfOk-weaker}
use Rattle.qp_chart.specs.Parents.{tree_fault}
use Rattle.qp_chart_names.proofs.FaultLemmas.{found-first, found-next, none-next, none-last, IfErr-weaker}
use Rattle.qp_chart.proofs.parents.check_tree.Goals as goal

pub returns-in_err-check_loops-clause-fault : goal.returns-in_err-check_loops-clause-fault
unfolding tree_fault
returns-in_err-check_loops-clause-fault c =
    let p = err_from_is_err_and c.from_residual.result c.from_residual.ensures.1 in
    rw (p.1, p.2) (found-first _ _ _ c.in_err-check_loops.ensures.fault)

pub returns-clause-ok : goal.returns-clause-ok
unfolding tree_fault
returns-clause-ok c = IfOk-weaker c.check_depth.result _ _ (λ x none. none-next _ _ c.in_ok-check_loops.ensures.ok (none-next _ _ none none-last)) c.check_depth.ensures.ok

pub returns-clause-fault : goal.returns-clause-fault
unfolding tree_fault
returns-clause-fault c = IfErr-weaker c.check_depth.result _ _ (λ e found. found-next _ _ e c.in_ok-check_loops.ensures.ok (found-first _ _ e found)) c.check_depth.ensures.fault
