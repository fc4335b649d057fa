use Rattle.std.proofs.Common.{not, ap}
use Rattle.std.proofs.lemmas.Result.{IfOk-weaker}
use Rattle.qp_chart_names.specs.ActionFaults.{guard_fault}
use Rattle.qp_chart_names.proofs.FaultLemmas.{found-first, found-next, none-next, none-last, fault_if-true, fault_if-false}
use Rattle.qp_chart.proofs.statements.guard_of.Goals as goal

pub returns-then-not-knows-clause-fault : goal.returns-then-not-knows-clause-fault
unfolding guard_fault
returns-then-not-knows-clause-fault c = found-first _ _ _ (fault_if-true _ _ _ _ (ap not c.if-not-knows.ensures) c.below.ensures)

pub returns-then-not-reaches-clause-fault : goal.returns-then-not-reaches-clause-fault
unfolding guard_fault
returns-then-not-reaches-clause-fault c =
    found-next _ _ _ (fault_if-false _ _ _ (ap not c.if-not-knows.ensures))
    (found-first _ _ _ (fault_if-true _ _ _ _ (ap not c.if-not-reaches.ensures) c.below-then-not-reaches.ensures))

pub returns-clause-ok : goal.returns-clause-ok
unfolding guard_fault
returns-clause-ok c =
    IfOk-weaker c.bound.result _ _
    (λ b made. (none-next _ _ (fault_if-false _ _ _ (ap not c.if-not-knows.ensures)) (none-next _ _ (fault_if-false _ _ _ (ap not c.if-not-reaches.ensures)) none-last), made))
    c.bound.ensures.ok
