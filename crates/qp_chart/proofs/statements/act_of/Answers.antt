use Rattle.std.proofs.Common.{not, ap, sym}
use Rattle.std.proofs.lemmas.Result.{IfOk-weaker}
use Rattle.qp_chart_names.specs.ActionFaults.{action_fault}
use Rattle.qp_chart_names.proofs.FaultLemmas.{found-first, found-next, none-next, none-last, fault_if-true, fault_if-false}
use Rattle.qp_chart.proofs.statements.act_of.Goals as goal

pub returns-then-not-is_known-clause-fault : goal.returns-then-not-is_known-clause-fault
unfolding action_fault
returns-then-not-is_known-clause-fault c = found-first _ _ _ (fault_if-true _ _ _ _ (ap not c.if-not-is_known.ensures) c.below.ensures)

pub returns-then-not-is_in_range-clause-fault : goal.returns-then-not-is_in_range-clause-fault
unfolding action_fault
returns-then-not-is_in_range-clause-fault c =
    found-next _ _ _ (fault_if-false _ _ _ (ap not c.if-not-is_known.ensures))
    (found-first _ _ _ (fault_if-true _ _ _ _ (ap not c.if-not-is_in_range.ensures) c.below-then-not-is_in_range.ensures))

pub returns-then-not-is_fit-clause-fault : goal.returns-then-not-is_fit-clause-fault
unfolding action_fault
returns-then-not-is_fit-clause-fault c =
    found-next _ _ _ (fault_if-false _ _ _ (ap not c.if-not-is_known.ensures))
    (found-next _ _ _ (fault_if-false _ _ _ (ap not c.if-not-is_in_range.ensures))
    (found-first _ _ _ (fault_if-true _ _ _ _ (ap not c.if-not-is_fit.ensures) c.below-then-not-is_fit.ensures)))

pub returns-clause-ok : goal.returns-clause-ok
unfolding action_fault
returns-clause-ok c =
    IfOk-weaker c.resolved.result _ _
    (λ a made. (
      none-next _ _ (fault_if-false _ _ _ (ap not c.if-not-is_known.ensures))
          (none-next _ _ (fault_if-false _ _ _ (ap not c.if-not-is_in_range.ensures))
          (none-next _ _ (fault_if-false _ _ _ (ap not c.if-not-is_fit.ensures)) none-last)),
      record { known = sym c.if-not-is_known.ensures; in_range = sym c.if-not-is_in_range.ensures; fits = sym c.if-not-is_fit.ensures; made = made },
    ))
    c.resolved.ensures.ok
