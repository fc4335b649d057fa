use Rattle.std.proofs.Common.{not, ap, refl}
use Rattle.std.proofs.lemmas.Result.{err_from_is_err_and}
use Rattle.qp_chart.specs.ChartFaults.{timer_fault}
use Rattle.qp_chart_names.proofs.FaultLemmas.{found-first, found-next, none-next, none-last, undeclared-None, fault_if-true, fault_if-false}
use Rattle.qp_chart.proofs.check.checked_timer.Goals as goal

pub returns-in_err-signal-clause-fault : goal.returns-in_err-signal-clause-fault
unfolding timer_fault
returns-in_err-signal-clause-fault c =
    let p = err_from_is_err_and c.from_residual.result c.from_residual.ensures.1 in
    rw (p.1, p.2) (found-first _ _ _ c.in_err-signal.ensures.fault)

pub returns-then-not-signal_is_static-clause-fault : goal.returns-then-not-signal_is_static-clause-fault
unfolding timer_fault
returns-then-not-signal_is_static-clause-fault c =
    found-next _ _ _ (undeclared-None _ c.in_ok-signal.ensures.ok)
    (found-first _ _ _ (fault_if-true _ _ _ _ (ap not c.if-not-signal_is_static.ensures) c.below.ensures))

pub returns-clause-ok : goal.returns-clause-ok
unfolding timer_fault
returns-clause-ok c = (
  none-next _ _ (undeclared-None _ c.in_ok-signal.ensures.ok) (none-next _ _ (fault_if-false _ _ _ (ap not c.if-not-signal_is_static.ensures)) none-last),
  record { name = refl; signal = c.in_ok-signal.ensures.ok; rate = refl },
)
