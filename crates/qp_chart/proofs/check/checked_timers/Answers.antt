use Rattle.std.proofs.lemmas.List.{take_all}
use Rattle.std.proofs.lemmas.Result.{err_from_is_err_and}
use Rattle.qp_chart.specs.ChartFaults.{timer_fault}
use Rattle.qp_chart.specs.ChartOf.{IsTimerOf}
use Rattle.qp_chart_names.proofs.FaultLemmas.{passed-none, passed-one, passed-all, found-at, Corresponds-none, Corresponds-more}
use Rattle.qp_chart.proofs.check.checked_timers.Goals as goal

pub loop-i-init : goal.loop-i-init
loop-i-init c = record { passed = passed-none _ _; made = rw c.new-timers.ensures.items (Corresponds-none _) }

pub returns-in_err-timer-clause-fault : goal.returns-in_err-timer-clause-fault
returns-in_err-timer-clause-fault c =
    let s = c.args.scope.now in
    let p = err_from_is_err_and c.from_residual.result c.from_residual.ensures.1 in
    rw (p.1, p.2)
    (found-at (timer_fault s.names.now) c.args.raws.now c.loop-i.i c.index-raws-i.result _
    c.loop-i.invariant.passed c.loop-i-test.true c.index-raws-i.is c.in_err-timer.ensures.fault)

pub loop-i-preserved : goal.loop-i-preserved
loop-i-preserved c =
    let s = c.args.scope.now in
    record {
      passed = passed-one (timer_fault s.names.now) c.args.raws.now c.loop-i.i c.index-raws-i.result
          c.loop-i.invariant.passed c.loop-i-test.true c.index-raws-i.is c.in_ok-timer.ensures.ok.0;
      made = rw c.in_ok-push.ensures.items
          (Corresponds-more (IsTimerOf s.names.now) c.args.raws.now c.loop-i.timers.items c.loop-i.i c.index-raws-i.result _
          c.loop-i-test.true c.index-raws-i.is c.loop-i.invariant.made c.in_ok-timer.ensures.ok.1);
    }

pub returns-clause-ok : goal.returns-clause-ok
returns-clause-ok c =
    let s = c.args.scope.now in (
      passed-all (timer_fault s.names.now) c.args.raws.now c.loop-i.i c.loop-i.invariant.passed c.loop-i-test.false,
      rw (take_all c.loop-i.i c.args.raws.now c.loop-i-test.false) at c.loop-i.invariant.made,
    )
