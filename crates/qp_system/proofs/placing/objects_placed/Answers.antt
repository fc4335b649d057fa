use Rattle.std.proofs.Common.{◌∙◌, refl, arith}
use Rattle.std.proofs.lemmas.Result.{err_from_is_err_and}
use Rattle.qp_system.specs.Between.{placing_fault, timer_count_of}
use Rattle.qp_system.proofs.PassLemmas.{clear-none, clear-one, clear-all, first-at}
use Rattle.qp_system.proofs.PlacingLemmas.{sum-more}
use Rattle.qp_system.proofs.placing.objects_placed.Goals as goal

pub loop-i-init : goal.loop-i-init
loop-i-init c = record { clear = clear-none (placing_fault c.args.charts.now) c.args.objects.now; total = refl; few = omega arith }

pub returns-in_err-timers : goal.returns-in_err-timers
returns-in_err-timers c =
    let p = err_from_is_err_and c.from_residual.result c.from_residual.ensures.1 in
    rw (p.1, p.2)
    (first-at (placing_fault c.args.charts.now) c.args.objects.now c.loop-i.i c.index-objects-i.result _ c.loop-i.invariant.clear
    c.loop-i-test.true c.index-objects-i.is c.in_err-timers.ensures.passes)

pub loop-i-preserved : goal.loop-i-preserved
loop-i-preserved c = record {
  clear = clear-one (placing_fault c.args.charts.now) c.args.objects.now c.loop-i.i c.index-objects-i.result c.loop-i.invariant.clear
      c.loop-i-test.true c.index-objects-i.is c.in_ok-timers.ensures.passes;
  total = c.in_ok-timers.ensures.total.0
      ∙ sum-more (timer_count_of c.args.charts.now) c.args.objects.now c.loop-i.i c.index-objects-i.result c.loop-i.timers
      c.loop-i-test.true c.index-objects-i.is c.loop-i.invariant.total;
  few = c.in_ok-timers.ensures.total.1;
}

pub returns : goal.returns
returns c = clear-all (placing_fault c.args.charts.now) c.args.objects.now c.loop-i.i c.loop-i.invariant.clear c.loop-i-test.false
