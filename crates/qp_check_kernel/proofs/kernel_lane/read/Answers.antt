use Rattle.std.proofs.Common.{◌∙◌, sym, ap, arith}
use Rattle.qp_model.specs.History.{lane_items}
use Rattle.qp_model.specs.KernelLane.{lane_on, lane_read}
use Rattle.qp_check_kernel.specs.LaneState.{as_reading, as_setting}
use Rattle.qp_check_kernel.proofs.ReadingLemmas.{lane_on-kept, lane_on-refused, lane_on-end}
use Rattle.qp_check_kernel.proofs.kernel_lane.read.Goals as goal

pub loop-r-init : goal.loop-r-init
unfolding lane_read
loop-r-init c = record { same = ap (λ k. lane_on (as_setting c.args.rules.now) k (lane_items c.args.lane.now)) c.of_none-reading.ensures.exact; few = omega (arith, c.of_none-reading.ensures.none) }

pub returns-then-not-branch : goal.returns-then-not-branch
returns-then-not-branch c =
    sym (lane_on-refused (as_setting c.args.rules.now) (as_reading c.loop-r.reading) c.args.lane.now c.loop-r.r-index c.r-item.result c.loop-r-test.true c.r-item.is
    (as_reading c.next.new.self) c.in_ok-next.field-0 c.in_ok-next.ensures.exact c.if-not-branch.true)
    ∙ c.loop-r.invariant.same

pub loop-r-preserved : goal.loop-r-preserved
loop-r-preserved c = record {
  same =
      sym (lane_on-kept (as_setting c.args.rules.now) (as_reading c.loop-r.reading) c.args.lane.now c.loop-r.r-index c.r-item.result c.loop-r-test.true c.r-item.is
      (as_reading c.next.new.self) c.in_ok-next.field-0 c.in_ok-next.ensures.exact c.if-not-branch.false)
      ∙ c.loop-r.invariant.same;
  few = omega (arith, c.in_ok-next.ensures.few, c.loop-r.invariant.few);
}

pub returns : goal.returns
returns c = sym (lane_on-end (as_setting c.args.rules.now) (as_reading c.loop-r.reading) c.args.lane.now c.loop-r.r-index c.loop-r-test.false) ∙ c.loop-r.invariant.same
