use Rattle.std.proofs.Common.{◌∙◌, sym, refl, arith}
use Rattle.qp_model.specs.History.{total}
use Rattle.qp_check_kernel.specs.AsPlaced.{said_at}
use Rattle.qp_model.specs.Touches.{as_touch}
use Rattle.qp_check_lanes.specs.WordTotals.{count_at}
use Rattle.qp_check_kernel.proofs.OrderNumberLemmas.{total-small, total-more, in_order-end, in_order-kept, in_order-broken}
use Rattle.qp_check_kernel.proofs.order_tests.numbers_stand.Goals as goal

pub loop-x-init : goal.loop-x-init
unfolding total
loop-x-init c = record { totals = c.none-totals.ensures; same = refl }

pub returns-then-not-is_next : goal.returns-then-not-is_next
returns-then-not-is_next c =
    sym (in_order-broken said_at c.args.order.now c.loop-x.x-index c.x-item.result c.loop-x-test.true c.x-item.is (count_at c.loop-x.totals) c.loop-x.invariant.totals
    (as_touch c.by-touched.result) c.by-touched.ensures (sym c.is_next.ensures ∙ c.if-not-is_next.true))
    ∙ c.loop-x.invariant.same

pub count-requires : goal.count-requires
count-requires c w = omega (arith, c.loop-x.invariant.totals w, total-small said_at c.args.order.now c.loop-x.x-index w c.loop-x.auto.x-index-end)

pub loop-x-preserved : goal.loop-x-preserved
loop-x-preserved c = record {
  totals = λ w. c.in_ok-count.ensures w ∙ total-more said_at c.args.order.now c.loop-x.x-index c.x-item.result c.loop-x-test.true c.x-item.is (count_at c.loop-x.totals) c.loop-x.invariant.totals
      (as_touch c.by-touched.result) c.by-touched.ensures w;
  same =
      sym (in_order-kept said_at c.args.order.now c.loop-x.x-index c.x-item.result c.loop-x-test.true c.x-item.is (count_at c.loop-x.totals) c.loop-x.invariant.totals
      (as_touch c.by-touched.result) c.by-touched.ensures (sym c.is_next.ensures ∙ c.if-not-is_next.false))
      ∙ c.loop-x.invariant.same;
}

pub returns : goal.returns
returns c = sym (in_order-end said_at c.args.order.now c.loop-x.x-index _ c.loop-x-test.false) ∙ c.loop-x.invariant.same
