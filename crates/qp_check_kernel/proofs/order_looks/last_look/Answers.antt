use Rattle.std.proofs.Common.{ap, sym}
use Rattle.qp_check_kernel.specs.OneOrder.{last_of}
use Rattle.qp_check_kernel.proofs.LookLemmas.{look_numbers-none, last-more}
use Rattle.qp_check_kernel.proofs.order_looks.last_look.Goals as goal

pub loop-r-init : goal.loop-r-init
loop-r-init c = sym (ap last_of look_numbers-none)

pub loop-r-preserved : goal.loop-r-preserved
loop-r-preserved c =
    last-more c.args.lane0.now c.loop-r.r-index c.r-item.result c.loop-r-test.true c.r-item.is c.look_number.result c.look_number.ensures
    c.later-last.result c.loop-r.last c.later-last.ensures c.loop-r.invariant
