use Rattle.qp_check_kernel.proofs.InLookLemmas.{found-more}
use Rattle.qp_check_kernel.proofs.order_turns.InLook.among.Goals as goal

pub loop-x-preserved : goal.loop-x-preserved
loop-x-preserved c =
    found-more c.args.part.now c.loop-x.x-index c.x-item.result c.loop-x-test.true c.x-item.is c.loop-x.found c.and-found.result c.turn.result
    c.and-found.ensures c.turn.ensures c.loop-x.invariant
