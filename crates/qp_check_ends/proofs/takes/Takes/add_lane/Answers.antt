use Rattle.std.proofs.Common.{get_or}
use Rattle.qp_check_ends.proofs.TakesLemmas.{counted-none, counted-more}
use Rattle.qp_check_ends.proofs.takes.Takes.add_lane.Goals as goal

pub loop-r-init : goal.loop-r-init
loop-r-init c o h = counted-none o (get_or c.args.self.now.counts o 0) (c.requires o h)

pub loop-r-preserved : goal.loop-r-preserved
loop-r-preserved c o h =
    counted-more o c.args.lane.now c.loop-r.r-index c.r-item.result c.loop-r-test.true c.r-item.is
    (get_or c.add.new.self.counts o 0) (get_or c.loop-r.self.counts o 0) (get_or c.args.self.now.counts o 0) c.taker.result
    (c.add.ensures o h) (c.loop-r.invariant o h) (c.taker.ensures o)
