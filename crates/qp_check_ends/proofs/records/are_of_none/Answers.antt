use Rattle.qp_check_ends.proofs.ItemLemmas.{alone-next, alone-not, alone-end}
use Rattle.qp_check_ends.proofs.records.are_of_none.Goals as goal

pub returns-then-r-ne0 : goal.returns-then-r-ne0
returns-then-r-ne0 c = alone-not c.args.lane.now c.loop-r.r-index c.r-item.result c.loop-r-test.true c.r-item.is c.loop-r.invariant c.if-r-ne0.true

pub loop-r-preserved : goal.loop-r-preserved
loop-r-preserved c = alone-next c.args.lane.now c.loop-r.r-index c.r-item.result c.loop-r-test.true c.r-item.is c.loop-r.invariant c.if-r-ne0.false

pub returns : goal.returns
returns c = alone-end c.args.lane.now c.loop-r.r-index c.loop-r-test.false c.loop-r.invariant
