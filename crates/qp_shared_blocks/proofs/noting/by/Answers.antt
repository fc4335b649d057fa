use Rattle.std.proofs.Common.{ap}
use Rattle.qp_table.specs.Lane.{lane_of}
use Rattle.qp_shared_lane.specs.Lane.{state_view}
use Rattle.qp_shared_blocks.proofs.noting.by.Goals as goal

pub returns-clause-former : goal.returns-clause-former
unfolding lane_of
returns-clause-former c = c.replace.ensures.value

pub returns-clause-set : goal.returns-clause-set
unfolding lane_of
returns-clause-set c = ap (λ o. record (state_view c.args.lane.now) { by = o }) c.replace.ensures.after
