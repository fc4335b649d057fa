use Rattle.std.proofs.Common.{false, subst, sym}
use Rattle.qp_kernel_turns.specs.Lanes.{LaneGoes}
use Rattle.qp_wait.specs.Wrapped.{ringing_view}
use Rattle.qp_wait.specs.Lane.{bell_view}
use Rattle.qp_wait.proofs.Parts.{finishes-one}
use Rattle.qp_wait.proofs.steps.finish.Goals as goal

pub returns-clause-lane : goal.returns-clause-lane
returns-clause-lane g c = subst (λ r. LaneGoes false (bell_view c.args.lane.now) (ringing_view r)) (sym c.close.ensures.ringing) c.in_ok-go_on.ensures.lane

pub returns-clause-counts : goal.returns-clause-counts
returns-clause-counts g c = finishes-one c.args.said.now c.close.new.said c.args.lane.now c.go_on.new.lane c.close.new.lane c.in_ok-go_on.ensures.counts c.close.ensures
