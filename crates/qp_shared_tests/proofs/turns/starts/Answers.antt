use Rattle.std.proofs.Common.{subst, sym}
use Rattle.qp_port_lanes.specs.At.{HasEmptyLane, IsUnstartedHome}
use Rattle.qp_wait.specs.Handed.{bell_view}
use Rattle.qp_shared_tests.proofs.LampLemmas.{parked-grown, started-grown}
use Rattle.qp_shared_tests.proofs.turns.starts.Goals as goal

pub start-requires-clause-made : goal.start-requires-clause-made
start-requires-clause-made c = let made = c.requires.made in subst (λ p. IsUnstartedHome c.args.sys.now p c.args.home.now) (sym made.me) made

pub start-requires-clause-empty : goal.start-requires-clause-empty
start-requires-clause-empty c = subst (λ p. HasEmptyLane c.args.sys.now p (bell_view c.args.lane.now)) (sym c.requires.made.me) c.requires.empty

pub returns-in-Done : goal.returns-in-Done
returns-in-Done c = λ is. c.in-Done.ensures.goes 100000

pub invariant_of-lane : goal.invariant_of-lane
invariant_of-lane c = record { parked = parked-grown c.args.lane.now c.start.new.ops (started-grown _ _ c.start.result c.start.ensures.lane) }
