use Rattle.qp_shared_tests.proofs.LampLemmas.{parked-grown}
use Rattle.qp_shared_tests.proofs.rings.post_and_count.Goals as goal

pub invariant_of-lane : goal.invariant_of-lane
invariant_of-lane c = record { parked = parked-grown c.args.lane.now c.post_go.new.ops c.post_go.ensures }
