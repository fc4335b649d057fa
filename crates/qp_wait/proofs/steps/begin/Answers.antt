use Rattle.qp_wait.specs.Wrapped.{ringing_view}
use Rattle.qp_wait.proofs.Parking.{parked-still}
use Rattle.qp_wait.proofs.Growing.{lane-grown}
use Rattle.qp_wait.proofs.steps.begin.Goals as goal

pub invariant_of-lane : goal.invariant_of-lane
invariant_of-lane g c =
    let l = c.args.lane.now in
    let now = ringing_view c.begin_step.new.ops in
    record { parked = parked-still l.farewells.cords.items l.perch (ringing_view l.ringing) now l.parked (lane-grown (ringing_view l.ringing) now c.begin_step.result c.begin_step.ensures.lane) }
