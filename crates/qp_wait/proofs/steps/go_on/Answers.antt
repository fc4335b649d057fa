use Rattle.qp_wait.specs.Wrapped.{ringing_view}
use Rattle.qp_wait.proofs.Parking.{parked-still}
use Rattle.qp_wait.proofs.Growing.{lane-grown}
use Rattle.qp_wait.proofs.steps.go_on.Goals as goal

pub invariant_of-lane : goal.invariant_of-lane
invariant_of-lane g c =
    let l = c.args.lane.now in
    let now = ringing_view c.finish_step.new.ops in
    record { parked = parked-still l.farewells.cords.items l.perch (ringing_view l.ringing) now l.parked (lane-grown (ringing_view l.ringing) now c.finish_step.result c.finish_step.ensures.lane) }
