use Rattle.qp_wait_rings.specs.Lane.{ringing_view}
use Rattle.qp_wait_rings.proofs.Quiet.{stopped-quiet}
use Rattle.qp_wait.proofs.Parking.{parked-still}
use Rattle.qp_wait.proofs.ops.BellLaneOps.stopped.Goals as goal

pub invariant_of-self : goal.invariant_of-self
invariant_of-self c = let l = c.args.self.now in record { parked = parked-still l.farewells.cords.items l.perch (ringing_view l.ringing) (ringing_view c.stopped.new.self) l.parked (stopped-quiet (ringing_view l.ringing) (ringing_view c.stopped.new.self) c.stopped.result c.stopped.ensures.stops).grown }
