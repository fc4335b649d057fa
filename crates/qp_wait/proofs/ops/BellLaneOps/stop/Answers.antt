use Rattle.qp_wait_rings.specs.Lane.{ringing_view}
use Rattle.qp_wait_rings.proofs.Quiet.{stop-quiet}
use Rattle.qp_wait.proofs.Parking.{parked-still}
use Rattle.qp_wait.proofs.ops.BellLaneOps.stop.Goals as goal

pub invariant_of-self : goal.invariant_of-self
invariant_of-self c = let l = c.args.self.now in record { parked = parked-still l.farewells.cords.items l.perch (ringing_view l.ringing) (ringing_view c.stop.new.self) l.parked (stop-quiet c.args.code (ringing_view l.ringing) (ringing_view c.stop.new.self) c.stop.ensures).grown }
