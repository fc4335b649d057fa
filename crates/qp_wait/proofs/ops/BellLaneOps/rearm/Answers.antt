use Rattle.qp_wait_rings.specs.Lane.{ringing_view}
use Rattle.qp_wait_rings.proofs.Quiet.{rearm-quiet}
use Rattle.qp_wait.proofs.Parking.{parked-still}
use Rattle.qp_wait.proofs.ops.BellLaneOps.rearm.Goals as goal

pub invariant_of-self : goal.invariant_of-self
invariant_of-self g c = let l = c.args.self.now in record { parked = parked-still l.farewells.cords.items l.perch (ringing_view l.ringing) (ringing_view c.rearm.new.self) l.parked (rearm-quiet c.args.t c.args.ticks (ringing_view l.ringing) (ringing_view c.rearm.new.self) c.rearm.result c.rearm.ensures.rearms).grown }
