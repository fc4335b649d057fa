use Rattle.qp_wait_rings.specs.Lane.{ringing_view}
use Rattle.qp_wait_rings.proofs.Quiet.{arm-quiet}
use Rattle.qp_wait.proofs.Parking.{parked-still}
use Rattle.qp_wait.proofs.ops.BellLaneOps.arm.Goals as goal

pub invariant_of-self : goal.invariant_of-self
invariant_of-self g c = let l = c.args.self.now in record { parked = parked-still l.farewells.cords.items l.perch (ringing_view l.ringing) (ringing_view c.arm.new.self) l.parked (arm-quiet c.args.t c.args.ticks c.args.interval (ringing_view l.ringing) (ringing_view c.arm.new.self) c.arm.result c.arm.ensures.arms).grown }
