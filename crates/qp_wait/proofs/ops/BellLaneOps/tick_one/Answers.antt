use Rattle.qp_wait_rings.specs.Lane.{ringing_view}
use Rattle.qp_wait_rings.proofs.Quiet.{tick-quiet}
use Rattle.qp_wait.proofs.Parking.{parked-still}
use Rattle.qp_wait.proofs.ops.BellLaneOps.tick_one.Goals as goal

pub invariant_of-self : goal.invariant_of-self
invariant_of-self g c = let l = c.args.self.now in record { parked = parked-still l.farewells.cords.items l.perch (ringing_view l.ringing) (ringing_view c.tick_one.new.self) l.parked (tick-quiet c.args.t (ringing_view l.ringing) (ringing_view c.tick_one.new.self) c.tick_one.result c.tick_one.ensures.ticks).grown }
