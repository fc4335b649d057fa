use Rattle.qp_wait_rings.specs.Lane.{ringing_view}
use Rattle.qp_wait_rings.proofs.Quiet.{subscribe-quiet}
use Rattle.qp_wait.proofs.Parking.{parked-still}
use Rattle.qp_wait.proofs.ops.BellLaneOps.subscribe.Goals as goal

pub invariant_of-self : goal.invariant_of-self
invariant_of-self c = let l = c.args.self.now in record { parked = parked-still l.farewells.cords.items l.perch (ringing_view l.ringing) (ringing_view c.subscribe.new.self) l.parked (subscribe-quiet c.args.sig (ringing_view l.ringing) (ringing_view c.subscribe.new.self) c.subscribe.result c.subscribe.ensures).grown }
