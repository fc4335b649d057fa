use Rattle.qp_wait_rings.specs.Lane.{ringing_view}
use Rattle.qp_wait_rings.proofs.Quiet.{lifo-grown}
use Rattle.qp_wait.proofs.Parking.{parked-still}
use Rattle.qp_wait.proofs.ops.BellLaneOps.lifo.Goals as goal

pub invariant_of-self : goal.invariant_of-self
invariant_of-self g c = let l = c.args.self.now in record { parked = parked-still l.farewells.cords.items l.perch (ringing_view l.ringing) (ringing_view c.lifo.new.self) l.parked (lifo-grown c.args.e (ringing_view l.ringing) (ringing_view c.lifo.new.self) c.lifo.result c.lifo.ensures.claims) }
