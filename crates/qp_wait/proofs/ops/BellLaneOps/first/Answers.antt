use Rattle.qp_wait_rings.specs.Lane.{ringing_view}
use Rattle.qp_wait_rings.proofs.Quiet.{first-quiet}
use Rattle.qp_wait.proofs.Parking.{parked-still}
use Rattle.qp_wait.proofs.ops.BellLaneOps.first.Goals as goal

pub invariant_of-self : goal.invariant_of-self
invariant_of-self c = let l = c.args.self.now in record { parked = parked-still l.farewells.cords.items l.perch (ringing_view l.ringing) (ringing_view c.first.new.self) l.parked (first-quiet c.args.f.pool c.args.f.block 1 (ringing_view l.ringing) (ringing_view c.first.new.self) c.first.result c.first.ensures).grown }
