use Rattle.qp_calls.specs.Clauses.{event_of}
use Rattle.qp_wait_rings.specs.Lane.{ringing_view}
use Rattle.qp_wait_rings.proofs.Quiet.{give-quiet}
use Rattle.qp_wait.proofs.Parking.{parked-still}
use Rattle.qp_wait.proofs.ops.BellLaneOps.give.Goals as goal

pub invariant_of-self : goal.invariant_of-self
invariant_of-self g c = let l = c.args.self.now in record { parked = parked-still l.farewells.cords.items l.perch (ringing_view l.ringing) (ringing_view c.give.new.self) l.parked (give-quiet c.args.pool c.args.reserve (event_of c.args.ev.now) (ringing_view l.ringing) (ringing_view c.give.new.self) c.give.result c.give.ensures.gives).grown }
