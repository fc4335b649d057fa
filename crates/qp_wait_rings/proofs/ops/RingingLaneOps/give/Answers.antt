use Rattle.qp_calls.specs.Clauses.{event_of}
use Rattle.qp_shared.specs.Lane.{lane_view}
use Rattle.qp_wait_rings.proofs.CordLemmas.{rung-still}
use Rattle.qp_wait_rings.proofs.Quiet.{give-quiet}
use Rattle.qp_wait_rings.proofs.ops.RingingLaneOps.give.Goals as goal

pub invariant_of-self-clause-rung : goal.invariant_of-self-clause-rung
invariant_of-self-clause-rung g c = let l = c.args.self.now in rung-still l.opened l.refused l.cords.items (lane_view l.lane) (lane_view c.give.new.self) l.rung (give-quiet c.args.pool c.args.reserve (event_of c.args.ev.now) (lane_view l.lane) (lane_view c.give.new.self) c.give.result c.give.ensures.gives)
