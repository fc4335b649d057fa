use Rattle.qp_shared.specs.Lane.{lane_view}
use Rattle.qp_wait_rings.proofs.CordLemmas.{rung-still}
use Rattle.qp_wait_rings.proofs.Quiet.{take-quiet}
use Rattle.qp_wait_rings.proofs.ops.RingingLaneOps.take.Goals as goal

pub invariant_of-self-clause-rung : goal.invariant_of-self-clause-rung
invariant_of-self-clause-rung g c = let l = c.args.self.now in rung-still l.opened l.refused l.cords.items (lane_view l.lane) (lane_view c.take-take.new.self) l.rung (take-quiet c.args.me (lane_view l.lane) (lane_view c.take-take.new.self) c.take-take.result c.take-take.ensures.takes)
