use Rattle.qp_shared.specs.Lane.{lane_view}
use Rattle.qp_wait_rings.proofs.CordLemmas.{rung-still}
use Rattle.qp_wait_rings.proofs.Quiet.{disarm-quiet}
use Rattle.qp_wait_rings.proofs.ops.RingingLaneOps.disarm.Goals as goal

pub invariant_of-self-clause-rung : goal.invariant_of-self-clause-rung
invariant_of-self-clause-rung g c = let l = c.args.self.now in rung-still l.opened l.refused l.cords.items (lane_view l.lane) (lane_view c.disarm.new.self) l.rung (disarm-quiet c.args.t (lane_view l.lane) (lane_view c.disarm.new.self) c.disarm.result c.disarm.ensures.disarms)
