use Rattle.qp_shared.specs.Lane.{lane_view}
use Rattle.qp_wait_rings.proofs.CordLemmas.{rung-still}
use Rattle.qp_wait_rings.proofs.Quiet.{arm-quiet}
use Rattle.qp_wait_rings.proofs.ops.RingingLaneOps.arm.Goals as goal

pub invariant_of-self-clause-rung : goal.invariant_of-self-clause-rung
invariant_of-self-clause-rung g c = let l = c.args.self.now in rung-still l.opened l.refused l.cords.items (lane_view l.lane) (lane_view c.arm.new.self) l.rung (arm-quiet c.args.t c.args.ticks c.args.interval (lane_view l.lane) (lane_view c.arm.new.self) c.arm.result c.arm.ensures.arms)
