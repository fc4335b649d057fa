use Rattle.qp_shared.specs.Lane.{lane_view}
use Rattle.qp_wait_rings.proofs.CordLemmas.{rung-still}
use Rattle.qp_wait_rings.proofs.Quiet.{tick-quiet}
use Rattle.qp_wait_rings.proofs.ops.RingingLaneOps.tick_one.Goals as goal

pub invariant_of-self-clause-rung : goal.invariant_of-self-clause-rung
invariant_of-self-clause-rung g c = let l = c.args.self.now in rung-still l.opened l.refused l.cords.items (lane_view l.lane) (lane_view c.tick_one.new.self) l.rung (tick-quiet c.args.t (lane_view l.lane) (lane_view c.tick_one.new.self) c.tick_one.result c.tick_one.ensures.ticks)
