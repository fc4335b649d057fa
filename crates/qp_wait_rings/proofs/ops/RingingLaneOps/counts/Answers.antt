use Rattle.qp_shared.specs.Lane.{lane_view}
use Rattle.qp_wait_rings.proofs.CordLemmas.{rung-still}
use Rattle.qp_wait_rings.proofs.Quiet.{counts-quiet}
use Rattle.qp_wait_rings.proofs.ops.RingingLaneOps.counts.Goals as goal

pub invariant_of-self-clause-rung : goal.invariant_of-self-clause-rung
invariant_of-self-clause-rung c = let l = c.args.self.now in rung-still l.opened l.refused l.cords.items (lane_view l.lane) (lane_view c.counts-now.new.self) l.rung (counts-quiet c.args.p (lane_view l.lane) (lane_view c.counts-now.new.self) c.counts-now.result c.counts-now.ensures.counted)
