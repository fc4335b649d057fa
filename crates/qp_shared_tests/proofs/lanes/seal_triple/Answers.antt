use Rattle.std.proofs.Common.{List, map, sym, subst}
use Rattle.qp_shared.specs.Ending.{AreAll}
use Rattle.qp_shared.specs.Lane.{lane_view}
use Rattle.qp_shared.specs.declared.lane.SharedLane.{SharedLane}
use Rattle.qp_shared_tests.proofs.LaneLemmas.{all-three}
use Rattle.qp_shared_tests.proofs.lanes.seal_triple.Goals as goal

pub finish-requires : goal.finish-requires
finish-requires c = record {
  all = subst (λ (ls : List SharedLane). AreAll c.args.shared.now (map lane_view ls)) (sym c.in-Ok.ensures.items)
      (all-three c.args.shared.now (lane_view c.args.first) (lane_view c.args.second) (lane_view c.args.last) c.requires.first c.requires.second c.requires.last);
}
