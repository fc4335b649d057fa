use Rattle.std.proofs.Common.{subst, sym, take}
use Rattle.qp_check_lanes.proofs.ItemLemmas.{items-none, items-up_to}
use Rattle.qp_model.specs.History.{lane_items}
use Rattle.qp_summary.specs.Counting.{AreTurns}
use Rattle.qp_summary.proofs.turns.TurnCounts.of.Goals as goal

pub loop-r-init : goal.loop-r-init
loop-r-init c = subst (AreTurns c.in_ok-turns.turns) (sym items-none) c.in_ok-turns.ensures

pub loop-r-preserved : goal.loop-r-preserved
loop-r-preserved c =
    let lane = c.args.lane.now in
    let k = c.loop-r.r-index in
    subst (AreTurns c.add.new.self) (sym (items-up_to lane k c.r-item.result c.loop-r-test.true c.r-item.is)) (c.add.ensures (lane_items (take k lane)) c.loop-r.invariant)
