use Rattle.std.proofs.Common.{◌≡◌, ◌++◌, drop}
use Rattle.qp_model.specs.History.{lane_items}
use Rattle.qp_check_kernel.specs.StimulusIndex.{parts_at, lane_with_parts}
use Rattle.qp_check_kernel.proofs.one_order.with_parts.Given as goal

abbrev pub invariant-loop-rec : goal.invariant-loop-rec
invariant-loop-rec l = l.order ++ lane_with_parts (parts_at l.index) (lane_items (drop l.rec-index l.lane0)) ≡ lane_with_parts (parts_at l.index) (lane_items l.lane0)
