use Rattle.std.proofs.Common.{◌≡◌, take}
use Rattle.std.specs.List.{filter_map}
use Rattle.qp_model.specs.History.{lane_items}
use Rattle.qp_check_knowledge.specs.HomeCounts.{counts_by}
use Rattle.qp_check_knowledge.proofs.told_home.all_counts.Given as goal

abbrev pub invariant-loop-r : goal.invariant-loop-r
invariant-loop-r l = l.all.items ≡ filter_map (λ i. counts_by l.by i.body) (lane_items (take l.r-index l.lane))
