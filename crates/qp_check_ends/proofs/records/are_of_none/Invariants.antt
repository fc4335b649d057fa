use Rattle.std.proofs.Common.{◌≡◌, ◌==◌, drop}
use Rattle.std.specs.List.{list_all}
use Rattle.qp_model.specs.History.{lane_items}
use Rattle.qp_check_ends.proofs.records.are_of_none.Given as goal

abbrev pub invariant-loop-r : goal.invariant-loop-r
invariant-loop-r l = list_all (λ i. i.of == 0) (lane_items l.lane) ≡ list_all (λ i. i.of == 0) (lane_items (drop l.r-index l.lane))
