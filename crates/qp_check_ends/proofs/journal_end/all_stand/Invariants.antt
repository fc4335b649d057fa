use Rattle.std.proofs.Common.{◌≡◌, drop}
use Rattle.std.specs.List.{list_all}
use Rattle.qp_model.specs.History.{lane_items}
use Rattle.qp_model.specs.End.{spent_right}
use Rattle.qp_check_ends.proofs.journal_end.all_stand.Given as goal

abbrev pub invariant-loop-r : goal.invariant-loop-r
invariant-loop-r l = list_all (spent_right l.sys l.j l.n) (lane_items (drop l.r-index l.lane)) ≡ list_all (spent_right l.sys l.j l.n) (lane_items l.lane)
