use Rattle.std.proofs.Common.{◌≡◌, ◌++◌, drop}
use Rattle.qp_model.specs.History.{lane_items}
use Rattle.qp_model.specs.Home.{own_items}
use Rattle.qp_model.specs.Knowing.{records_of}
use Rattle.qp_check_knowledge.specs.Knowledge.{known_facts}
use Rattle.qp_check_knowledge.proofs.told_lists.told_records.Given as goal

abbrev pub invariant-loop-r : goal.invariant-loop-r
invariant-loop-r l =
    l.told.items ++ records_of (known_facts l.knowledge) l.o l.ceiling (own_items l.looks l.o (lane_items (drop l.r-index l.lane)))
    ≡ records_of (known_facts l.knowledge) l.o 0 (own_items l.looks l.o (lane_items l.lane))
