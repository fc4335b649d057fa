use Rattle.std.proofs.Common.{◌≡◌, not, take}
use Rattle.std.specs.BTreeSet.{contains}
use Rattle.std.specs.List.{list_all}
use Rattle.qp_model.specs.declared.words.Word.{Word}
use Rattle.qp_model.specs.History.{lane_items}
use Rattle.qp_check_lanes.specs.Keys.{key_cmp, key_of}
use Rattle.qp_check_words.specs.Marks.{rises_from, touched}
use Rattle.qp_check_words.proofs.mark_order.falling_words.Given as goal

abbrev pub invariant-loop-lane : goal.invariant-loop-lane
invariant-loop-lane l = (w : Word) → contains key_cmp l.falls (key_of w) ≡ not (list_all (λ lane. rises_from 0 (touched w (lane_items lane))) (take l.lane-index l.lanes))
