use Rattle.std.proofs.Common.{◌≡◌, ◌++◌, take}
use Rattle.qp_model.specs.declared.words.Word.{Word}
use Rattle.qp_model.specs.History.{lane_items}
use Rattle.qp_check_lanes.specs.Keys.{key_of}
use Rattle.qp_check_words.specs.Marks.{touched}
use Rattle.qp_check_lanes.specs.Rows.{records_of_key}
use Rattle.qp_check_words.proofs.records_by_word.put_lane.Given as goal

abbrev pub invariant-loop-r : goal.invariant-loop-r
invariant-loop-r l = (w : Word) → records_of_key l.rows (key_of w) ≡ records_of_key l.initial.rows (key_of w) ++ touched w (lane_items (take l.r-index l.lane))
