use Rattle.std.proofs.Common.{◌≡◌, take}
use Rattle.qp_model.specs.declared.words.Word.{Word}
use Rattle.qp_model.specs.History.{all_items}
use Rattle.qp_check_lanes.specs.Keys.{key_of}
use Rattle.qp_check_words.specs.Marks.{touched}
use Rattle.qp_check_lanes.specs.Rows.{records_of_key}
use Rattle.qp_check_words.proofs.records_by_word.rows_of.Given as goal

abbrev pub invariant-loop-lane : goal.invariant-loop-lane
invariant-loop-lane l = (w : Word) → records_of_key l.rows (key_of w) ≡ touched w (all_items (take l.lane-index l.lanes))
