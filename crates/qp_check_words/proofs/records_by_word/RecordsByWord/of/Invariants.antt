use Rattle.std.proofs.Common.{◌≡◌}
use Rattle.qp_check_words.proofs.records_by_word.RecordsByWord.of.Given as goal

abbrev pub invariant-loop-lane : goal.invariant-loop-lane
invariant-loop-lane l = l.records ≡ l.lanes
