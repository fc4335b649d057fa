use Rattle.std.proofs.Common.{◌≡◌}
use Rattle.qp_check_words.proofs.records_by_word.RecordsByWord.learn_pools.Given as goal

abbrev pub invariant-loop-r : goal.invariant-loop-r
invariant-loop-r l = l.self ≡ l.initial.self
