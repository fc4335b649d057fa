use Rattle.std.proofs.Common.{◌≡◌, ◌++◌}
use Rattle.std.specs.List.{flat_map}
use Rattle.qp_model.specs.Lists.{count_up}
use Rattle.qp_check_words.specs.SystemWords.{words_of_pool}
use Rattle.qp_check_words.proofs.words.add_blocks.Given as goal

abbrev pub invariant-loop-k : goal.invariant-loop-k
invariant-loop-k l = l.words.items ≡ l.initial.words.items ++ flat_map (words_of_pool l.sys) (count_up 1 l.k)
