use Rattle.std.proofs.Common.{◌≡◌, ◌++◌, map}
use Rattle.qp_model.specs.declared.words.Word.TheVariants as word
use Rattle.qp_model.specs.Lists.{count_up}
use Rattle.qp_check_words.proofs.words.add_timers.Given as goal

abbrev pub invariant-loop-k : goal.invariant-loop-k
invariant-loop-k l = l.words.items ≡ l.initial.words.items ++ map (λ t. word.Timer t) (count_up 1 l.k)
