use Rattle.std.proofs.Common.{◌≡◌, ◌++◌, map}
use Rattle.qp_model.specs.declared.words.Word.TheVariants as word
use Rattle.qp_model.specs.Lists.{count_up}
use Rattle.qp_check_words.proofs.words.add_blocks_of.Given as goal

abbrev pub invariant-loop-b : goal.invariant-loop-b
invariant-loop-b l = l.words.items ≡ l.initial.words.items ++ map (λ b. word.Block l.p b) (count_up 0 l.b)
