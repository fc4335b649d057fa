use Rattle.std.proofs.Common.{◌≡◌, ◌++◌, map}
use Rattle.std.specs.List.{filter}
use Rattle.qp_model.specs.declared.words.Word.TheVariants as word
use Rattle.qp_model.specs.Lists.{count_up}
use Rattle.qp_model.specs.WordLaw.{is_object}
use Rattle.qp_check_words.proofs.words.add_queues.Given as goal

abbrev pub invariant-loop-n : goal.invariant-loop-n
invariant-loop-n l = l.words.items ≡ l.initial.words.items ++ map (λ a. word.Queue a) (filter (λ a. is_object l.sys a) (count_up 0 l.n))
