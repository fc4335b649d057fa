use Rattle.std.proofs.Common.{◌≡◌, drop}
use Rattle.std.specs.List.{list_all}
use Rattle.qp_model.specs.History.{touch}
use Rattle.qp_check_words.specs.Marks.{shows_within}
use Rattle.qp_check_words.proofs.judging.all_within.Given as goal

abbrev pub invariant-loop-r : goal.invariant-loop-r
invariant-loop-r l = list_all (λ i. shows_within l.count (touch i)) l.touched ≡ list_all (λ i. shows_within l.count (touch i)) (drop l.r-index l.touched)
