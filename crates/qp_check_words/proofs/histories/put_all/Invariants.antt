use Rattle.std.proofs.Common.{◌≡◌, ◌++◌, take}
use Rattle.qp_check_words.proofs.histories.put_all.Given as goal

abbrev pub invariant-loop-r : goal.invariant-loop-r
invariant-loop-r l = l.all ≡ l.initial.all ++ take l.r-index l.g
