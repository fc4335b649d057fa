use Rattle.std.proofs.Common.{◌≡◌, drop}
use Rattle.std.specs.List.{list_all}
use Rattle.qp_check_words.specs.Marks.{has_one}
use Rattle.qp_check_words.proofs.histories.all_single.Given as goal

abbrev pub invariant-loop-g : goal.invariant-loop-g
invariant-loop-g l = list_all has_one l.groups ≡ list_all has_one (drop l.g-index l.groups)
