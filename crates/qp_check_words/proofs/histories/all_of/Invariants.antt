use Rattle.std.proofs.Common.{◌≡◌, take}
use Rattle.qp_check_lanes.specs.Groups.{groups_joined}
use Rattle.qp_check_words.proofs.histories.all_of.Given as goal

abbrev pub invariant-loop-g : goal.invariant-loop-g
invariant-loop-g l = l.all ≡ groups_joined (take l.g-index l.groups)
