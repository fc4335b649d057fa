use Rattle.std.proofs.Common.{◌≡◌}
use Rattle.qp_check_lanes.specs.Groups.{empty_groups}
use Rattle.qp_check_lanes.proofs.groups.Groups.empty.Given as goal

abbrev pub invariant-loop : goal.invariant-loop
invariant-loop l = l.items.items ≡ empty_groups l.counter
