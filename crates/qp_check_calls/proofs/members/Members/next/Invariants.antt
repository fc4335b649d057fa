use Rattle.std.proofs.Common.{◌≡◌, ◌≤◌}
use Rattle.qp_model.specs.Parts.{members_below}
use Rattle.qp_check_calls.proofs.members.Members.next.Given as goal

abbrev pub invariant-loop-self : goal.invariant-loop-self
invariant-loop-self l = record {
  within : l.self-inside.below ≤ 32;
  same : members_below l.initial.self-inside.below l.initial.self-inside.set ≡ members_below l.self-inside.below l.self-inside.set;
}

abbrev pub decreases-loop-self : goal.decreases-loop-self
decreases-loop-self l = l.self-inside.below
