use Rattle.std.proofs.Common.{◌≡◌, ◌++◌, length}
use Rattle.qp_check_lanes.proofs.deferred_entries.put_all.Given as goal

abbrev pub invariant-loop-entry : goal.invariant-loop-entry
invariant-loop-entry l = l.all.items ++ l.entries.items ≡ l.initial.all.items ++ l.initial.entries.items

abbrev pub decreases-loop-entry : goal.decreases-loop-entry
decreases-loop-entry l = length l.entries.items
