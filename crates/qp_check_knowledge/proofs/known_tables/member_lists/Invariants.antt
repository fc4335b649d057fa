use Rattle.std.proofs.Common.{◌≡◌, ◌≤◌, ◌++◌, drop}
use Rattle.qp_model.specs.Subscribers.{subscribers}
use Rattle.qp_check_knowledge.specs.KnownTables.{member_lists, values_from}
use Rattle.qp_check_knowledge.proofs.known_tables.member_lists.Given as goal

abbrev pub invariant-loop-r : goal.invariant-loop-r
invariant-loop-r l = record {
  rest :
      member_lists l.history
      ≡ l.lists.items ++ values_from subscribers (λ s. s.members) (record { count = l.members.count; members = l.members.members.items }) (drop l.r-index l.history);
  counted : l.members.count ≤ l.r-index;
}
