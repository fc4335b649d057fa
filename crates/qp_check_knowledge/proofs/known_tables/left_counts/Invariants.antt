use Rattle.std.proofs.Common.{◌≡◌, ◌≤◌, ◌++◌, drop, take, length}
use Rattle.qp_model.specs.Machine.{after}
use Rattle.qp_model.specs.References.{references}
use Rattle.qp_check_knowledge.specs.KnownTables.{AreReferencesCounted, left_counts, values_from}
use Rattle.qp_check_knowledge.proofs.known_tables.left_counts.Given as goal

abbrev pub invariant-loop-r : goal.invariant-loop-r
invariant-loop-r l = record {
  counted : AreReferencesCounted (after references (take l.r-index l.history)) l.standing.counts l.standing.total;
  rest :
      left_counts l.history
      ≡ l.counts.items ++ values_from references (λ s. length s.names) (after references (take l.r-index l.history)) (drop l.r-index l.history);
  few : l.standing.total ≤ l.r-index;
}
