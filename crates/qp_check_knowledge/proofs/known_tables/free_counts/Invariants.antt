use Rattle.std.proofs.Common.{◌≡◌, ◌≤◌, ◌++◌, drop, length}
use Rattle.qp_model.specs.FreeBlocks.{free_blocks}
use Rattle.qp_check_knowledge.specs.KnownTables.{free_counts, values_from}
use Rattle.qp_check_knowledge.proofs.known_tables.free_counts.Given as goal

abbrev pub invariant-loop-r : goal.invariant-loop-r
invariant-loop-r l = record {
  same : free_blocks l.free.blocks ≡ free_blocks l.blocks;
  rest :
      free_counts l.blocks l.history
      ≡ l.counts.items ++ values_from (free_blocks l.blocks) (λ s. length s.free) (record { count = l.free.count; free = l.free.free.keys }) (drop l.r-index l.history);
  counted : l.free.count ≤ l.r-index;
}
