use Rattle.std.proofs.Common.{◌≡◌, ◌≤◌, true, drop, take, length}
use Rattle.std.specs.List.{list_all}
use Rattle.qp_model.specs.Machine.{after}
use Rattle.qp_model.specs.References.{references}
use Rattle.qp_check_ends.specs.Resting.{AreNamesCounted, makes_below}
use Rattle.qp_check_ends.proofs.reference_counts.ReferenceCounts.apply_all.Given as goal

abbrev pub invariant-loop-r : goal.invariant-loop-r
invariant-loop-r l = record {
  counted : AreNamesCounted (after references (take l.r-index l.history)).names l.self.counts.items l.self.total;
  long : length l.self.counts.items ≡ length l.initial.self.counts.items;
  few : l.self.total ≤ l.r-index;
  below : list_all (λ i. makes_below (length l.initial.self.counts.items) i.body) (drop l.r-index l.history) ≡ true;
}
