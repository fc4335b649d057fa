use Rattle.std.proofs.Common.{◌≡◌, ℕ, true, take}
use Rattle.std.specs.List.{list_any}
use Rattle.std.specs.BTreeSet.{contains}
use Rattle.qp_model.specs.HomeLane.{all_differ}
use Rattle.qp_check_lanes.specs.Keys.{key_cmp, same_key}
use Rattle.qp_check_knowledge.proofs.told_home.all_differ.Given as goal

abbrev pub invariant-loop-counts : goal.invariant-loop-counts
invariant-loop-counts l = record {
  seen : (q : ℕ × ℕ × ℕ) → contains key_cmp l.seen q ≡ list_any (same_key q) (take l.counts-index l.all);
  differ : all_differ (take l.counts-index l.all) ≡ true;
}
