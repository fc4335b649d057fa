use Rattle.std.proofs.Common.{◌≡◌, ℕ, ◌||◌, take}
use Rattle.std.specs.List.{list_any}
use Rattle.std.specs.BTreeSet.{contains}
use Rattle.std.specs.Ordering.{nat_cmp}
use Rattle.qp_model.specs.History.{lane_items}
use Rattle.qp_model.specs.OneOrder.{is_stim_at}
use Rattle.qp_check_kernel.proofs.stimulated.add_lane.Given as goal

abbrev pub invariant-loop-r : goal.invariant-loop-r
invariant-loop-r l =
    (k : ℕ) → contains nat_cmp l.looks k ≡ (contains nat_cmp l.initial.looks k || list_any (λ i. is_stim_at k i.body) (lane_items (take l.r-index l.lane)))
