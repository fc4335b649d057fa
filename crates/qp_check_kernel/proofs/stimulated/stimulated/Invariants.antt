use Rattle.std.proofs.Common.{◌≡◌, ℕ, map, take}
use Rattle.std.specs.List.{list_any}
use Rattle.std.specs.BTreeSet.{contains}
use Rattle.std.specs.Ordering.{nat_cmp}
use Rattle.qp_model.specs.History.{lane_items}
use Rattle.qp_model.specs.OneOrder.{is_stim_at}
use Rattle.qp_check_kernel.proofs.stimulated.stimulated.Given as goal

abbrev pub invariant-loop-lane : goal.invariant-loop-lane
invariant-loop-lane l =
    (k : ℕ) → contains nat_cmp l.looks k ≡ list_any (λ lane. list_any (λ i. is_stim_at k i.body) lane) (map (λ lane. lane_items lane) (take l.lane-index l.lanes))
