use Rattle.std.proofs.Common.{◌≡◌, ◌-◌, take}
use Rattle.std.specs.List.{count_by}
use Rattle.qp_model.specs.History.{all_items}
use Rattle.qp_model.specs.Lawful.{is_settle}
use Rattle.qp_check_kernel.proofs.kernel_lane.settles_suffice.Given as goal

abbrev pub invariant-loop-lane : goal.invariant-loop-lane
invariant-loop-lane l = l.wanted ≡ l.idle - 1 - count_by (λ i. is_settle i.body) (all_items (take l.lane-index l.lane-items))
