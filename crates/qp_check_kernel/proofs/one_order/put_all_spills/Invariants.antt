use Rattle.std.proofs.Common.{◌≡◌, ◌++◌, ◌+◌, map, drop}
use Rattle.qp_model.specs.History.{lane_items}
use Rattle.qp_model.specs.OneOrder.{spills_from}
use Rattle.qp_check_kernel.proofs.one_order.put_all_spills.Given as goal

abbrev pub invariant-loop-n : goal.invariant-loop-n
invariant-loop-n l =
    l.order ++ spills_from (l.n + 1) (map (λ lane. lane_items lane) (drop l.n l.sources)) ≡ l.initial.order ++ spills_from 1 (map (λ lane. lane_items lane) l.sources)
