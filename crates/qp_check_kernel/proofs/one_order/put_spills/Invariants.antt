use Rattle.std.proofs.Common.{◌≡◌, ◌++◌, map, take}
use Rattle.std.specs.List.{filter}
use Rattle.qp_model.specs.History.{lane_items}
use Rattle.qp_model.specs.Ends.{is_spill}
use Rattle.qp_check_kernel.proofs.one_order.put_spills.Given as goal

abbrev pub invariant-loop-rec : goal.invariant-loop-rec
invariant-loop-rec l = l.order ≡ l.initial.order ++ map (λ i. record { lane = l.lane; item = i }) (filter (λ i. is_spill i.body) (lane_items (take l.rec-index l.records)))
