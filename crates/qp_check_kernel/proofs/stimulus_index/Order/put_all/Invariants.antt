use Rattle.std.proofs.Common.{◌≡◌, ◌++◌, map, take}
use Rattle.qp_check_kernel.specs.AsPlaced.{as_placed}
use Rattle.qp_check_kernel.proofs.stimulus_index.Order.put_all.Given as goal

abbrev pub invariant-loop-x : goal.invariant-loop-x
invariant-loop-x l = l.self ≡ l.initial.self ++ map as_placed (take l.x-index l.x-items)
