use Rattle.std.proofs.Common.{◌≡◌, take}
use Rattle.qp_model.specs.History.{lane_items}
use Rattle.qp_model.specs.OneOrder.{look_numbers}
use Rattle.qp_check_kernel.specs.OneOrder.{last_of}
use Rattle.qp_check_kernel.proofs.order_looks.last_look.Given as goal

abbrev pub invariant-loop-r : goal.invariant-loop-r
invariant-loop-r l = l.last ≡ last_of (look_numbers (lane_items (take l.r-index l.lane0)))
