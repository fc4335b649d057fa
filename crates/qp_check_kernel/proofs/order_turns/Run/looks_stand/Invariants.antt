use Rattle.std.proofs.Common.{◌≡◌, [], map, take, drop}
use Rattle.qp_model.specs.OneOrder.{OneThread, looks_right}
use Rattle.qp_check_kernel.specs.AsPlaced.{as_placed}
use Rattle.qp_check_kernel.specs.Turns.{IsProgress}
use Rattle.qp_check_kernel.specs.OrderTurns.{RunsAs}
use Rattle.qp_check_kernel.proofs.order_turns.Run.looks_stand.Given as goal

abbrev pub invariant-loop-i : goal.invariant-loop-i
invariant-loop-i l = record {
  progress : IsProgress l.progress (map as_placed (take l.i l.order));
  same : (r : OneThread) → RunsAs l.self r → looks_right r (map as_placed (take l.i l.order)) (map as_placed (drop l.i l.order)) ≡ looks_right r [] (map as_placed l.order);
}
