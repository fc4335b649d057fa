use Rattle.std.proofs.Common.{◌≡◌, map, take}
use Rattle.qp_check_kernel.specs.AsPlaced.{as_placed}
use Rattle.qp_check_kernel.specs.OrderTurns.{turns_in, found_of, as_found}
use Rattle.qp_check_kernel.proofs.order_turns.InLook.among.Given as goal

abbrev pub invariant-loop-x : goal.invariant-loop-x
invariant-loop-x l = as_found l.found ≡ found_of (turns_in (map as_placed (take l.x-index l.part)))
