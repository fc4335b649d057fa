use Rattle.std.proofs.Common.{◌≡◌, ◌==◌, drop}
use Rattle.qp_model.specs.Subscribers.{bits_of_set}
use Rattle.qp_check_lanes.proofs.signals.are_bits_of.Given as goal

abbrev pub invariant-loop-p : goal.invariant-loop-p
invariant-loop-p l = (bits_of_set l.members == l.set) ≡ (bits_of_set (drop l.p-index l.members) == l.left)
