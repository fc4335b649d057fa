use Rattle.std.proofs.Common.{◌≡◌}
use Rattle.qp_replay.proofs.OrderLemmas.{Kept, left}
use Rattle.qp_replay.proofs.order.ordered.Given as goal

abbrev pub invariant-order : goal.invariant-order
invariant-order l = record { same : l.remaining.lanes ≡ l.lanes; kept : Kept l.remaining l.order }

abbrev pub decreases-order : goal.decreases-order
decreases-order l = left l.remaining.lanes l.remaining.fronts
