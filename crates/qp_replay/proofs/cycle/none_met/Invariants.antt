use Rattle.std.proofs.Common.{◌≡◌, false, replicate}
use Rattle.qp_replay.proofs.cycle.none_met.Given as goal

abbrev pub invariant-loop : goal.invariant-loop
invariant-loop l = l.met.items ≡ replicate l.counter false
