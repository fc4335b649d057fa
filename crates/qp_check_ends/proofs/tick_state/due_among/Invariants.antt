use Rattle.std.proofs.Common.{◌≡◌, ◌+◌, drop}
use Rattle.qp_check_ends.specs.TickState.{dues}
use Rattle.qp_check_ends.proofs.tick_state.due_among.Given as goal

abbrev pub invariant-loop-place : goal.invariant-loop-place
invariant-loop-place l = dues l.rate (l.from + 1) (drop l.from l.timers) ≡ dues l.rate (l.place + 1) (drop l.place l.timers)
