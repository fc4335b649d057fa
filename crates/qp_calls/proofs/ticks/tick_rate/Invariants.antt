use Rattle.std.proofs.Common.{take}
use Rattle.qp_calls.specs.Ticking.{TickedSome}
use Rattle.qp_calls.proofs.ticks.tick_rate.Given as goal

-- the timers so far
abbrev pub invariant-loop-i : goal.invariant-loop-i
invariant-loop-i g l = TickedSome l.rate (take l.i l.sys.timers) (g.O.Ops.lane l.fn.ops) (g.O.Ops.lane l.ops)
