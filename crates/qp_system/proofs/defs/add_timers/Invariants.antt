use Rattle.std.proofs.Common.{◌≡◌, ◌++◌, map, take}
use Rattle.qp_model.specs.Sound.{timer_of}
use Rattle.qp_system.proofs.defs.add_timers.Given as goal

abbrev pub invariant-loop-timer : goal.invariant-loop-timer
invariant-loop-timer l = l.items.items ≡ l.fn.items.items ++ map (timer_of l.object) (take l.timer-index l.timers)
