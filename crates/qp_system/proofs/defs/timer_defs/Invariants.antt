use Rattle.std.proofs.Common.{◌≡◌, take}
use Rattle.std.specs.List.{flat_map}
use Rattle.qp_model.specs.Sound.{timers_of}
use Rattle.qp_system.proofs.defs.timer_defs.Given as goal

abbrev pub invariant-loop-object : goal.invariant-loop-object
invariant-loop-object l = l.items.items ≡ flat_map (timers_of l.charts) (take l.object-index l.objects)
