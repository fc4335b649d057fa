use Rattle.std.proofs.Common.{take}
use Rattle.qp_chart_names.specs.Pairs.{Corresponds}
use Rattle.qp_system.specs.SystemOf.{IsObjectOf}
use Rattle.qp_system.proofs.defs.object_defs.Given as goal

abbrev pub invariant-loop-raw : goal.invariant-loop-raw
invariant-loop-raw l = Corresponds (IsObjectOf l.charts) (take l.raw-index l.raws) l.items.items
