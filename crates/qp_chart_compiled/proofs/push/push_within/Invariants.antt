use Rattle.std.proofs.Common.{◌≡◌, ◌++◌, drop, map}
use Rattle.qp_chart.specs.Task.{Do}
use Rattle.qp_chart_compiled.specs.Codes.{tasks_at}
use Rattle.qp_chart_compiled.proofs.push.push_within.Given as goal

abbrev pub invariant-loop-place : goal.invariant-loop-place
invariant-loop-place l = tasks_at l.chart l.codes.items ++ map Do (drop l.place l.plains) ≡ tasks_at l.chart l.initial.codes.items ++ map Do l.plains
