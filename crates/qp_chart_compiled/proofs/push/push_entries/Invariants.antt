use Rattle.std.proofs.Common.{◌≡◌, ◌++◌, drop}
use Rattle.qp_chart.specs.Task.{entries}
use Rattle.qp_chart_compiled.specs.Codes.{tasks_at}
use Rattle.qp_chart_compiled.proofs.push.push_entries.Given as goal

abbrev pub invariant-loop-s : goal.invariant-loop-s
invariant-loop-s l = tasks_at l.chart l.codes.items ++ entries l.chart (drop l.s-index l.path) ≡ tasks_at l.chart l.initial.codes.items ++ entries l.chart l.path
