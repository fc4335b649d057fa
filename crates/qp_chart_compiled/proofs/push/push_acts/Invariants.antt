use Rattle.std.proofs.Common.{◌≡◌, ◌++◌, drop}
use Rattle.qp_chart.specs.Task.{tasks_of}
use Rattle.qp_chart_compiled.specs.Codes.{tasks_at}
use Rattle.qp_chart_compiled.proofs.push.push_acts.Given as goal

abbrev pub invariant-loop-at : goal.invariant-loop-at
invariant-loop-at l = tasks_at l.chart l.codes.items ++ tasks_of (drop l.at l.acts) ≡ tasks_at l.chart l.initial.codes.items ++ tasks_of l.acts
