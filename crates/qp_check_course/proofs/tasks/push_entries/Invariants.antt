use Rattle.std.proofs.Common.{◌≡◌, ◌++◌, drop}
use Rattle.qp_chart.specs.Task.{entries}
use Rattle.qp_check_course.specs.AsTask.{as_tasks}
use Rattle.qp_check_course.proofs.tasks.push_entries.Given as goal

abbrev pub invariant-loop-s : goal.invariant-loop-s
invariant-loop-s l = as_tasks l.tasks.items ++ entries l.chart (drop l.s-index l.path) ≡ as_tasks l.initial.tasks.items ++ entries l.chart l.path
