use Rattle.std.proofs.Common.{◌≡◌, ◌++◌, drop, map}
use Rattle.qp_chart.specs.Task.{Do}
use Rattle.qp_check_course.specs.AsTask.{as_tasks}
use Rattle.qp_check_course.proofs.tasks.push_plains.Given as goal

abbrev pub invariant-loop-plain : goal.invariant-loop-plain
invariant-loop-plain l = as_tasks l.tasks.items ++ map Do (drop l.plain-index l.plains) ≡ as_tasks l.initial.tasks.items ++ map Do l.plains
