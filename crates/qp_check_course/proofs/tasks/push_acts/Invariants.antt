use Rattle.std.proofs.Common.{◌≡◌, ◌++◌, drop}
use Rattle.qp_chart.specs.Task.{tasks_of}
use Rattle.qp_check_course.specs.AsTask.{as_tasks}
use Rattle.qp_check_course.proofs.tasks.push_acts.Given as goal

abbrev pub invariant-loop-act : goal.invariant-loop-act
invariant-loop-act l = as_tasks l.tasks.items ++ tasks_of (drop l.act-index l.acts) ≡ as_tasks l.initial.tasks.items ++ tasks_of l.acts
