use Rattle.std.proofs.Common.{◌≡◌, ◌-◌, ◌++◌, length}
use Rattle.qp_chart.specs.Drill.{init_of, drill_to, drill}
use Rattle.qp_check_course.specs.AsTask.{as_tasks}
use Rattle.qp_check_course.proofs.agenda.push_drill.Given as goal

abbrev pub invariant-loop : goal.invariant-loop
invariant-loop l = record {
  tasks : as_tasks l.tasks.items ++ (drill_to l.chart (length l.items - l.index) l.leaf (init_of l.chart l.leaf)).tasks ≡ as_tasks l.initial.tasks.items ++ (drill l.chart l.s).tasks;
  leaf : (drill_to l.chart (length l.items - l.index) l.leaf (init_of l.chart l.leaf)).leaf ≡ (drill l.chart l.s).leaf;
}
