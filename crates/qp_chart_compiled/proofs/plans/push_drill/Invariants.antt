use Rattle.std.proofs.Common.{◌≡◌, ◌-◌, ◌++◌, length}
use Rattle.qp_chart.specs.Drill.{init_of, drill_to, drill}
use Rattle.qp_chart_compiled.specs.Codes.{tasks_at}
use Rattle.qp_chart_compiled.proofs.plans.push_drill.Given as goal

abbrev pub invariant-loop : goal.invariant-loop
invariant-loop l = record {
  tasks : tasks_at l.chart l.codes.items ++ (drill_to l.chart (length l.items - l.index) l.leaf (init_of l.chart l.leaf)).tasks ≡ tasks_at l.chart l.initial.codes.items ++ (drill l.chart l.s).tasks;
  leaf : (drill_to l.chart (length l.items - l.index) l.leaf (init_of l.chart l.leaf)).leaf ≡ (drill l.chart l.s).leaf;
}
