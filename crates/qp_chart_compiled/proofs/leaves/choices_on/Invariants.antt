use Rattle.std.proofs.Common.{[]}
use Rattle.qp_chart_compiled.specs.Codes.{tasks_at}
use Rattle.qp_chart_compiled.proofs.ChoiceLemmas.{Offering, rows_beyond}
use Rattle.qp_chart_compiled.proofs.leaves.choices_on.Given as goal

abbrev pub invariant-loop-s : goal.invariant-loop-s
invariant-loop-s l =
    Offering l.site.chart.now l.site.leaf (rows_beyond l.site.chart.now l.site.width l.site.rest 0 l.path) (rows_beyond l.site.chart.now l.site.width l.site.rest l.s-index l.path)
    (tasks_at l.site.chart.now l.initial.codes.items) (tasks_at l.site.chart.now l.codes.items) [] l.items.items
