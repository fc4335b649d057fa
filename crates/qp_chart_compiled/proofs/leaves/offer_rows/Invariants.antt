use Rattle.qp_chart_compiled.specs.Codes.{tasks_at}
use Rattle.qp_chart_compiled.proofs.ChoiceLemmas.{Offering, rows_left}
use Rattle.qp_chart_compiled.proofs.leaves.offer_rows.Given as goal

abbrev pub invariant-loop-at : goal.invariant-loop-at
invariant-loop-at l =
    Offering l.site.chart.now l.site.leaf (rows_left l.site.width l.site.rest l.state 0 l.rows) (rows_left l.site.width l.site.rest l.state l.at l.rows)
    (tasks_at l.site.chart.now l.initial.codes.items) (tasks_at l.site.chart.now l.codes.items) l.initial.choices.items l.choices.items
