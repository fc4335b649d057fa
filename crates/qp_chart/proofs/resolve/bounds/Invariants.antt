use Rattle.std.proofs.Common.{map, take}
use Rattle.qp_chart_text.specs.Terms.{term_of}
use Rattle.qp_chart_names.specs.Pairs.{Corresponds}
use Rattle.qp_chart.specs.ActionOf.{IsBoundOf}
use Rattle.qp_chart.proofs.resolve.bounds.Given as goal

abbrev pub invariant-loop-e : goal.invariant-loop-e
invariant-loop-e l = Corresponds (IsBoundOf l.scope.chart.now l.params) (map term_of (take l.e-index l.exprs)) l.items.items
