use Rattle.std.proofs.Common.{map, take}
use Rattle.qp_chart_text.specs.Terms.{order_of}
use Rattle.qp_chart_names.specs.Pairs.{Corresponds}
use Rattle.qp_chart_names.specs.ActionFaults.{params_in}
use Rattle.qp_chart.specs.ActionOf.{IsPlainOf}
use Rattle.qp_chart.proofs.resolve.resolved_plains.Given as goal

abbrev pub invariant-loop-plain : goal.invariant-loop-plain
invariant-loop-plain l = Corresponds (IsPlainOf l.scope.names.now l.scope.chart.now (params_in l.inside)) (map order_of (take l.plain-index l.plains)) l.items.items
