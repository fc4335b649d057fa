use Rattle.std.proofs.Common.{◌≡◌, ◌∙◌, sym, ℕ, List, map}
use Rattle.std.specs.List.{list_any}
use Rattle.std.specs.Str.{bytes_eq}
use Rattle.qp_chart_names.specs.declared.raw.RawChart.{RawChart}
use Rattle.qp_system.specs.Between.{chart_name_fault}
use Rattle.qp_system.proofs.PassLemmas.{fault_if-holds, fault_if-fails}
use Rattle.qp_model.proofs.ListLemmas.{list_any-map}
use Rattle.qp_system.proofs.twice.chart_passes.Goals as goal

named : (xs : List RawChart) (name : List ℕ) → list_any (bytes_eq name) (map (λ (t : RawChart). t.name) xs) ≡ list_any (λ (x : RawChart). bytes_eq name x.name) xs
named xs name = list_any-map (bytes_eq name) (λ (t : RawChart). t.name) xs

pub returns-then-chart_is_named : goal.returns-then-chart_is_named
unfolding chart_name_fault
returns-then-chart_is_named c = fault_if-holds _ _ _ _ (named c.args.earlier.now c.args.chart.now.name ∙ sym c.if-chart_is_named.ensures) c.member_fault.ensures

pub returns : goal.returns
unfolding chart_name_fault
returns c = fault_if-fails _ _ _ (named c.args.earlier.now c.args.chart.now.name ∙ sym c.if-chart_is_named.ensures)
