use Rattle.std.proofs.Common.{sym, ◌∙◌}
use Rattle.std.specs.Str.{bytes_eq}
use Rattle.std.proofs.lemmas.List.Quantifiers.{position-Some}
use Rattle.qp_chart_names.specs.declared.raw.RawChart.{RawChart}
use Rattle.qp_system.proofs.SystemLemmas.{object-of}
use Rattle.qp_system.proofs.defs.object_def.Goals as goal

pub returns : goal.returns
returns c =
    let found = sym c.place_of.ensures ∙ c.unwrap-place.ensures in
    let named = position-Some (λ (chart : RawChart). bytes_eq chart.name c.args.raw.now.chart) c.args.charts.now c.unwrap-place.result c.index-charts-place.result found in
    object-of c.args.charts.now c.args.raw.now c.unwrap-place.result c.index-charts-place.result c.in_ok-values_of.field-0 found named.0 c.index-charts-place.is
    (rw (c.as_slice-vars.ensures, c.as_slice.ensures, sym c.index-charts-place.is) at c.in_ok-values_of.ensures)
