use Rattle.std.proofs.Common.{◌≡◌, ◌∙◌, List, sym, ap, arith}
use Rattle.std.specs.Option.{option_map}
use Rattle.qp_chart_names.specs.declared.place.Part.{Part}
use Rattle.qp_chart_names.specs.Faults.{fault}
use Rattle.qp_chart.specs.ChartFaults.{chart_fault}
use Rattle.qp_system.specs.Within.{in_chart, within_chart}
use Rattle.qp_system.proofs.ShortLemmas.{short-chart, short-found}
use Rattle.qp_system.proofs.charts.checked_chart.Goals as goal

pub of-requires : goal.of-requires
of-requires c =
    let found : chart_fault c.args.names.now c.args.raw.now ≡ fault c.in-Err-At.code c.in-Err-At.path.0.items = rw c.in-Err-At.field-0-is at c.in-Err-At.ensures.fault in
    let short = short-found (chart_fault c.args.names.now c.args.raw.now) c.in-Err-At.code c.in-Err-At.path.0.items (short-chart c.args.names.now c.args.raw.now) found in
    rw c.as_slice.ensures.value (omega (arith, short))

pub returns-in-Ok-clause-passes : goal.returns-in-Ok-clause-passes
unfolding within_chart
returns-in-Ok-clause-passes c = ap (option_map (in_chart c.args.place)) c.in-Ok.ensures.ok.0

pub returns-in-Err-At-clause-passes : goal.returns-in-Err-At-clause-passes
unfolding within_chart
returns-in-Err-At-clause-passes c =
    let found : chart_fault c.args.names.now c.args.raw.now ≡ fault c.in-Err-At.code c.in-Err-At.path.0.items = rw c.in-Err-At.field-0-is at c.in-Err-At.ensures.fault in
    ap (option_map (in_chart c.args.place)) (found ∙ ap (λ (path : List Part). fault c.in-Err-At.code path) (sym c.as_slice.ensures.value))
    ∙ ap (λ (path : List Part). fault c.in-Err-At.code path) (sym c.of.ensures)
