use Rattle.std.proofs.Common.{◌++◌, ◌∙◌, List, [], sym, ap}
use Rattle.std.specs.Prelude.{ℤ}
use Rattle.std.proofs.lemmas.Result.{IfOk-weaker}
use Rattle.std.specs.Option.{option_copied}
use Rattle.qp_chart.specs.declared.checked.Chart.{Chart}
use Rattle.qp_model.specs.OutputSummary.{name_in, values_text}
use Rattle.qp_summary.proofs.SummaryLemmas.{no-chart}
use Rattle.qp_summary.proofs.objects.standing_line.Goals as goal
use Rattle.qp_model.proofs.AbleLemmas.{some-same}

pub returns-in-Some : goal.returns-in-Some
returns-in-Some c =
    let found = sym (ap option_copied c.in-Some.is) ∙ c.chart_at.ensures in
    IfOk-weaker c.standing_text.result _ _
    (λ text told chart is. told ∙ ap (λ (v : List ℤ). name_in c.in-Some.chart.now.state c.args.standing.now.leaf ++ values_text c.in-Some.chart.now.vars v) c.deref.ensures.value
    ∙ ap (λ (x : Chart). name_in x.state c.args.standing.now.leaf ++ values_text x.vars c.args.standing.now.vars.items) (some-same (found ∙ is)))
    c.standing_text.ensures

pub returns-in-None : goal.returns-in-None
returns-in-None c = absurd (no-chart c.args.sys.now c.args.d.now c.requires [] (sym c.chart_at.ensures ∙ ap option_copied c.in-None.is))
