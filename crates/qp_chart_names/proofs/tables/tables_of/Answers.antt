use Rattle.std.proofs.Common.{List, ℕ, ◌≡◌, ◌∙◌, ap}
use Rattle.std.specs.Prelude.{ℤ}
use Rattle.qp_chart_names.specs.declared.raw.SigName.{SigName}
use Rattle.qp_chart_names.specs.declared.raw.ObjName.{ObjName}
use Rattle.qp_chart_names.specs.Known.{words}
use Rattle.qp_chart_names.specs.RawNumbers.{signal_names, object_names, variable_names}
use Rattle.qp_chart_names.proofs.NumberingLemmas.{words-map}
use Rattle.qp_chart_names.proofs.tables.tables_of.Goals as goal

pub returns-clause-ok : goal.returns-clause-ok
returns-clause-ok c =
    let signals : words c.as_slice-4.result.now ≡ signal_names c.args.names.now.signals =
    ap words (c.as_slice-4.ensures.value ∙ c.in_ok-signals.ensures) ∙ rw c.as_slice.ensures (words-map (λ (s : SigName). s.name) _) in
    let objects : words c.as_slice-5.result.now ≡ object_names c.args.names.now.objects =
    ap words (c.as_slice-5.ensures.value ∙ c.in_ok-objects.ensures) ∙ rw c.as_slice-2.ensures (words-map (λ (o : ObjName). o.name) _) in
    let listed : words c.in_ok-vars.vars.items ≡ variable_names c.args.raw.now.vars =
    ap words c.in_ok-vars.ensures ∙ rw c.as_slice-3.ensures (words-map (λ (v : (List ℕ) × ℤ). v.0) _) in
    let vars : words c.as_slice-6.result.now ≡ variable_names c.args.raw.now.vars = ap words c.as_slice-6.ensures.value ∙ listed in (
      c.in_ok-timers.ensures.ok.0,
      record {
        signals = rw signals at c.in_ok-numbered.ensures;
        objects = rw objects at c.in_ok-numbered-2.ensures;
        states = c.in_ok-timers.ensures.ok.2;
        timers = c.in_ok-timers.ensures.ok.1;
        variables = rw vars at c.in_ok-numbered-3.ensures;
        vars = listed;
      },
    )
