use Rattle.std.proofs.Common.{◌++◌, ◌∙◌, List, ap, subst, sym}
use Rattle.std.specs.Option.{option_copied}
use Rattle.std.specs.Prelude.{ℤ, string_bytes}
use Rattle.qp_model.specs.OutputSummary.{name_in, values_text}
use Rattle.qp_summary.specs.Resting.{LeavesRest}
use Rattle.qp_summary.proofs.KnownLemmas.{text-away, text-rest}
use Rattle.qp_summary.proofs.known.known_text.Goals as goal

pub returns-then-not-is_done : goal.returns-then-not-is_done
returns-then-not-is_done c = λ sys d ts own done rest.
    text-away sys d c.args.chart.now own ts (string_bytes c.in_ok-from_str.field-0) (sym done ∙ c.if-not-is_done.true) c.in_ok-from_str.ensures.ok

pub returns-in_ok-standing_text-in-Some : goal.returns-in_ok-standing_text-in-Some
returns-in_ok-standing_text-in-Some c = λ sys d ts own done rest.
    text-rest sys d c.args.chart.now own ts (string_bytes c.in_ok-standing_text-in-Some.field-0) c.in-Some.rest.now (sym done ∙ c.if-not-is_done.false)
    (subst (LeavesRest sys d c.args.chart.now ts) (ap option_copied c.in-Some.is) rest)
    (c.in_ok-standing_text-in-Some.ensures ∙ ap (λ (v : List ℤ). name_in c.args.chart.now.state c.in-Some.rest.now.leaf ++ values_text c.args.chart.now.vars v) c.deref.ensures.value)
