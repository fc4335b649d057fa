use Rattle.std.proofs.Common.{subst, refl, Option}
use Rattle.std.proofs.lemmas.Result.{IfOk-weaker}
use Rattle.std.specs.Prelude.{string_bytes}
use Rattle.qp_model.specs.Lawful.{dispatched}
use Rattle.qp_check_course.specs.Standing.{StandsAt}
use Rattle.qp_check_course.specs.declared.standing.Standing.{Standing}
use Rattle.qp_summary.proofs.SummaryLemmas.{stands-text, away-text}
use Rattle.qp_summary.proofs.objects.state_text.Goals as goal

pub returns-in-Some : goal.returns-in-Some
returns-in-Some c =
    let sys = c.args.sys.now in
    let d = c.args.d.now in
    IfOk-weaker c.standing_line.result _ _
    (λ text told ts stands. stands-text sys d c.requires (dispatched ts) c.in-Some.standing (string_bytes text)
    (subst (λ (o : Option Standing). StandsAt sys d (dispatched ts) o) c.in-Some.is stands) told ts refl)
    c.standing_line.ensures

pub returns-in-None : goal.returns-in-None
returns-in-None c =
    let sys = c.args.sys.now in
    let d = c.args.d.now in
    IfOk-weaker c.from_str.result _ _
    (λ text told ts stands. away-text sys d c.requires (dispatched ts) (string_bytes text)
    (subst (λ (o : Option Standing). StandsAt sys d (dispatched ts) o) c.in-None.is stands) told ts refl)
    c.from_str.ensures.ok
