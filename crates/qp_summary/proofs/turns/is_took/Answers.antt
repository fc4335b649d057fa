use Rattle.std.proofs.Common.{◌≡◌, ◌==◌, false, sym, ◌∙◌, arith}
use Rattle.std.proofs.lemmas.Bool.Decides.{nat_tests}
use Rattle.qp_model.proofs.TellingKindLemmas.{says-other}
use Rattle.qp_model.specs.OutputSummary.{is_took}
use Rattle.qp_summary.proofs.CountLemmas.{took-alone}
use Rattle.qp_summary.proofs.turns.is_took.Goals as goal

pub returns-else-r-eq-TOOK : goal.returns-else-r-eq-TOOK
returns-else-r-eq-TOOK c =
    let other = c.if-r-eq-TOOK.false in
    let no : (c.args.r.now.kind == 5) ≡ false = grind (arith, nat_tests, other) in
    no ∙ sym (says-other is_took 5 took-alone c.args.r.now other)
