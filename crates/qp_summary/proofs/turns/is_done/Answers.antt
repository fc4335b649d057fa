use Rattle.std.proofs.Common.{◌≡◌, ◌==◌, false, sym, ◌∙◌, arith}
use Rattle.std.proofs.lemmas.Bool.Decides.{nat_tests}
use Rattle.qp_model.proofs.TellingKindLemmas.{says-other}
use Rattle.qp_model.specs.OutputSummary.{is_done_record}
use Rattle.qp_summary.proofs.CountLemmas.{done-alone}
use Rattle.qp_summary.proofs.turns.is_done.Goals as goal

pub returns-else-r-eq-DONE : goal.returns-else-r-eq-DONE
returns-else-r-eq-DONE c =
    let other = c.if-r-eq-DONE.false in
    let no : (c.args.r.now.kind == 14) ≡ false = grind (arith, nat_tests, other) in
    no ∙ sym (says-other is_done_record 14 done-alone c.args.r.now other)
