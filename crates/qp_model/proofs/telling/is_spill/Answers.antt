use Rattle.std.proofs.Common.{◌≡◌, ◌==◌, false, sym, ◌∙◌, arith}
use Rattle.std.proofs.lemmas.Bool.Decides.{nat_tests}
use Rattle.qp_model.specs.Ends.{is_spill}
use Rattle.qp_model.proofs.TellingKindLemmas.{says-other, spill-alone}
use Rattle.qp_model.proofs.telling.is_spill.Goals as goal

pub returns-else-r-eq-SPILL : goal.returns-else-r-eq-SPILL
returns-else-r-eq-SPILL c =
    let other = c.if-r-eq-SPILL.false in
    let no : (c.args.r.now.kind == 44) ≡ false = grind (arith, nat_tests, other) in
    no ∙ sym (says-other is_spill 44 spill-alone c.args.r.now other)
