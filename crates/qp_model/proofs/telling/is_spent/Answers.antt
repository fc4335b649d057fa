use Rattle.std.proofs.Common.{◌≡◌, ◌==◌, false, sym, ◌∙◌, arith}
use Rattle.std.proofs.lemmas.Bool.Decides.{nat_tests}
use Rattle.qp_model.specs.Ends.{is_spent}
use Rattle.qp_model.proofs.TellingKindLemmas.{says-other, spent-alone}
use Rattle.qp_model.proofs.telling.is_spent.Goals as goal

pub returns-else-r-eq-SPENT : goal.returns-else-r-eq-SPENT
returns-else-r-eq-SPENT c =
    let other = c.if-r-eq-SPENT.false in
    let no : (c.args.r.now.kind == 43) ≡ false = grind (arith, nat_tests, other) in
    no ∙ sym (says-other is_spent 43 spent-alone c.args.r.now other)
