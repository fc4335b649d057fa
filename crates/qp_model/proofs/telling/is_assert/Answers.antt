use Rattle.std.proofs.Common.{◌≡◌, ◌==◌, false, sym, ◌∙◌, arith}
use Rattle.std.proofs.lemmas.Bool.Decides.{nat_tests}
use Rattle.qp_model.specs.Ends.{is_assert}
use Rattle.qp_model.proofs.TellingKindLemmas.{says-other, assert-alone}
use Rattle.qp_model.proofs.telling.is_assert.Goals as goal

pub returns-else-r-eq-ASSERT : goal.returns-else-r-eq-ASSERT
returns-else-r-eq-ASSERT c =
    let other = c.if-r-eq-ASSERT.false in
    let no : (c.args.r.now.kind == 42) ≡ false = grind (arith, nat_tests, other) in
    no ∙ sym (says-other is_assert 42 assert-alone c.args.r.now other)
