use Rattle.std.proofs.Common.{◌≡◌, Some}
use Rattle.qp_text.specs.LineItem.{has_signs}
use Rattle.qp_text.specs.Numbers.{numbers_at}
use Rattle.qp_text.specs.Parts.{parts_behind}
use Rattle.qp_text.proofs.LineLemmas.{item_of_line-known, or_code-ok}
use Rattle.qp_text.proofs.items.read_line.Goals as goal

pub returns-clause-exact : goal.returns-clause-exact
returns-clause-exact c =
    let texts = parts_behind 32 c.cut.result.1 in
    let nums : numbers_at (has_signs c.args.form c.in-Some.id) 0 texts ≡ Some c.in_ok-read_numbers.field-0 =
    or_code-ok 2 _ _ (rw c.has_signs.ensures at c.in_ok-read_numbers.ensures) in
    rw (item_of_line-known c.args.form c.args.line.now c.cut.result.0.now texts c.in-Some.id c.cut.ensures.parts c.in-Some.ensures.id, nums)
    c.counted.ensures.exact
