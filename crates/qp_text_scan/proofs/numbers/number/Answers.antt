use Rattle.std.proofs.Common.{arith}
use Rattle.qp_text_scan.proofs.NumberLemmas.{digit-number, digits-number}
use Rattle.qp_text_scan.proofs.numbers.number.Goals as goal

pub returns-then-first-eq0-clause-text : goal.returns-then-first-eq0-clause-text
returns-then-first-eq0-clause-text c =
    digit-number 0 c.args.text.now c.in_ok-first.rest.now (omega arith) (rw c.if-first-eq0.true at c.in_ok-first.ensures.text)

pub returns-in_ok-n-clause-text : goal.returns-in_ok-n-clause-text
returns-in_ok-n-clause-text c =
    digits-number c.in_ok-first.first c.from.result c.in_ok-n.n c.args.text.now c.in_ok-first.rest.now c.in_ok-n.behind.now
    c.in_ok-first.ensures.small c.from.ensures c.in_ok-first.ensures.text c.in_ok-n.ensures.text
