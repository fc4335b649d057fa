use Rattle.std.proofs.Common.{arith}
use Rattle.qp_text_scan.proofs.ScanLemmas.{head-front, head-holds}
use Rattle.qp_text_scan.proofs.scan.read_head.Goals as goal

pub returns-clause-text : goal.returns-clause-text
returns-clause-text c =
    head-front c.in_ok-id.id c.in_ok-form.form c.in_ok-kernel.kernel c.in_ok-budget.budget c.args.text.now c.in_ok-id.rest.now c.in_ok-form.rest.now
    c.in_ok-kernel.rest.now c.in_ok-budget.rest.now c.in_ok-rest.rest.now c.if-id-ne-QP.false c.in_ok-id.ensures.text c.in_ok-form.ensures.text
    c.in_ok-kernel.ensures.text c.in_ok-budget.ensures.text c.in_ok-rest.ensures.text c.in_ok-form.form

pub returns-clause-head : goal.returns-clause-head
returns-clause-head c = head-holds c.in_ok-form.form c.in_ok-kernel.kernel c.in_ok-budget.budget (omega arith) (omega arith) (omega arith) (omega arith) (omega arith)
