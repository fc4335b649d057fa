use Rattle.std.proofs.lemmas.Result.{IfOk-weaker}
use Rattle.qp_chart_names.specs.ActionFaults.{guard_fault}
use Rattle.qp_chart_text.specs.Terms.{term_of}
use Rattle.qp_chart.proofs.statements.checked_expr.Goals as goal

pub returns-in-Err-Bad-clause-fault : goal.returns-in-Err-Bad-clause-fault
unfolding guard_fault
returns-in-Err-Bad-clause-fault c =
    let none = rw c.in-Err-Bad.field-0-is at c.in-Err-Bad.ensures.exact in
    rw none c.below.ensures

pub returns-in-Ok-clause-fault : goal.returns-in-Ok-clause-fault
returns-in-Ok-clause-fault c = rw c.in-Ok.ensures.exact c.guard_of.ensures.fault

pub returns-in-Ok-clause-ok : goal.returns-in-Ok-clause-ok
returns-in-Ok-clause-ok c =
    IfOk-weaker c.guard_of.result _ _
    (λ b h. (rw c.in-Ok.ensures.exact h.0, record { term = term_of c.in-Ok.e; read = c.in-Ok.ensures.exact; made = h.1 }))
    c.guard_of.ensures.ok
