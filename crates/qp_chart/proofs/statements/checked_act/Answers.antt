use Rattle.std.proofs.lemmas.Result.{IfOk-weaker}
use Rattle.qp_chart_names.specs.ActionFaults.{text_fault, action_fault}
use Rattle.qp_chart_text.specs.Terms.{command_of}
use Rattle.qp_chart.proofs.statements.checked_act.Goals as goal

pub returns-in-Err-Bad-clause-fault : goal.returns-in-Err-Bad-clause-fault
unfolding text_fault action_fault
returns-in-Err-Bad-clause-fault c =
    let none = rw c.in-Err-Bad.field-0-is at c.in-Err-Bad.ensures.exact in
    rw none c.below.ensures

pub returns-in-Ok-clause-fault : goal.returns-in-Ok-clause-fault
unfolding text_fault
returns-in-Ok-clause-fault c = rw c.in-Ok.ensures.exact c.act_of.ensures.fault

pub returns-in-Ok-clause-ok : goal.returns-in-Ok-clause-ok
unfolding text_fault
returns-in-Ok-clause-ok c =
    IfOk-weaker c.act_of.result _ _
    (λ a h. (
      rw c.in-Ok.ensures.exact h.0,
      record { command = command_of c.in-Ok.action; read = c.in-Ok.ensures.exact; known = h.1.known; in_range = h.1.in_range; fits = h.1.fits; made = h.1.made },
    ))
    c.act_of.ensures.ok
