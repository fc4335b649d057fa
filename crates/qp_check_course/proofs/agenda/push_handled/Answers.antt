use Rattle.std.proofs.Common.{ap, sym, ◌∙◌, Some}
use Rattle.std.proofs.lemmas.Result.{IfOk-weaker}
use Rattle.qp_check_course.proofs.TaskLemmas.{handled-some, handled-none}
use Rattle.qp_check_course.proofs.agenda.push_handled.Goals as goal

pub returns-in_ok-push_acts-in-Some : goal.returns-in_ok-push_acts-in-Some
returns-in_ok-push_acts-in-Some c =
    let h = c.h.inside in
    IfOk-weaker c.push_moves.result _ _
    (λ after k. handled-some c.args.chart.now c.args.leaf (record { state = h.state; place = h.place; row = h.row.now }) c.args.found _ _ _ _ after
    (c.in-Some.is ∙ ap Some (sym c.h.view_is)) c.in_ok-push_task-in-Some.ensures
    (rw c.acts.ensures at c.in_ok-push_acts-in-Some.ensures) k)
    (rw c.to.ensures at c.push_moves.ensures)

pub returns-in_ok-push_task-in-None : goal.returns-in_ok-push_task-in-None
returns-in_ok-push_task-in-None c =
    handled-none c.args.chart.now c.args.leaf c.args.found _ _ c.in-None.is c.in_ok-push_task-in-None.ensures
