use Rattle.qp_chart.specs.Expr.{names_in}
use Rattle.qp_check_course.proofs.TaskLemmas.{step-adds}
use Rattle.qp_check_course.proofs.agenda.push_step.Goals as goal

pub returns : goal.returns
returns c =
    step-adds c.args.chart.now c.args.leaf (names_in c.args.env.now) c.args.sig c.handler_of-found.result _ _ _ _ c.handler_of-found.ensures c.in_ok-after.ensures
    c.in_ok-push_task.ensures
