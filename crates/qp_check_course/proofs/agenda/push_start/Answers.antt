use Rattle.qp_check_course.proofs.TaskLemmas.{start-adds}
use Rattle.qp_check_course.proofs.agenda.push_start.Goals as goal

pub returns : goal.returns
returns c =
    start-adds c.args.chart.now _ _ _ _ _ _ _ c.in_ok-push_task.ensures (rw c.init_do.ensures at c.in_ok-push_acts.ensures)
    (rw c.init.ensures at c.in_ok-push_entered.ensures) (rw c.init-2.ensures at c.in_ok-leaf.ensures) c.in_ok-push_task-2.ensures
