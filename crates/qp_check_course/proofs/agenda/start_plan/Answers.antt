use Rattle.qp_check_course.proofs.TaskLemmas.{adds-all}
use Rattle.qp_check_course.proofs.agenda.start_plan.Goals as goal

pub returns : goal.returns
returns c = adds-all _ _ _ (rw c.new-tasks.ensures.items at c.in_ok-leaf.ensures)
