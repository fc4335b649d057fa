use Rattle.qp_check_course.proofs.TaskLemmas.{pushed}
use Rattle.qp_check_course.proofs.tasks.push_task.Goals as goal

pub returns : goal.returns
returns c = pushed _ _ _ c.in_ok-push.ensures.items
