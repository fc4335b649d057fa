use Rattle.qp_chart_compiled.specs.Compiled.{tasks_left_in}
use Rattle.qp_chart_compiled.proofs.compiled.Compiled.start.Goals as goal

pub returns-clause-tasks : goal.returns-clause-tasks
unfolding tasks_left_in
returns-clause-tasks c = c.requires.start.tasks
