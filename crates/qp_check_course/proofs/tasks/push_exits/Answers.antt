use Rattle.std.proofs.Common.{refl, get_or}
use Rattle.qp_chart.specs.Task.{exits}
use Rattle.qp_check_course.proofs.TaskLemmas.{exits-step, exits-none}
use Rattle.qp_chart_tree.proofs.PlanLemmas.{made-all}
use Rattle.qp_check_course.proofs.tasks.push_exits.Goals as goal

pub loop-s-preserved : goal.loop-s-preserved
loop-s-preserved c =
    exits-step c.args.chart.now c.args.path.now c.loop-s.s-index (get_or c.args.path.now c.loop-s.s-index 0) _ _ _ _ c.loop-s-test.true refl
    c.in_ok-push_task.ensures (rw c.exit_acts.ensures at c.in_ok-push_acts.ensures) c.loop-s.invariant

pub returns : goal.returns
returns c = made-all (exits c.args.chart.now) c.args.path.now c.loop-s.s-index _ _ (exits-none c.args.chart.now) c.loop-s-test.false c.loop-s.invariant
