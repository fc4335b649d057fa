use Rattle.qp_chart.specs.Task.{tasks_of}
use Rattle.qp_check_course.proofs.TaskLemmas.{acts-none}
use Rattle.qp_chart_tree.proofs.PlanLemmas.{made-all, acts-step}
use Rattle.qp_check_course.proofs.tasks.push_acts.Goals as goal

pub loop-act-preserved : goal.loop-act-preserved
loop-act-preserved c =
    acts-step c.args.acts.now c.loop-act.act-index c.act-item.result c.act-item.result _ _ _ c.loop-act-test.true c.act-item.is c.in_ok-push_act.ensures c.loop-act.invariant

pub returns : goal.returns
returns c = made-all tasks_of c.args.acts.now c.loop-act.act-index _ _ acts-none c.loop-act-test.false c.loop-act.invariant
