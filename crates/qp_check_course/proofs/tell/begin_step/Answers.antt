use Rattle.std.proofs.Common.{List, ◌∙◌, ap}
use Rattle.qp_chart.specs.Expr.{names_in}
use Rattle.qp_check_course.specs.declared.tasks.CourseTask.{CourseTask}
use Rattle.qp_check_course.specs.Goes.{Stepping}
use Rattle.qp_check_course.specs.Machine.{tasks_state}
use Rattle.qp_check_course.specs.AsTask.{as_tasks}
use Rattle.qp_check_course.specs.AsState.{as_actor, own_config}
use Rattle.qp_check_course.proofs.CanLemmas.{few-plan, step-begins}
use Rattle.qp_check_course.proofs.tell.begin_step.Goals as goal

pub settle-requires : goal.settle-requires
settle-requires c =
    rw c.from.ensures.0
    (few-plan c.args.who.now.chart.now c.args.own.leaf (names_in c.env_of.result) (record { sig = c.args.step.sig; pars = c.args.step.pars }) c.args.step.entry c.args.step.sig _
    c.requires (c.plan.view_is ∙ c.in_ok-plan.ensures))

pub returns : goal.returns
returns c =
    c.settle.ensures
    ∙ ap (λ (ts : List CourseTask). tasks_state (as_actor c.args.who.now) (Stepping (record { sig = c.args.step.sig; pars = c.args.step.pars }) c.args.step.entry) c.plan.inside.leaf (as_tasks ts)
    (own_config c.args.own c.args.kept)) c.from.ensures.0
    ∙ step-begins (as_actor c.args.who.now) (record { sig = c.args.step.sig; pars = c.args.step.pars }) c.args.step.entry (own_config c.args.own c.args.kept) (names_in c.env_of.result) _
    c.env_of.ensures (c.plan.view_is ∙ c.in_ok-plan.ensures)
