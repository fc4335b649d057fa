use Rattle.std.proofs.Common.{List, ◌∙◌, ap}
use Rattle.qp_model.specs.declared.bodies.Entry.{Entry}
use Rattle.qp_check_course.specs.declared.tasks.CourseTask.{CourseTask}
use Rattle.qp_check_course.specs.Goes.{Starting}
use Rattle.qp_check_course.specs.Machine.{tasks_state, start_state}
use Rattle.qp_check_course.specs.AsTask.{as_tasks}
use Rattle.qp_check_course.specs.AsState.{as_actor, own_config}
use Rattle.qp_check_course.proofs.CanLemmas.{few-first, start-begins}
use Rattle.qp_check_course.proofs.runs.begin.Goals as goal

pub settle-requires : goal.settle-requires
settle-requires c = rw c.from.ensures.0 (few-first c.args.who.now.chart.now _ c.requires (c.plan.view_is ∙ c.in_ok-plan.ensures))

pub returns : goal.returns
returns c =
    c.settle.ensures
    ∙ ap (λ (ts : List CourseTask). tasks_state (as_actor c.args.who.now) Starting c.plan.inside.leaf (as_tasks ts) (own_config c.in_ok-own.own c.none.result)) c.from.ensures.0
    ∙ start-begins (as_actor c.args.who.now) (own_config c.in_ok-own.own c.none.result) _ (c.plan.view_is ∙ c.in_ok-plan.ensures)
    ∙ ap (λ (k : List Entry). start_state (as_actor c.args.who.now) (own_config c.in_ok-own.own k)) c.none.ensures
    ∙ ap (start_state (as_actor c.args.who.now)) c.in_ok-own.ensures
