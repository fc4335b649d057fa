use Rattle.std.proofs.Common.{◌≡◌, ℕ, List, ℤ, refl, sym, ap, ◌∙◌, is_some, rules}
use Rattle.std.specs.Prelude.{slice_set}
use Rattle.std.specs.Int.{w64}
use Rattle.std.proofs.lemmas.Int.{to_z-of_z}
use mir.Val.{SFits}
use Rattle.qp_chart.specs.Expr.{Names}
use Rattle.qp_model.specs.Able.{task_able}
use Rattle.qp_model.specs.Calls as calls
use Rattle.qp_model.specs.Calls.{deed_of}
use Rattle.qp_check_calls.specs.CallState.{CallState}
use Rattle.qp_check_calls.specs.CallStateNext.{call_state_begin}
use Rattle.qp_check_calls.specs.AsCall.{as_call}
use Rattle.qp_chart.specs.Task as task
use Rattle.qp_model.specs.Acts.{Actor, Config}
use Rattle.qp_check_course.specs.declared.tasks.CourseTask.{CourseTask}
use Rattle.qp_check_course.specs.Goes.{Way, moment_of}
use Rattle.qp_check_course.specs.Machine.{State, action_done, resume, deed_state, task_state, tasks_state}
use Rattle.qp_check_course.specs.AsTask.{as_course_task, as_tasks}
use Rattle.qp_check_course.specs.AsState.{as_actor, as_way, own_config}
use Rattle.qp_check_course.proofs.FewLemmas.{makes-few}
use Rattle.qp_check_course.proofs.settle.+settle.Goals as goal

-- the state of a task that is known
of-task : (a : Actor) (way : Way) (leaf : ℕ) (ts : List task.Task) (go : Config → State) (c : Config) (s : State) (t u : CourseTask) → t ≡ u
    → s ≡ task_state a way leaf ts go c (as_course_task u) → s ≡ task_state a way leaf ts go c (as_course_task t)
of-task a way leaf ts go c s t u is e = e ∙ ap (λ (x : CourseTask). task_state a way leaf ts go c (as_course_task x)) (sym is)

pub act-returns-in-Says : goal.act-returns-in-Says
unfolding deed_state
act-returns-in-Says t c =
    ap (λ (d : calls.Deed). deed_state (as_actor c.args.who.now) (as_way c.args.way) c.args.left.leaf (as_tasks c.args.left.tasks.items)
    (tasks_state (as_actor c.args.who.now) (as_way c.args.way) c.args.left.leaf (as_tasks c.args.left.tasks.items)) (own_config c.args.own c.args.kept) d)
    (c.in-Says.ensures ∙ ap (λ (names : Names). deed_of names c.args.plain.now) c.env_of.ensures)

pub act-returns-in-Calls : goal.act-returns-in-Calls
unfolding deed_state
act-returns-in-Calls t c =
    c.resume.ensures
    ∙ ap (λ (r : CallState). resume (as_way c.args.way) c.has_inner-inner.result r c.args.left.leaf (as_tasks c.args.left.tasks.items)
    (tasks_state (as_actor c.args.who.now) (as_way c.args.way) c.args.left.leaf (as_tasks c.args.left.tasks.items)) (own_config c.args.own r.kept)) c.begin.ensures
    ∙ ap (λ i. resume (as_way c.args.way) i (call_state_begin c.args.who.now.room c.args.kept (as_call c.in-Calls.call)) c.args.left.leaf (as_tasks c.args.left.tasks.items)
    (tasks_state (as_actor c.args.who.now) (as_way c.args.way) c.args.left.leaf (as_tasks c.args.left.tasks.items)) (own_config c.args.own c.args.kept)) c.has_inner-inner.ensures
    ∙ ap (λ (d : calls.Deed). deed_state (as_actor c.args.who.now) (as_way c.args.way) c.args.left.leaf (as_tasks c.args.left.tasks.items)
    (tasks_state (as_actor c.args.who.now) (as_way c.args.way) c.args.left.leaf (as_tasks c.args.left.tasks.items)) (own_config c.args.own c.args.kept) d)
    (c.in-Calls.ensures ∙ ap (λ (names : Names). deed_of names c.args.plain.now) c.env_of.ensures)

pub act-returns-in-Sets : goal.act-returns-in-Sets
unfolding deed_state
act-returns-in-Sets t c =
    let fits : SFits w64 c.in-Sets.value = search rules in
    c.done.ensures
    ∙ ap (λ (xs : List ℤ). action_done (as_way c.args.way) c.args.left.leaf (as_tasks c.args.left.tasks.items)
    (tasks_state (as_actor c.args.who.now) (as_way c.args.way) c.args.left.leaf (as_tasks c.args.left.tasks.items)) (record (own_config c.args.own c.args.kept) { vars = xs }))
    (c.set.ensures ∙ ap (λ (z : ℤ). slice_set c.args.own.vars.items c.in-Sets.var z) (to_z-of_z w64 c.in-Sets.value fits))
    ∙ ap (λ (d : calls.Deed). deed_state (as_actor c.args.who.now) (as_way c.args.way) c.args.left.leaf (as_tasks c.args.left.tasks.items)
    (tasks_state (as_actor c.args.who.now) (as_way c.args.way) c.args.left.leaf (as_tasks c.args.left.tasks.items)) (own_config c.args.own c.args.kept) d)
    (c.in-Sets.ensures ∙ ap (λ (names : Names). deed_of names c.args.plain.now) c.env_of.ensures)

pub begin-act-requires : goal.begin-act-requires
unfolding task_able
begin-act-requires t c =
    let asked = rw c.in-Do.is at c.requires.own_few in
    (search rules, (c.requires.few, makes-few (is_some (moment_of (as_way c.args.way)).entry) c.in-Do.plain.now asked))

pub begin-returns-in-Do : goal.begin-returns-in-Do
unfolding task_state
begin-returns-in-Do t c = of-task (as_actor c.args.who.now) (as_way c.args.way) _ _ _ _ _ _ _ c.in-Do.is c.act.ensures

pub begin-returns-in-Raise : goal.begin-returns-in-Raise
unfolding task_state
begin-returns-in-Raise t c = of-task (as_actor c.args.who.now) (as_way c.args.way) _ _ _ _ _ _ _ c.in-Raise.is refl

pub begin-returns-in-Restore : goal.begin-returns-in-Restore
unfolding task_state
begin-returns-in-Restore t c = of-task (as_actor c.args.who.now) (as_way c.args.way) _ _ _ _ _ _ _ c.in-Restore.is c.telling.ensures

pub begin-returns-in-Begin : goal.begin-returns-in-Begin
unfolding task_state
begin-returns-in-Begin t c = of-task (as_actor c.args.who.now) (as_way c.args.way) _ _ _ _ _ _ _ c.in-Begin.is c.telling-in-Begin.ensures

pub begin-returns-in-Unhandled : goal.begin-returns-in-Unhandled
unfolding task_state
begin-returns-in-Unhandled t c = of-task (as_actor c.args.who.now) (as_way c.args.way) _ _ _ _ _ _ _ c.in-Unhandled.is c.telling-in-Unhandled.ensures

pub begin-returns-in-Done : goal.begin-returns-in-Done
unfolding task_state
begin-returns-in-Done t c = of-task (as_actor c.args.who.now) (as_way c.args.way) _ _ _ _ _ _ _ c.in-Done.is c.telling-in-Done.ensures
