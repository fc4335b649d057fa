-- Tasks that are added one after another.
use Rattle.std.proofs.Common.{◌≡◌, ℕ, ◌+◌, ◌-◌, ◌<◌, List, [], ◌∷◌, ◌++◌, length, get_or, drop, refl, sym, ◌∙◌, ap, subst, Option, Some, None, append_assoc}
use Rattle.std.proofs.lemmas.List.{map-append}
use Rattle.qp_chart.specs.Task as task
use Rattle.qp_chart.specs.declared.checked.Chart.{Chart}
use Rattle.qp_chart.specs.Expr.{Names}
use Rattle.qp_chart.specs.Handler.{Handler, handler}
use Rattle.qp_chart.specs.MainState.{entered}
use Rattle.qp_chart.specs.Agenda.{moves, handled, start_plan, step_plan}
use Rattle.qp_chart.specs.StateTree.{state_at}
use Rattle.qp_chart.specs.Task.{Enter, Exit, tasks_of, acts_at, exits, entries}
use Rattle.qp_chart.specs.Drill.{Plan, plan_before, drill}
use Rattle.qp_check_course.specs.declared.tasks.CourseTask.{CourseTask}
use Rattle.qp_check_course.specs.AsTask.{as_course_task, as_tasks}
use Rattle.qp_chart_tree.specs.Plans.{AddsTasks}
use Rattle.qp_chart_tree.proofs.PlanLemmas.{made-step, adds-more}

-- a task is pushed
pub pushed : (xs ys : List CourseTask) (t : CourseTask) → ys ≡ xs ++ t ∷ [] → as_tasks ys ≡ as_tasks xs ++ as_course_task t ∷ []
pushed xs ys t e = ap as_tasks e ∙ map-append as_course_task xs (t ∷ [])

pub acts-none : tasks_of [] ≡ []
unfolding tasks_of
acts-none = refl

-- an exit, or an entry, of a state
pub exits-step : (chart : Chart) (xs : List ℕ) (i s : ℕ) (done note new whole : List task.Task) → i < length xs → s ≡ get_or xs i 0
    → note ≡ done ++ Exit s ∷ [] → new ≡ note ++ tasks_of (acts_at (λ x. x.exit) (state_at chart s))
    → done ++ exits chart (drop i xs) ≡ whole → new ++ exits chart (drop (i + 1) xs) ≡ whole
unfolding exits
exits-step chart xs i s done note new whole h is one two k =
    made-step (exits chart) (λ s. Exit s ∷ tasks_of (acts_at (λ x. x.exit) (state_at chart s))) (λ x xs. refl) xs i s 0 done new whole h is
    (two ∙ ap (λ ys. ys ++ tasks_of (acts_at (λ x. x.exit) (state_at chart s))) one ∙ append_assoc done (Exit s ∷ []) _) k

pub exits-none : (chart : Chart) → exits chart [] ≡ []
unfolding exits
exits-none chart = refl

pub entries-step : (chart : Chart) (xs : List ℕ) (i s : ℕ) (done note new whole : List task.Task) → i < length xs → s ≡ get_or xs i 0
    → note ≡ done ++ Enter s ∷ [] → new ≡ note ++ tasks_of (acts_at (λ x. x.entry) (state_at chart s))
    → done ++ entries chart (drop i xs) ≡ whole → new ++ entries chart (drop (i + 1) xs) ≡ whole
unfolding entries
entries-step chart xs i s done note new whole h is one two k =
    made-step (entries chart) (λ s. Enter s ∷ tasks_of (acts_at (λ x. x.entry) (state_at chart s))) (λ x xs. refl) xs i s 0 done new whole h is
    (two ∙ ap (λ ys. ys ++ tasks_of (acts_at (λ x. x.entry) (state_at chart s))) one ∙ append_assoc done (Enter s ∷ []) _) k

pub entries-none : (chart : Chart) → entries chart [] ≡ []
unfolding entries
entries-none chart = refl

-- what a handler does
pub handled-some : (chart : Chart) (leaf : ℕ) (h : Handler) (found : Option Handler) (old note mid new : List task.Task) (after : ℕ) → found ≡ Some h
    → note ≡ old ++ task.Run h.state h.place ∷ [] → mid ≡ note ++ tasks_of h.row.acts → AddsTasks (moves chart leaf h.state h.row.to) mid new after
    → AddsTasks (handled chart leaf found) old new after
unfolding handled
handled-some chart leaf h found old note mid new after is one two k =
    subst (λ o. AddsTasks (handled chart leaf o) old new after) (sym is)
    (adds-more (task.Run h.state h.place ∷ tasks_of h.row.acts) old mid new (moves chart leaf h.state h.row.to) after
    (two ∙ ap (λ ys. ys ++ tasks_of h.row.acts) one ∙ append_assoc old (task.Run h.state h.place ∷ []) (tasks_of h.row.acts)) k)

pub handled-none : (chart : Chart) (leaf : ℕ) (found : Option Handler) (old new : List task.Task) → found ≡ None → new ≡ old ++ task.Unhandled ∷ []
    → AddsTasks (handled chart leaf found) old new leaf
unfolding handled
handled-none chart leaf found old new is e =
    subst (λ o. AddsTasks (handled chart leaf o) old new leaf) (sym is) (record { tasks = e; leaf = refl })

-- more tasks behind those that were added
past : (old xs ys new : List task.Task) → new ≡ old ++ xs → new ++ ys ≡ old ++ (xs ++ ys)
past old xs ys new e = ap (λ zs. zs ++ ys) e ∙ append_assoc old xs ys

pub start-adds : (chart : Chart) (old a b c d e : List task.Task) (leaf : ℕ) → a ≡ old ++ task.Begin ∷ [] → b ≡ a ++ tasks_of chart.init_do
    → c ≡ b ++ entries chart (entered chart None chart.init) → AddsTasks (drill chart chart.init) c d leaf → e ≡ d ++ task.Done ∷ []
    → AddsTasks (start_plan chart) old e leaf
unfolding start_plan
start-adds chart old a b c d e leaf one two three four five =
    let first : b ≡ old ++ (task.Begin ∷ tasks_of chart.init_do) = two ∙ past old (task.Begin ∷ []) (tasks_of chart.init_do) a one in
    let second : c ≡ old ++ ((task.Begin ∷ tasks_of chart.init_do) ++ entries chart (entered chart None chart.init)) =
    three ∙ past old (task.Begin ∷ tasks_of chart.init_do) (entries chart (entered chart None chart.init)) b first in
    let begun = plan_before (task.Begin ∷ tasks_of chart.init_do ++ entries chart (entered chart None chart.init)) (drill chart chart.init) in
    let third = adds-more (task.Begin ∷ tasks_of chart.init_do ++ entries chart (entered chart None chart.init)) old c d (drill chart chart.init) leaf second four in
    record { tasks = five ∙ past old begun.tasks (task.Done ∷ []) d third.tasks; leaf = third.leaf }

pub step-adds : (chart : Chart) (leaf : ℕ) (names : Names) (sig : ℕ) (found : Option Handler) (old mid new : List task.Task) (after : ℕ) → found ≡ handler chart names sig leaf
    → AddsTasks (handled chart leaf found) old mid after → new ≡ mid ++ task.Done ∷ [] → AddsTasks (step_plan chart leaf names sig) old new after
unfolding step_plan
step-adds chart leaf names sig found old mid new after e k last =
    let does = subst (λ o. AddsTasks (handled chart leaf o) old mid after) e k in
    record { tasks = last ∙ past old (handled chart leaf (handler chart names sig leaf)).tasks (task.Done ∷ []) mid does.tasks; leaf = does.leaf }

-- a plan of these tasks and this leaf
abbrev pub plan_of : List task.Task → ℕ → Plan
plan_of tasks leaf = record { tasks = tasks; leaf = leaf }

-- all tasks of a plan
pub adds-all : (plan : Plan) (tasks : List task.Task) (leaf : ℕ) → AddsTasks plan [] tasks leaf → plan_of tasks leaf ≡ plan
adds-all plan tasks leaf h = λ i. record { tasks = h.tasks i; leaf = h.leaf i }
