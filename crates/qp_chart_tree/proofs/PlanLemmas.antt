-- Plans of tasks that are made one after another: actions, initial transitions, the move of a row.
use Rattle.std.proofs.Common.{◌≡◌, ℕ, suc, ◌+◌, ◌-◌, ◌<◌, List, ◌∷◌, ◌++◌, length, get_or, drop, sym, ◌∙◌, ap, append_assoc, add-one, drop-cons, ◌≤◌, [], append-nil, refl, arith, Some, None, Option, subst}
use Rattle.std.proofs.lemmas.List.{drop_all}
use Rattle.qp_chart.specs.Drill.{plan_before, Plan, init_of, drill_to, drill, initial}
use Rattle.qp_chart.specs.declared.actions.Act.{Act}
use Rattle.qp_chart.specs.Task.{act_tasks, tasks_of}
use Rattle.qp_chart.specs.declared.checked.Chart.{Chart}
use Rattle.qp_chart.specs.declared.checked.State.{State}
use Rattle.qp_chart.specs.Agenda.{transition, crossing, moves}
use Rattle.qp_chart.specs.MainState.{main_state}
use Rattle.qp_chart_tree.specs.Plans.{AddsTasks}
use Rattle.qp_chart.specs.Task as task

-- what an element makes stands before what the others make
pub made-step : {X Y : Type 0} (f : List X → List Y) (g : X → List Y) → ((x : X) (xs : List X) → f (x ∷ xs) ≡ g x ++ f xs)
    → (xs : List X) (i : ℕ) (x d : X) (done new whole : List Y) → i < length xs → x ≡ get_or xs i d → new ≡ done ++ g x → done ++ f (drop i xs) ≡ whole
    → new ++ f (drop (i + 1) xs) ≡ whole
made-step f g cons xs i x d done new whole h is e k =
    let rest : drop i xs ≡ x ∷ drop (i + 1) xs = rw add-one (drop-cons xs i d h ∙ ap (λ y. y ∷ drop (suc i) xs) (sym is)) in
    ap (λ ys. ys ++ f (drop (i + 1) xs)) e ∙ append_assoc done (g x) (f (drop (i + 1) xs)) ∙ ap (λ ys. done ++ ys) (sym (cons x (drop (i + 1) xs)))
    ∙ ap (λ ys. done ++ f ys) (sym rest) ∙ k

-- no element is left
pub made-all : {X Y : Type 0} (f : List X → List Y) (xs : List X) (i : ℕ) (done whole : List Y) → f [] ≡ [] → length xs ≤ i → done ++ f (drop i xs) ≡ whole → done ≡ whole
made-all f xs i done whole none h k = sym (append-nil done) ∙ ap (λ ys. done ++ ys) (sym none) ∙ ap (λ ys. done ++ f ys) (sym (drop_all i xs h)) ∙ k

pub acts-step : (xs : List Act) (i : ℕ) (x d : Act) (done new whole : List task.Task) → i < length xs → x ≡ get_or xs i d → new ≡ done ++ act_tasks x
    → done ++ tasks_of (drop i xs) ≡ whole → new ++ tasks_of (drop (i + 1) xs) ≡ whole
unfolding tasks_of
acts-step = made-step tasks_of act_tasks (λ x xs. refl)

-- a plan behind some tasks
pub adds-more : (xs old mid new : List task.Task) (plan : Plan) (after : ℕ) → mid ≡ old ++ xs → AddsTasks plan mid new after → AddsTasks (plan_before xs plan) old new after
adds-more xs old mid new plan after e h = record { tasks = h.tasks ∙ ap (λ ys. ys ++ plan.tasks) e ∙ append_assoc old xs plan.tasks; leaf = h.leaf }

-- a plan that is done
pub adds-end : (plan whole : Plan) (old new : List task.Task) (s : ℕ) → plan ≡ record { tasks = []; leaf = s } → new ++ plan.tasks ≡ old ++ whole.tasks → plan.leaf ≡ whole.leaf
    → AddsTasks whole old new s
adds-end plan whole old new s e h l =
    record { tasks = sym (append-nil new) ∙ ap (λ (p : Plan). new ++ p.tasks) (sym e) ∙ h; leaf = ap (λ (p : Plan). p.leaf) (sym e) ∙ l }

-- the first tasks of a plan are done
pub plan-more : (plan rest : Plan) (xs done new whole : List task.Task) → plan ≡ plan_before xs rest → new ≡ done ++ xs → done ++ plan.tasks ≡ whole → new ++ rest.tasks ≡ whole
plan-more plan rest xs done new whole e is h =
    ap (λ ys. ys ++ rest.tasks) is ∙ append_assoc done xs rest.tasks ∙ ap (λ (p : Plan). done ++ p.tasks) (sym e) ∙ h

pub drill-init : (chart : Chart) (items : List State) (s : ℕ) → items ≡ chart.state → drill_to chart (length items - 0) s (init_of chart s) ≡ drill chart s
unfolding drill
drill-init chart items s e = let fuel : length items - 0 ≡ length chart.state = omega (arith, ap length e) in ap (λ n. drill_to chart n s (init_of chart s)) fuel

-- an initial transition more
pub drill-step : (chart : Chart) (n i s t : ℕ) → i < n → Some t ≡ init_of chart s
    → drill_to chart (n - i) s (init_of chart s) ≡ plan_before (initial chart s t) (drill_to chart (n - (i + 1)) t (init_of chart t))
unfolding drill_to
drill-step chart n i s t h e =
    let fuel : n - i ≡ suc (n - (i + 1)) = omega arith in
    ap (λ o. drill_to chart (n - i) s o) (sym e) ∙ ap (λ m. drill_to chart m s (Some t)) fuel

pub drill-top : (chart : Chart) (n s : ℕ) → None ≡ init_of chart s → drill_to chart n s (init_of chart s) ≡ record { tasks = []; leaf = s }
unfolding drill_to
drill-top chart n s e = ap (λ o. drill_to chart n s o) (sym e)

pub drill-end : (chart : Chart) (n i s : ℕ) → n ≤ i → drill_to chart (n - i) s (init_of chart s) ≡ record { tasks = []; leaf = s }
unfolding drill_to
drill-end chart n i s h = let fuel : n - i ≡ 0 = omega arith in ap (λ m. drill_to chart m s (init_of chart s)) fuel ∙ by (init_of chart s)
  where
    by : (o : Option ℕ) → drill_to chart 0 s o ≡ record { tasks = []; leaf = s }
    by None = refl
    by (Some t) = refl

-- the move of a row
pub moves-some : (chart : Chart) (leaf s t : ℕ) (main to : Option ℕ) (old mid new : List task.Task) (after : ℕ) → to ≡ Some t → main ≡ main_state chart s t
    → mid ≡ old ++ crossing chart main leaf t → AddsTasks (drill chart t) mid new after → AddsTasks (moves chart leaf s to) old new after
unfolding moves transition
moves-some chart leaf s t main to old mid new after is e crossed h =
    subst (λ o. AddsTasks (moves chart leaf s o) old new after) (sym is)
    (adds-more (crossing chart (main_state chart s t) leaf t) old mid new (drill chart t) after (crossed ∙ ap (λ m. old ++ crossing chart m leaf t) e) h)

pub moves-none : (chart : Chart) (leaf s : ℕ) (to : Option ℕ) (old : List task.Task) → to ≡ None → AddsTasks (moves chart leaf s to) old old leaf
unfolding moves
moves-none chart leaf s to old is =
    subst (λ o. AddsTasks (moves chart leaf s o) old old leaf) (sym is) (record { tasks = sym (append-nil old); leaf = refl })
