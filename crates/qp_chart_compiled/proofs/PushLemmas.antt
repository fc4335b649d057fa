-- Codes that are added one after another.
use Rattle.std.proofs.Common.{◌≡◌, ℕ, ◌+◌, ◌<◌, ◌≤◌, List, [], ◌∷◌, ◌++◌, length, get_or, map, drop, refl, ◌∙◌, ap, Option, Some, None, arith, append_assoc}
use Rattle.std.specs.List.{slice_get}
use Rattle.std.proofs.lemmas.List.{map-append}
use Rattle.std.proofs.lemmas.Option.{slice_get-get_or}
use Rattle.qp_chart.specs.Task as task
use Rattle.qp_chart.specs.declared.checked.Chart.{Chart}
use Rattle.qp_chart.specs.declared.actions.Plain.{Plain}
use Rattle.qp_chart.specs.declared.actions.Act.{Act}
use Rattle.qp_chart.specs.declared.actions.Act.TheVariants as act
use Rattle.qp_chart.specs.Task.{Do, Enter, Exit, Raise, Restore, act_tasks, tasks_of, exits, entries}
use Rattle.qp_chart_compiled.specs.declared.code.ActionList.{ActionList}
use Rattle.qp_chart_compiled.specs.declared.code.ActionList.TheVariants as of
use Rattle.qp_chart_compiled.specs.declared.code.Code.{Code}
use Rattle.qp_chart_compiled.specs.declared.code.Code.TheVariants as code
use Rattle.qp_chart_compiled.specs.Codes.{acts_in, within_task, plain_task, task_at, tasks_at}
use Rattle.qp_chart_compiled.specs.Within.{IsLocked}
use Rattle.qp_chart_tree.proofs.PlanLemmas.{made-step, made-all}

-- a code is pushed
pub pushed : (chart : Chart) (xs ys : List Code) (x : Code) (t : task.Task) → task_at chart x ≡ t → ys ≡ xs ++ x ∷ [] → tasks_at chart ys ≡ tasks_at chart xs ++ t ∷ []
pushed chart xs ys x t is e = ap (tasks_at chart) e ∙ map-append (task_at chart) xs (x ∷ []) ∙ ap (λ u. tasks_at chart xs ++ u ∷ []) is

-- the task of an action within `locked`
within-is : (plains : List Plain) (o : Option Act) (i : ℕ) (d : Plain) → IsLocked plains o → i < length plains → within_task i o ≡ Do (get_or plains i d)
within-is plains None i d h inside = absurd h
within-is plains (Some (act.Plain p)) i d h inside = absurd h
within-is plains (Some (act.Locked c acts)) i d h inside = ap (λ ps. plain_task (slice_get ps i)) h ∙ ap plain_task (slice_get-get_or plains i d inside)

-- an action within `locked` more
pub within-step : (chart : Chart) (list : ActionList) (at i : ℕ) (plains : List Plain) (codes new : List Code) (whole : List task.Task)
    → IsLocked plains (slice_get (acts_in chart list) at) → i < length plains → new ≡ codes ++ code.Within list at i ∷ []
    → tasks_at chart codes ++ map Do (drop i plains) ≡ whole → tasks_at chart new ++ map Do (drop (i + 1) plains) ≡ whole
unfolding task_at
within-step chart list at i plains codes new whole locked h e k = by plains locked h k
  where
    by : (plains : List Plain) → IsLocked plains (slice_get (acts_in chart list) at) → i < length plains → tasks_at chart codes ++ map Do (drop i plains) ≡ whole
        → tasks_at chart new ++ map Do (drop (i + 1) plains) ≡ whole
    by [] locked h k = absurd (omega (arith, h))
    by (d ∷ ps) locked h k =
        made-step (λ xs. map Do xs) (λ x. Do x ∷ []) (λ x xs. refl) (d ∷ ps) i (get_or (d ∷ ps) i d) d (tasks_at chart codes) (tasks_at chart new) whole h refl
        (pushed chart codes new _ _ (within-is (d ∷ ps) (slice_get (acts_in chart list) at) i d locked h) e) k

-- an action that stands alone
pub plain-is : (chart : Chart) (list : ActionList) (at : ℕ) (p : Plain) (a : Act) (codes new : List Code) → slice_get (acts_in chart list) at ≡ Some a → a ≡ act.Plain p
    → new ≡ codes ++ code.Do list at ∷ [] → tasks_at chart new ≡ tasks_at chart codes ++ act_tasks a
unfolding task_at act_tasks
plain-is chart list at p a codes new is e h = rw e (pushed chart codes new _ (Do p) (rw (is, e) refl) h)

-- `locked` with its actions
pub locked-is : (chart : Chart) (c : ℕ) (plains : List Plain) (a : Act) (codes one two new : List Code) → a ≡ act.Locked c plains
    → one ≡ codes ++ code.Raise c ∷ [] → tasks_at chart two ≡ tasks_at chart one ++ map Do plains → new ≡ two ++ code.Restore ∷ []
    → tasks_at chart new ≡ tasks_at chart codes ++ act_tasks a
unfolding task_at act_tasks
locked-is chart c plains a codes one two new e h k l =
    let raised = pushed chart codes one (code.Raise c) (Raise c) refl h in
    let restored = pushed chart two new code.Restore Restore refl l in
    rw e (restored ∙ ap (λ ys. ys ++ Restore ∷ []) (k ∙ ap (λ ys. ys ++ map Do plains) raised ∙ append_assoc (tasks_at chart codes) (Raise c ∷ []) (map Do plains))
    ∙ append_assoc (tasks_at chart codes) (Raise c ∷ map Do plains) (Restore ∷ []))

-- the locked action of a list
pub is-locked : (plains : List Plain) (c : ℕ) (o : Option Act) (a : Act) → o ≡ Some a → a ≡ act.Locked c plains → IsLocked plains o
is-locked plains c o a e is = rw (e, is) refl

pub acts-end : (xs : List Act) (i : ℕ) (done whole : List task.Task) → length xs ≤ i → done ++ tasks_of (drop i xs) ≡ whole → done ≡ whole
unfolding tasks_of
acts-end xs i done whole h k = made-all tasks_of xs i done whole refl h k

-- an exit of a state
pub exits-step : (chart : Chart) (xs : List ℕ) (i s : ℕ) (codes note : List Code) (new whole : List task.Task) → i < length xs → s ≡ get_or xs i 0
    → note ≡ codes ++ code.Exit s ∷ [] → new ≡ tasks_at chart note ++ tasks_of (acts_in chart (of.Exit s))
    → tasks_at chart codes ++ exits chart (drop i xs) ≡ whole → new ++ exits chart (drop (i + 1) xs) ≡ whole
unfolding exits task_at acts_in
exits-step chart xs i s codes note new whole h is one two k =
    let told = pushed chart codes note (code.Exit s) (Exit s) refl one in
    made-step (exits chart) (λ s. Exit s ∷ tasks_of (acts_in chart (of.Exit s))) (λ x xs. refl) xs i s 0 (tasks_at chart codes) new whole h is
    (two ∙ ap (λ ys. ys ++ tasks_of (acts_in chart (of.Exit s))) told ∙ append_assoc (tasks_at chart codes) (Exit s ∷ []) _) k

pub exits-end : (chart : Chart) (xs : List ℕ) (i : ℕ) (done whole : List task.Task) → length xs ≤ i → done ++ exits chart (drop i xs) ≡ whole → done ≡ whole
unfolding exits
exits-end chart xs i done whole h k = made-all (exits chart) xs i done whole refl h k

-- an entry of a state
pub entries-step : (chart : Chart) (xs : List ℕ) (i s : ℕ) (codes note : List Code) (new whole : List task.Task) → i < length xs → s ≡ get_or xs i 0
    → note ≡ codes ++ code.Enter s ∷ [] → new ≡ tasks_at chart note ++ tasks_of (acts_in chart (of.Entry s))
    → tasks_at chart codes ++ entries chart (drop i xs) ≡ whole → new ++ entries chart (drop (i + 1) xs) ≡ whole
unfolding entries task_at acts_in
entries-step chart xs i s codes note new whole h is one two k =
    let told = pushed chart codes note (code.Enter s) (Enter s) refl one in
    made-step (entries chart) (λ s. Enter s ∷ tasks_of (acts_in chart (of.Entry s))) (λ x xs. refl) xs i s 0 (tasks_at chart codes) new whole h is
    (two ∙ ap (λ ys. ys ++ tasks_of (acts_in chart (of.Entry s))) told ∙ append_assoc (tasks_at chart codes) (Enter s ∷ []) _) k

pub entries-end : (chart : Chart) (xs : List ℕ) (i : ℕ) (done whole : List task.Task) → length xs ≤ i → done ++ entries chart (drop i xs) ≡ whole → done ≡ whole
unfolding entries
entries-end chart xs i done whole h k = made-all (entries chart) xs i done whole refl h k
