-- The agendas of starts and of steps close with `done`.
use Rattle.std.proofs.Common.{◌≡◌, ℕ, zero, suc, Bool, true, false, not, ◌&&◌, List, [], ◌∷◌, ◌++◌, map, length, refl, Option, Some, None}
use Rattle.std.specs.List.{list_all}
use Rattle.qp_chart.specs.Expr.{Names}
use Rattle.qp_chart.specs.declared.actions.Plain.{Plain}
use Rattle.qp_chart.specs.declared.actions.Act.{Act}
use Rattle.qp_chart.specs.declared.actions.Act.TheVariants as act
use Rattle.qp_chart.specs.declared.checked.State.{State}
use Rattle.qp_chart.specs.declared.checked.Chart.{Chart}
use Rattle.qp_chart.specs.StateTree.{state_at}
use Rattle.qp_chart.specs.Handler.{Handler, handler}
use Rattle.qp_chart.specs.MainState.{main_state, exited, entered}
use Rattle.qp_chart.specs.Task.{Task, Begin, Done, Do, Restore, act_tasks, tasks_of, acts_at, exits, entries}
use Rattle.qp_chart.specs.Drill.{init_of, initial, drill_to, drill}
use Rattle.qp_chart.specs.Agenda.{crossing, transition, moves, handled, step_plan, start_plan}
use Rattle.qp_model.specs.declared.systems.System.{System}
use Rattle.qp_model.specs.Told.{Event}
use Rattle.qp_model.specs.Acts.{Actor, Config, names_of}
use Rattle.qp_model.specs.Able.{task_able, chart_able}
use Rattle.qp_model.specs.Step.{whole_step}
use Rattle.qp_model.proofs.AbleLemmas.{step-able}
use Rattle.qp_kernel.specs.Stages.{is_done_task, closes}
use Rattle.qp_model.proofs.FitsLemmas.{all-append}

-- none of them is `done`
abbrev pub NoneDone : List Task → Type 0
NoneDone ts = list_all (λ t. not (is_done_task t)) ts ≡ true

none-append : (xs ys : List Task) → NoneDone xs → NoneDone ys → NoneDone (xs ++ ys)
none-append xs ys a b = all-append (λ t. not (is_done_task t)) xs ys a b

pub closes-done : (ts : List Task) → NoneDone ts → closes (ts ++ Done ∷ []) ≡ true
closes-done [] h = refl
closes-done (t ∷ []) h = by (is_done_task t) h
  where
    by : (b : Bool) → (not b && true) ≡ true → (not b && true) ≡ true
    by b h = h
closes-done (t ∷ u ∷ ts) h = by (is_done_task t) h (λ k. closes-done (u ∷ ts) k)
  where
    by : (b : Bool) → (not b && list_all (λ t. not (is_done_task t)) (u ∷ ts)) ≡ true → (NoneDone (u ∷ ts) → closes ((u ∷ ts) ++ Done ∷ []) ≡ true) → (not b && closes ((u ∷ ts) ++ Done ∷ [])) ≡ true
    by true h go = absurd (cc)
    by false h go = go h

plains-none : (ps : List Plain) → NoneDone (map Do ps)
plains-none [] = refl
plains-none (p ∷ ps) = plains-none ps

act-none : (x : Act) → NoneDone (act_tasks x)
unfolding act_tasks
act-none (act.Plain p) = refl
act-none (act.Locked c ps) = none-append (map Do ps) (Restore ∷ []) (plains-none ps) refl

acts-none : (xs : List Act) → NoneDone (tasks_of xs)
unfolding tasks_of
acts-none [] = refl
acts-none (x ∷ xs) = none-append (act_tasks x) (tasks_of xs) (act-none x) (acts-none xs)

module _ (chart : Chart) where
  part-none : (part : State → List Act) (o : Option State) → NoneDone (tasks_of (acts_at part o))
  unfolding tasks_of
  part-none part None = refl
  part-none part (Some x) = acts-none (part x)

  exits-none : (path : List ℕ) → NoneDone (exits chart path)
  unfolding exits
  exits-none [] = refl
  exits-none (s ∷ path) = none-append (tasks_of (acts_at (λ x. x.exit) (state_at chart s))) (exits chart path) (part-none (λ x. x.exit) (state_at chart s)) (exits-none path)

  entries-none : (path : List ℕ) → NoneDone (entries chart path)
  unfolding entries
  entries-none [] = refl
  entries-none (s ∷ path) = none-append (tasks_of (acts_at (λ x. x.entry) (state_at chart s))) (entries chart path) (part-none (λ x. x.entry) (state_at chart s)) (entries-none path)

  initial-none : (s t : ℕ) → NoneDone (initial chart s t)
  unfolding initial
  initial-none s t = none-append (tasks_of (acts_at (λ x. x.init_do) (state_at chart s))) (entries chart (entered chart (Some s) t)) (part-none (λ x. x.init_do) (state_at chart s)) (entries-none (entered chart (Some s) t))

  drill_to-none : (n s : ℕ) (to : Option ℕ) → NoneDone (drill_to chart n s to).tasks
  unfolding drill_to
  drill_to-none n s None = refl
  drill_to-none zero s (Some t) = refl
  drill_to-none (suc n) s (Some t) = none-append (initial chart s t) (drill_to chart n t (init_of chart t)).tasks (initial-none s t) (drill_to-none n t (init_of chart t))

  drill-none : (s : ℕ) → NoneDone (drill chart s).tasks
  unfolding drill
  drill-none s = drill_to-none (length chart.state) s (init_of chart s)

  moves-none : (leaf s : ℕ) (to : Option ℕ) → NoneDone (moves chart leaf s to).tasks
  unfolding moves transition crossing
  moves-none leaf s None = refl
  moves-none leaf s (Some t) =
      none-append (exits chart (exited chart (main_state chart s t) leaf) ++ entries chart (entered chart (main_state chart s t) t)) (drill chart t).tasks
      (none-append (exits chart (exited chart (main_state chart s t) leaf)) (entries chart (entered chart (main_state chart s t) t)) (exits-none (exited chart (main_state chart s t) leaf)) (entries-none (entered chart (main_state chart s t) t)))
      (drill-none t)

  handled-none : (leaf : ℕ) (o : Option Handler) → NoneDone (handled chart leaf o).tasks
  unfolding handled
  handled-none leaf None = refl
  handled-none leaf (Some h) = none-append (tasks_of h.row.acts) (moves chart leaf h.state h.row.to).tasks (acts-none h.row.acts) (moves-none leaf h.state h.row.to)

  pub step-closes : (leaf : ℕ) (names : Names) (sig : ℕ) → closes (step_plan chart leaf names sig).tasks ≡ true
  unfolding step_plan
  step-closes leaf names sig = closes-done (handled chart leaf (handler chart names sig leaf)).tasks (handled-none leaf (handler chart names sig leaf))

  pub start-closes : closes (start_plan chart).tasks ≡ true
  unfolding start_plan
  start-closes =
      closes-done ((Begin ∷ tasks_of chart.init_do ++ entries chart (entered chart None chart.init)) ++ (drill chart chart.init).tasks)
      (none-append (tasks_of chart.init_do ++ entries chart (entered chart None chart.init)) (drill chart chart.init).tasks
      (none-append (tasks_of chart.init_do) (entries chart (entered chart None chart.init)) (acts-none chart.init_do) (entries-none (entered chart None chart.init)))
      (drill-none chart.init))

-- a step that begins can be brought to its end
pub whole-ready : (sys : System) (a : Actor) (c : Config) (ev : Event) → chart_able sys a.chart ≡ true → (list_all (task_able sys true) (whole_step a c ev).tasks ≡ true) × (closes (whole_step a c ev).tasks ≡ true)
unfolding whole_step
whole-ready sys a c ev able = (step-able sys a.chart able c.leaf (names_of a c ev) ev.sig, step-closes a.chart c.leaf (names_of a c ev) ev.sig)
