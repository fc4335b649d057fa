-- Initial transitions, taken until a state has none.
use Rattle.std.specs.Prelude.{ℕ, zero, suc, List, [], ◌∷◌, ◌++◌, length}
use Rattle.std.specs.Prelude.{Some, None}
use Rattle.std.specs.Option.{option_and_then}
use Rattle.std.specs.declared.option.Option.{Option}
use Rattle.qp_chart.specs.declared.checked.Chart.{Chart}
use Rattle.qp_chart.specs.StateTree.{state_at}
use Rattle.qp_chart.specs.MainState.{entered}
use Rattle.qp_chart.specs.Task.{Task, Init, acts_at, tasks_of, entries}

-- some tasks, and the leaf after them
pub record Plan : Type 0 where
  pub tasks : List Task
  pub leaf : ℕ

abbrev pub plan_before : List Task → Plan → Plan
plan_before tasks plan = record { tasks = tasks ++ plan.tasks; leaf = plan.leaf }

-- the initial target of a state
unfoldable pub init_of : Chart → ℕ → Option ℕ
unfolding state_at
init_of chart s = option_and_then (λ x. x.init) (state_at chart s)

-- the note of s, its initial actions, and the entries down to its initial target t
unfoldable pub initial : Chart → ℕ → ℕ → List Task
unfolding entered entries state_at tasks_of
initial chart s t = Init s ∷ tasks_of (acts_at (λ x. x.init_do) (state_at chart s)) ++ entries chart (entered chart (Some s) t)

-- at most n initial transitions, the first from s to the target
unfoldable pub drill_to : Chart → ℕ → ℕ → Option ℕ → Plan
unfolding init_of initial
drill_to chart n s None = record { tasks = []; leaf = s }
drill_to chart zero s (Some t) = record { tasks = []; leaf = s }
drill_to chart (suc n) s (Some t) = plan_before (initial chart s t) (drill_to chart n t (init_of chart t))

-- the initial transitions from s on, and the leaf after them: each goes down the tree, so there are fewer than states
unfoldable pub drill : Chart → ℕ → Plan
unfolding drill_to init_of
drill chart s = drill_to chart (length chart.state) s (init_of chart s)
