-- What a step or a start is to do: notes and actions, one by one.
use Rattle.std.specs.Prelude.{ℕ, List, [], ◌∷◌, ◌++◌, map}
use Rattle.std.specs.Prelude.{Some, None}
use Rattle.std.specs.declared.option.Option.{Option}
use Rattle.qp_chart.specs.declared.actions.Plain.{Plain}
use Rattle.qp_chart.specs.declared.actions.Act.{Act}
use Rattle.qp_chart.specs.declared.actions.Act.TheVariants as act
use Rattle.qp_chart.specs.declared.checked.State.{State}
use Rattle.qp_chart.specs.declared.checked.Chart.{Chart}
use Rattle.qp_chart.specs.StateTree.{state_at}

pub data Task : Type 0 where
  Begin : Task
  Run : (state place : ℕ) → Task
  -- no state handles the event
  Unhandled : Task
  Exit : (state : ℕ) → Task
  Enter : (state : ℕ) → Task
  Init : (state : ℕ) → Task
  Done : Task
  Do : (plain : Plain) → Task
  -- the ceiling is raised, and the former one comes back
  Raise : (ceiling : ℕ) → Task
  Restore : Task

-- an action; `locked` is its marks round its actions
unfoldable pub act_tasks : Act → List Task
act_tasks (act.Plain p) = Do p ∷ []
act_tasks (act.Locked c acts) = Raise c ∷ map Do acts ++ Restore ∷ []

-- the actions of a list, in order
unfoldable pub tasks_of : List Act → List Task
unfolding act_tasks
tasks_of [] = []
tasks_of (a ∷ acts) = act_tasks a ++ tasks_of acts

-- the actions of one kind of a state
abbrev pub acts_at : (State → List Act) → Option State → List Act
acts_at part None = []
acts_at part (Some s) = part s

-- each state's exit note, then its exit actions
unfoldable pub exits : Chart → List ℕ → List Task
unfolding state_at tasks_of
exits chart [] = []
exits chart (s ∷ path) = Exit s ∷ tasks_of (acts_at (λ x. x.exit) (state_at chart s)) ++ exits chart path

-- each state's entry note, then its entry actions
unfoldable pub entries : Chart → List ℕ → List Task
unfolding state_at tasks_of
entries chart [] = []
entries chart (s ∷ path) = Enter s ∷ tasks_of (acts_at (λ x. x.entry) (state_at chart s)) ++ entries chart path
