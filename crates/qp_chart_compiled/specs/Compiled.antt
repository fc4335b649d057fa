-- What a compiled chart has of its chart.
use Rattle.std.specs.Prelude.{◌≡◌, ℕ, suc, ◌-◌, ◌<◌, ◌≤◌, List, [], ◌∷◌, length, take, drop, slice_get, Some, None}
use Rattle.std.specs.declared.option.Option.{Option}
use Rattle.std.specs.List.{filter}
use Rattle.qp_chart.specs.declared.checked.Chart.{Chart}
use Rattle.qp_chart_names.specs.Pairs.{Corresponds}
use Rattle.qp_chart.specs.StateTree.{up}
use Rattle.qp_chart.specs.Handler.{Handler}
use Rattle.qp_chart.specs.Task.{Task, Unhandled, Done}
use Rattle.qp_chart.specs.Drill as drill
use Rattle.qp_chart.specs.Agenda.{handled, ended, start_plan}
use Rattle.qp_chart_compiled.specs.Codes.{row_at, tasks_at}
use Rattle.qp_chart_compiled.specs.Rows.{rows_on, leaves_rest}
use Rattle.qp_chart_compiled.specs.declared.agenda.Agenda.{Agenda}
use Rattle.qp_chart_compiled.specs.declared.agenda.Plan.{Plan}
use Rattle.qp_chart_compiled.specs.declared.choice.Choice.{Choice}
use Rattle.qp_chart_compiled.specs.declared.choice.Choices.{Choices}
use Rattle.qp_chart_compiled.specs.declared.choice.Leaf.{Leaf}
use Rattle.qp_chart_compiled.specs.declared.compiled.Compiled.{Compiled}

-- what stands from one place to another
abbrev pub between : ℕ → ℕ → List Task → List Task
between from to ts = take (to - from) (drop from ts)

-- the tasks left of an agenda, where these are the tasks of all codes
abbrev pub tasks_left_of : List Task → Agenda → List Task
tasks_left_of ts agenda = between agenda.from agenda.to ts

-- the tasks left of an agenda
unfoldable pub tasks_left_in : Chart → Compiled → Agenda → List Task
unfolding tasks_at
tasks_left_in chart c agenda = tasks_left_of (tasks_at chart c.codes.items) agenda

-- the plan among all tasks: its tasks, and the leaf after them
pub record IsPlan (ts : List Task) (whole : drill.Plan) (plan : Plan) : Type 0 where
  pub inside : plan.agenda.to ≤ length ts
  pub tasks : tasks_left_of ts plan.agenda ≡ whole.tasks
  pub leaf : plan.leaf ≡ whole.leaf

-- a row that may handle an event at this leaf, and what is done where it does
pub record IsChoice (chart : Chart) (ts : List Task) (leaf : ℕ) (h : Handler) (choice : Choice) : Type 0 where
  pub state : choice.state ≡ h.state
  pub place : choice.place ≡ h.place
  pub row : row_at chart h.state h.place ≡ Some h.row
  pub plan : IsPlan ts (ended (handled chart leaf (Some h))) choice.plan

-- the rows on the leaf's path whose signals leave this rest, in order
abbrev pub IsClass : Chart → List Task → (width leaf rest : ℕ) → List Choice → Type 0
IsClass chart ts width leaf rest choices = Corresponds (IsChoice chart ts leaf) (filter (leaves_rest width rest) (rows_on chart (up chart leaf))) choices

abbrev pub choices_of : Option Choices → List Choice
choices_of None = []
choices_of (Some choices) = choices.items.items

-- the choices of one rest
abbrev pub choices_in : List Choices → ℕ → List Choice
choices_in classes rest = choices_of (slice_get classes rest)

abbrev pub classes_of : Option Leaf → List Choices
classes_of None = []
classes_of (Some leaf) = leaf.classes.items

-- the choices of a leaf
abbrev pub classes_at : List Leaf → ℕ → List Choices
classes_at leaves leaf = classes_of (slice_get leaves leaf)

-- the choices of each rest
abbrev pub AreClasses : Chart → List Task → (width leaf : ℕ) → List Choices → Type 0
AreClasses chart ts width leaf classes = (rest : ℕ) → rest < length classes → IsClass chart ts width leaf rest (choices_in classes rest)

-- the choices of a leaf, for all rests
pub record IsLeaf (chart : Chart) (ts : List Task) (width leaf : ℕ) (classes : List Choices) : Type 0 where
  pub whole : length classes ≡ width
  pub each : AreClasses chart ts width leaf classes

-- the choices of each leaf
abbrev pub AreLeaves : Chart → List Task → ℕ → List Leaf → Type 0
AreLeaves chart ts width leaves = (leaf : ℕ) → leaf < length leaves → IsLeaf chart ts width leaf (classes_at leaves leaf)

-- a chart is compiled: its start, what is done where no row is open, and the choices of each leaf
pub record IsCompiled (chart : Chart) (c : Compiled) : Type 0 where
  pub start : IsPlan (tasks_at chart c.codes.items) (start_plan chart) c.start
  pub unhandled : tasks_left_of (tasks_at chart c.codes.items) c.unhandled ≡ Unhandled ∷ Done ∷ []
  pub some : 1 ≤ c.width
  pub whole : length c.leaves.items ≡ suc (length chart.state)
  pub each : AreLeaves chart (tasks_at chart c.codes.items) c.width c.leaves.items
