-- Codes: the tasks of a chart by number.
use Rattle.std.specs.Prelude.{ℕ, ◌-◌, List, [], map, slice_get, Some, None}
use Rattle.std.specs.declared.option.Option.{Option}
use Rattle.qp_chart.specs.declared.actions.Plain.{Plain}
use Rattle.qp_chart.specs.declared.actions.Act.{Act}
use Rattle.qp_chart.specs.declared.actions.Act.TheVariants as act
use Rattle.qp_chart.specs.declared.checked.Row.{Row}
use Rattle.qp_chart.specs.declared.checked.Chart.{Chart}
use Rattle.qp_chart.specs.StateTree.{state_at}
use Rattle.qp_chart.specs.Handler.{rows_of}
use Rattle.qp_chart.specs.Task.{Task, Begin, Run, Unhandled, Exit, Enter, Init, Done, Do, Raise, Restore, acts_at}
use Rattle.qp_chart_compiled.specs.declared.code.ActionList.{ActionList}
use Rattle.qp_chart_compiled.specs.declared.code.ActionList.TheVariants as of
use Rattle.qp_chart_compiled.specs.declared.code.Code.{Code}
use Rattle.qp_chart_compiled.specs.declared.code.Code.TheVariants as code

-- a row of a state by its place, from 1
unfoldable pub row_at : Chart → ℕ → ℕ → Option Row
unfolding state_at
row_at chart s k = slice_get (rows_of (state_at chart s)) (k - 1)

-- the actions of a row
abbrev pub row_acts : Option Row → List Act
row_acts None = []
row_acts (Some row) = row.acts

-- the actions of a list of the chart
unfoldable pub acts_in : Chart → ActionList → List Act
unfolding state_at row_at
acts_in chart of.Start = chart.init_do
acts_in chart (of.Entry s) = acts_at (λ x. x.entry) (state_at chart s)
acts_in chart (of.Exit s) = acts_at (λ x. x.exit) (state_at chart s)
acts_in chart (of.Init s) = acts_at (λ x. x.init_do) (state_at chart s)
acts_in chart (of.Row s k) = row_acts (row_at chart s k)

-- a plain action; where there is none, nothing is left to do
abbrev pub plain_task : Option Plain → Task
plain_task None = Done
plain_task (Some p) = Do p

-- an action that stands alone
abbrev pub alone_task : Option Act → Task
alone_task None = Done
alone_task (Some (act.Plain p)) = Do p
alone_task (Some (act.Locked c acts)) = Done

-- an action within `locked`, by its place from 0
abbrev pub within_task : ℕ → Option Act → Task
within_task k None = Done
within_task k (Some (act.Plain p)) = Done
within_task k (Some (act.Locked c acts)) = plain_task (slice_get acts k)

-- the task that a code names
unfoldable pub task_at : Chart → Code → Task
unfolding acts_in
task_at chart code.Begin = Begin
task_at chart (code.Run s k) = Run s k
task_at chart code.Unhandled = Unhandled
task_at chart (code.Exit s) = Exit s
task_at chart (code.Enter s) = Enter s
task_at chart (code.Init s) = Init s
task_at chart code.Done = Done
task_at chart (code.Do list i) = alone_task (slice_get (acts_in chart list) i)
task_at chart (code.Within list i k) = within_task k (slice_get (acts_in chart list) i)
task_at chart (code.Raise c) = Raise c
task_at chart code.Restore = Restore

-- the tasks that some codes name
abbrev pub tasks_at : Chart → List Code → List Task
tasks_at chart codes = map (task_at chart) codes
