-- Tasks, as the definition of an agenda sees them.
use Rattle.std.specs.Prelude.{List, [], ◌∷◌, Some, None}
use Rattle.std.specs.declared.option.Option.{Option}
use Rattle.qp_chart.specs.Task as task
use Rattle.qp_chart_compiled.specs.declared.task.Task.{Task}
use Rattle.qp_chart_compiled.specs.declared.task.Task.TheVariants as own

-- a task, without where its action lies in memory
abbrev pub as_task : Task → task.Task
as_task own.Begin = task.Begin
as_task (own.Run s k) = task.Run s k
as_task own.Unhandled = task.Unhandled
as_task (own.Exit s) = task.Exit s
as_task (own.Enter s) = task.Enter s
as_task (own.Init s) = task.Init s
as_task own.Done = task.Done
as_task (own.Do p) = task.Do p.now
as_task (own.Raise c) = task.Raise c
as_task own.Restore = task.Restore

-- the first of some tasks
abbrev pub first_task : List task.Task → Option task.Task
first_task [] = None
first_task (t ∷ ts) = Some t
