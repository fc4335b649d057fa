-- Tasks, as the definition of an agenda sees them.
use Rattle.std.specs.Prelude.{List, map}
use Rattle.qp_chart.specs.Task as task
use Rattle.qp_check_course.specs.declared.tasks.CourseTask.{CourseTask}
use Rattle.qp_check_course.specs.declared.tasks.CourseTask.TheVariants as own

abbrev pub as_course_task : CourseTask → task.Task
as_course_task own.Begin = task.Begin
as_course_task (own.Run s k) = task.Run s k
as_course_task own.Unhandled = task.Unhandled
as_course_task (own.Exit s) = task.Exit s
as_course_task (own.Enter s) = task.Enter s
as_course_task (own.Init s) = task.Init s
as_course_task own.Done = task.Done
as_course_task (own.Do p) = task.Do p.now
as_course_task (own.Raise c) = task.Raise c
as_course_task own.Restore = task.Restore

abbrev pub as_tasks : List CourseTask → List task.Task
as_tasks tasks = map as_course_task tasks
