use Rattle.std.proofs.Common.{[]}
use Rattle.qp_dispatch.specs.Lasts.{moment_of_work}
use Rattle.qp_dispatch.specs.Runs.{Runs, object_setting, tasks_in, weight}
use Rattle.qp_dispatch.proofs.runs.run.Given as goal

-- the pieces so far
abbrev pub invariant-loop-code : goal.invariant-loop-code
invariant-loop-code g l =
    record {
      runs : Runs l.stops (object_setting l.home) (moment_of_work l.work) [] l.fn.ceiling l.ceiling l.fn.lasting l.fn.left.under (tasks_in (object_setting l.home) l.fn.left) l.lasting l.left.under (tasks_in (object_setting l.home) l.left)
          (g.O.Ops.lane l.fn.ops) (g.O.Ops.lane l.ops);
    }

abbrev pub decreases-loop-code : goal.decreases-loop-code
decreases-loop-code g l = weight l.left.under (tasks_in (object_setting l.home) l.left)
