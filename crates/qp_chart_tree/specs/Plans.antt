-- Tasks that are added to others.
use Rattle.std.specs.Prelude.{◌≡◌, ℕ, List, ◌++◌}
use Rattle.qp_chart.specs.Task.{Task}
use Rattle.qp_chart.specs.Drill.{Plan}

-- the tasks of the plan stand behind the old ones, and its leaf is told
pub record AddsTasks (plan : Plan) (old new : List Task) (after : ℕ) : Type 0 where
  pub tasks : new ≡ old ++ plan.tasks
  pub leaf : after ≡ plan.leaf
