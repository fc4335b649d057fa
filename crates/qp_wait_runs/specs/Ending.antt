-- The lane of a source behind its turn.
use Rattle.qp_dispatch.specs.declared.objects.Turn.{Turn}
use Rattle.qp_dispatch.specs.declared.objects.Turn.TheVariants as turn
use Rattle.qp_wait.specs.Handed.{IsAway, SaysOne}
use Rattle.qp_wait.specs.declared.lane.BellLane.{BellLane}

-- it was taken off the count, and then every parker was noted
pub record GoesWithNote (old new : BellLane) : Type 0 where
  pub between : BellLane
  pub away : IsAway old between
  pub notes : SaysOne between new

-- It was taken off the count. Where the turn has stopped, every parker was noted.
abbrev pub IsOffCount : Turn → BellLane → BellLane → Type 0
IsOffCount turn.Idle old new = IsAway old new
IsOffCount turn.Stopped old new = GoesWithNote old new
IsOffCount turn.Memory old new = GoesWithNote old new
