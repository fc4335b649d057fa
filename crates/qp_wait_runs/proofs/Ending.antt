-- The lane of a source behind its turn, by the turn's answer.
use Rattle.std.proofs.Common.{◌≡◌, true, false}
use Rattle.qp_dispatch.specs.declared.objects.Turn.{Turn}
use Rattle.qp_dispatch.specs.declared.objects.Turn.TheVariants as turn
use Rattle.qp_port_lanes.specs.Answers.{is_idle}
use Rattle.qp_wait.specs.Handed.{IsAway, SaysOne}
use Rattle.qp_wait.specs.declared.lane.BellLane.{BellLane}
use Rattle.qp_wait_runs.specs.Ending.{IsOffCount}

pub off-count : (t : Turn) (a b : BellLane) → is_idle t ≡ true → IsAway a b → IsOffCount t a b
off-count turn.Idle a b idle away = away
off-count turn.Stopped a b idle away = absurd (cc)
off-count turn.Memory a b idle away = absurd (cc)

pub off-with-note : (t : Turn) (a b c : BellLane) → is_idle t ≡ false → IsAway a b → SaysOne b c → IsOffCount t a c
off-with-note turn.Idle a b c stopped away says = absurd (cc)
off-with-note turn.Stopped a b c stopped away says = record { between = b; away = away; notes = says }
off-with-note turn.Memory a b c stopped away says = record { between = b; away = away; notes = says }
