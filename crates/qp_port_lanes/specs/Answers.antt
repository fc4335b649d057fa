-- Answers of turns.
use Rattle.std.specs.Prelude.{◌≡◌, ◌==◌, Bool, true, false}
use Rattle.std.specs.List.{list_any}
use Rattle.qp_calls.specs.LaneView.{LaneView}
use Rattle.qp_dispatch.specs.declared.objects.Turn.{Turn}
use Rattle.qp_dispatch.specs.declared.objects.Turn.TheVariants as turn
use Rattle.qp_port_phases.specs.declared.lanes.Passed.{Passed}
use Rattle.qp_port_phases.specs.declared.lanes.Passed.TheVariants as passed
use Rattle.qp_model.specs.Stops as stop

abbrev pub is_idle : Turn → Bool
is_idle turn.Idle = true
is_idle turn.Stopped = false
is_idle turn.Memory = false

abbrev pub is_short : Turn → Bool
is_short turn.Idle = false
is_short turn.Stopped = false
is_short turn.Memory = true

-- the answer of a turn that ended so
abbrev pub turn_by : Passed → Turn
turn_by passed.Yes = turn.Idle
turn_by (passed.Found p now) = turn.Idle
turn_by passed.Stopped = turn.Stopped
turn_by passed.Memory = turn.Memory

-- no 7 was handed in, which tells of want of memory
abbrev pub IsFed : LaneView → Type 0
IsFed v = list_any (λ code. code == stop.memory) v.stops ≡ false

-- a turn with this answer handed in none, unless memory was refused in it
abbrev pub Feeds : LaneView → LaneView → Turn → Type 0
Feeds v w t = is_short t ≡ false → IsFed v → IsFed w
