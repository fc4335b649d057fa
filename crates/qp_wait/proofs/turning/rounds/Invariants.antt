use Rattle.std.proofs.Common.{◌≡◌, false}
use Rattle.qp_kernel_turns.specs.Lanes.{LaneGoes}
use Rattle.qp_told.specs.Steps.{TellsSteps}
use Rattle.qp_port_lanes.specs.At.{IsHome}
use Rattle.qp_wait.specs.Lane.{bell_view}
use Rattle.qp_wait.specs.Waiting.{IsWaiting}
use Rattle.qp_wait.proofs.turning.rounds.Given as goal

-- the object rests
abbrev pub invariant-loop : goal.invariant-loop
invariant-loop g l =
    record {
      home : IsHome l.fn.sys l.fn.budget l.home (bell_view l.lane);
      lane : LaneGoes false (bell_view l.fn.lane) (bell_view l.lane);
      same : l.home.me ≡ l.fn.home.me;
      tells : TellsSteps l.fn.home.object.taken l.home.object.taken l.fn.gate.steps.list l.gate.steps.list;
      waits : IsWaiting l.said l.fn.lane l.lane;
    }
