use Rattle.std.proofs.Common.{◌≡◌, false}
use Rattle.qp_kernel_turns.specs.Lanes.{LaneGoes}
use Rattle.qp_told.specs.Steps.{TellsSteps}
use Rattle.qp_port_lanes.specs.At.{IsHome}
use Rattle.qp_port_lanes.specs.Turning.{NeverEmpty}
use Rattle.qp_port_lanes.proofs.turning.rounds.Given as goal

-- the object rests
abbrev pub invariant-loop : goal.invariant-loop
invariant-loop g l =
    record {
      home : IsHome l.fn.sys l.fn.budget l.home (g.O.Ops.lane l.ops);
      lane : LaneGoes false (g.O.Ops.lane l.fn.ops) (g.O.Ops.lane l.ops);
      never : NeverEmpty (g.O.Ops.lane l.fn.ops) (g.O.Ops.lane l.ops);
      same : l.home.me ≡ l.fn.home.me;
      tells : TellsSteps l.fn.home.object.taken l.home.object.taken l.fn.gate.steps.list l.gate.steps.list;
    }
