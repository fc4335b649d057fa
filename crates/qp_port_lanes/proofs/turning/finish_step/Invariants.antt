use Rattle.std.proofs.Common.{Bool, ◌+◌, ◌≡◌, ◌≤◌, false}
use Rattle.qp_kernel_turns.specs.Lanes.{LaneGoes}
use Rattle.qp_port_lanes.specs.At.{IsBusyHome}
use Rattle.qp_port_lanes.specs.Takes.{AddsNoTake}
use Rattle.qp_port_lanes.specs.Turning.{NeverEmpty}
use Rattle.qp_port_lanes.proofs.turning.finish_step.Given as goal

-- the step is under way
abbrev pub invariant-loop : goal.invariant-loop
invariant-loop g l =
    record {
      waits : Bool;
      busy : IsBusyHome l.fn.sys l.fn.budget waits l.home (g.O.Ops.lane l.ops);
      lane : LaneGoes false (g.O.Ops.lane l.fn.ops) (g.O.Ops.lane l.ops);
      never : NeverEmpty (g.O.Ops.lane l.fn.ops) (g.O.Ops.lane l.ops);
      same : l.home.me ≡ l.fn.home.me;
      takes : AddsNoTake (g.O.Ops.lane l.fn.ops).told (g.O.Ops.lane l.ops).told;
      under_way : l.home.busy ≡ l.fn.home.busy;
      asked : l.home.object.taken + busy.points ≤ (g.O.Ops.lane l.ops).asked;
      kept : l.home.object.taken ≡ l.fn.home.object.taken;
    }
