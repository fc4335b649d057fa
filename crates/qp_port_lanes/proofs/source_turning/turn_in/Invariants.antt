use Rattle.std.proofs.Common.{◌≡◌}
use Rattle.qp_told.specs.Steps.{TellsSteps}
use Rattle.qp_port_lanes.specs.SourceTurning.{CursorGoes}
use Rattle.qp_port_lanes.proofs.source_turning.turn_in.Given as goal

-- so many stimuli have begun
abbrev pub invariant-loop-k : goal.invariant-loop-k
invariant-loop-k g l =
    record {
      goes : CursorGoes l.fn.sys l.fn.source l.source (g.O.Ops.lane l.fn.ops) (g.O.Ops.lane l.ops);
      at : l.source.begun ≡ l._k;
      tells : TellsSteps l.fn.source.begun l.source.begun l.fn.gate.steps.list l.gate.steps.list;
    }
