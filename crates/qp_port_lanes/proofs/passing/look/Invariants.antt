use Rattle.std.proofs.Common.{map, take}
use Rattle.std.specs.List.{AllByRecursion}
use Rattle.qp_port_lanes.specs.Passing.{Glances, IsClear}
use Rattle.qp_port_lanes.proofs.passing.look.Given as goal

-- the objects so far
abbrev pub invariant-loop-d : goal.invariant-loop-d
invariant-loop-d g l =
    record {
      along : Glances (g.O.Ops.lane l.fn.ops) (g.O.Ops.lane l.ops);
      clear : AllByRecursion (IsClear (g.O.Ops.lane l.ops)) (map (λ x. x.priority) (take l.d-index l.sys.objects));
    }
