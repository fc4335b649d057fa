use Rattle.std.specs.Prelude.{◌≤◌, length}
use Rattle.qp_kernel_turns.specs.Starting.{GrowsAlong, HaveBegun, priorities_from}
use Rattle.qp_kernel_turns.proofs.objects.Objects.start.Given as goal

-- the objects before this place rest, and the others have not started
abbrev pub invariant-loop-place : goal.invariant-loop-place
invariant-loop-place g l =
    record {
      begun : HaveBegun l.sys (priorities_from l.sys l.place) l.self (g.O.Ops.lane l.ops);
      along : GrowsAlong l.place l.initial.self (g.O.Ops.lane l.initial.ops) l.self (g.O.Ops.lane l.ops);
      few : l.place ≤ length l.sys.objects;
    }
