use Rattle.std.proofs.Common.{◌≡◌, length}
use Rattle.qp_calls.specs.Deferring.{FlushesSome}
use Rattle.qp_calls.proofs.deferral.flush.Given as goal

-- so many entries of the list were dropped
abbrev pub invariant-loop-i : goal.invariant-loop-i
invariant-loop-i g l =
    record {
      all : l.count ≡ length l.fn.list.entries.items;
      some : FlushesSome l._i l.fn.list l.list (g.O.Ops.lane l.fn.ops) (g.O.Ops.lane l.ops);
    }
