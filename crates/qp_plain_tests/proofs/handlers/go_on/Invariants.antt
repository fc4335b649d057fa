use Rattle.std.proofs.Common.{◌≡◌}
use Rattle.qp_calls.specs.Clauses.{EntryStands, entry_of}
use Rattle.qp_calls.specs.Publishing.{MembersAreObjects}
use Rattle.qp_plain_tests.specs.Desk.{Steady}
use Rattle.qp_plain_tests.proofs.handlers.go_on.Given as goal

-- the publication goes on with the same entry, and no token has changed
abbrev pub invariant-loop-member : goal.invariant-loop-member
invariant-loop-member g l =
    record {
      same : entry_of l.going.entry ≡ entry_of l.fn.p.entry;
      objects : MembersAreObjects (g.O.Ops.lane l.ops).sys l.going.left;
      stands : EntryStands l.going.entry (g.O.Ops.lane l.ops);
      steady : Steady (g.O.Ops.lane l.fn.ops) (g.O.Ops.lane l.ops);
    }
