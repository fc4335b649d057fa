use Rattle.qp_calls.specs.Clauses.{EntryStands, entry_of}
use Rattle.qp_calls.specs.Publishing.{PostsSome}
use Rattle.qp_calls.proofs.publishing.post_all.Given as goal

-- the posts so far
abbrev pub invariant-loop-left : goal.invariant-loop-left
invariant-loop-left g l =
    record {
      stands : EntryStands l.entry (g.O.Ops.lane l.ops);
      some : PostsSome (entry_of l.entry) l.all l.left (g.O.Ops.lane l.fn.ops) (g.O.Ops.lane l.ops);
    }

abbrev pub decreases-loop-left : goal.decreases-loop-left
decreases-loop-left g l = l.left
