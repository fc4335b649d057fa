use Rattle.std.proofs.Common.{◌≡◌}
use Rattle.qp_plain.specs.Fresh.{tabulated, first_queue}
use Rattle.qp_plain.proofs.tables.queues.Given as goal

abbrev pub invariant-loop-a : goal.invariant-loop-a
invariant-loop-a l = l.words.items ≡ tabulated (first_queue l.sys) l.a
