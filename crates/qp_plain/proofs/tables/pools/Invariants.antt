use Rattle.std.proofs.Common.{◌≡◌}
use Rattle.qp_plain.specs.Fresh.{tabulated, free_pool}
use Rattle.qp_plain.proofs.tables.pools.Given as goal

abbrev pub invariant-loop-k : goal.invariant-loop-k
invariant-loop-k l = l.words.items ≡ tabulated (free_pool l.sys) l.k
