use Rattle.std.proofs.Common.{◌≡◌}
use Rattle.qp_plain.specs.Fresh.{tabulated}
use Rattle.qp_plain.specs.Tables.{no_clock}
use Rattle.qp_plain.proofs.tables.timers.Given as goal

abbrev pub invariant-loop : goal.invariant-loop
invariant-loop l = l.words.items ≡ tabulated (λ k. no_clock) l.counter
