use Rattle.std.proofs.Common.{◌≡◌, length}
use Rattle.qp_plain.proofs.tables.cells.Given as goal

abbrev pub invariant-loop : goal.invariant-loop
invariant-loop l = length l.events.items ≡ l.counter
