use Rattle.std.proofs.Common.{◌≡◌, true, length}
use Rattle.std.specs.List.{list_all}
use Rattle.qp_plain.specs.Fresh.{is_fresh_log}
use Rattle.qp_plain.proofs.tables.lanes.Given as goal

abbrev pub invariant-loop : goal.invariant-loop
invariant-loop l = (list_all is_fresh_log l.logs.items ≡ true) × (length l.logs.items ≡ l.counter)
