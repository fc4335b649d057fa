use Rattle.std.proofs.Common.{◌≡◌, length}
use Rattle.qp_table.specs.Counting.{Each}
use Rattle.qp_shared.specs.Starting.{IsBareLog}
use Rattle.qp_shared.proofs.starting.new_logs.Given as goal

abbrev pub invariant-loop-at : goal.invariant-loop-at
invariant-loop-at l = (length l.logs.items ≡ l.at) × Each IsBareLog l.logs.items
