use Rattle.std.proofs.Common.{◌≡◌, ◌++◌, drop}
use Rattle.qp_model.specs.End.{names_on}
use Rattle.qp_check_ends.proofs.resting.names_on.Given as goal

abbrev pub invariant-loop-e : goal.invariant-loop-e
invariant-loop-e l = names_on l.p l.b l.entries ≡ l.names.items ++ names_on l.p l.b (drop l.e-index l.entries)
