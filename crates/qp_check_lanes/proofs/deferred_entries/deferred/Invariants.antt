use Rattle.std.proofs.Common.{◌≡◌, ◌++◌, drop}
use Rattle.qp_model.specs.Lawful.{deferred_of}
use Rattle.qp_check_lanes.proofs.deferred_entries.deferred.Given as goal

abbrev pub invariant-loop-d : goal.invariant-loop-d
invariant-loop-d l = l.all.items ++ deferred_of l.sys l.j (drop l.d-index l.d-items) ≡ deferred_of l.sys l.j l.d-items
