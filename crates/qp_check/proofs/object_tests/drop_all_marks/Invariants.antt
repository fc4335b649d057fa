use Rattle.std.proofs.Common.{◌≡◌, ◌++◌, map, take, drop}
use Rattle.qp_model.specs.Lawful.{dispatched}
use Rattle.qp_check.proofs.object_tests.drop_all_marks.Given as goal

abbrev pub invariant-loop-records : goal.invariant-loop-records
invariant-loop-records l = l.all ≡ map dispatched (take l.records-index l.initial.all) ++ drop l.records-index l.initial.all
