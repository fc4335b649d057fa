use Rattle.std.proofs.Common.{◌≡◌, map, take}
use Rattle.qp_model.specs.Home.{by_object}
use Rattle.qp_model.specs.Lawful.{facts_of}
use Rattle.qp_check.proofs.object_tests.all_records.Given as goal

abbrev pub invariant-loop-d : goal.invariant-loop-d
invariant-loop-d l = l.all.items ≡ take l.d-index (map (λ d. by_object (facts_of l.sys l.j) l.j d.priority) l.d-items)
