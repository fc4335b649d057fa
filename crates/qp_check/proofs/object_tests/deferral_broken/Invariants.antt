use Rattle.std.proofs.Common.{IsTrue}
use Rattle.qp_model.specs.Lawful.{deferral_holds}
use Rattle.qp_check.proofs.FindLemmas.{From}
use Rattle.qp_check.proofs.object_tests.deferral_broken.Given as goal

abbrev pub invariant-loop-d : goal.invariant-loop-d
invariant-loop-d l = From 17 (λ d. IsTrue (deferral_holds l.sys l.j d)) l.d-items l.d-index
