use Rattle.qp_model.specs.Lawful.{ShapesHold}
use Rattle.qp_check.proofs.FindLemmas.{From}
use Rattle.qp_check.proofs.object_tests.shapes_broken.Given as goal

abbrev pub invariant-loop-i : goal.invariant-loop-i
invariant-loop-i l = From 15 (ShapesHold l.sys l.j) l.d-items l.i
