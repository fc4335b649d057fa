use Rattle.qp_model.specs.Lawful.{CourseHolds}
use Rattle.qp_check.proofs.FindLemmas.{From}
use Rattle.qp_check.proofs.object_tests.course_broken.Given as goal

abbrev pub invariant-loop-i : goal.invariant-loop-i
invariant-loop-i l = From 7 (CourseHolds l.sys l.j) l.d-items l.i
