use Rattle.std.proofs.Common.{◌∙◌}
use Rattle.qp_check_calls.specs.AsPiece.{as_cut}
use Rattle.qp_check.proofs.ObjectTestLemmas.{course-is}
use Rattle.qp_check.proofs.object_tests.has_its_course.Goals as goal

pub returns : goal.returns
returns c =
    course-is c.args.sys.now c.args.j.now c.args.d.now (as_cut c.cut_of-cut.result) c.deref.result.now c.cut_of-cut.ensures (c.deref.ensures.value ∙ c.told.view_is ∙ c.requires.told)
    c.in_ok-follows.follows c.in_ok-follows.ensures
