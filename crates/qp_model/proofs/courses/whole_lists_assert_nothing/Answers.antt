use Rattle.qp_model.proofs.CourseLawLemmas.{whole_lists_assert_nothing as law}
use Rattle.qp_model.proofs.courses.whole_lists_assert_nothing.Goals as goal

pub returns : goal.returns
returns c = law
