use Rattle.qp_model.proofs.CourseLawLemmas.{courses_keep_their_list as law}
use Rattle.qp_model.proofs.courses.courses_keep_their_list.Goals as goal

pub returns : goal.returns
returns c = law
