use Rattle.qp_model.proofs.CourseLawLemmas.{courses_have_their_shape as law}
use Rattle.qp_model.proofs.courses.courses_have_their_shape.Goals as goal

pub returns : goal.returns
returns c = law
