use Rattle.qp_model.proofs.CourseLawLemmas.{nothing_follows_an_assertion as law}
use Rattle.qp_model.proofs.courses.nothing_follows_an_assertion.Goals as goal

pub returns : goal.returns
returns c = law
