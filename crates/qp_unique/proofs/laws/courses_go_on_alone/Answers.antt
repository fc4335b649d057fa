use Rattle.qp_unique.proofs.CourseLemmas.{course_goes_on_alone as law}
use Rattle.qp_unique.proofs.laws.courses_go_on_alone.Goals as goal

pub returns : goal.returns
returns c = law
