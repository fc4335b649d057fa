use Rattle.qp_check_course.specs.CourseLaws.{RecordsAreDecided}
use Rattle.qp_check_course.proofs.FollowLemmas.{records-decided}
use Rattle.qp_check_course.proofs.course_laws.records_are_decided.Goals as goal

pub returns : goal.returns
unfolding RecordsAreDecided
returns c = records-decided
