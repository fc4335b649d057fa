use Rattle.qp_check_course.specs.CourseLaws.{PiecesAreDecided}
use Rattle.qp_check_course.proofs.FollowLemmas.{pieces-decided}
use Rattle.qp_check_course.proofs.course_laws.pieces_are_decided.Goals as goal

pub returns : goal.returns
unfolding PiecesAreDecided
returns c = pieces-decided
