use Rattle.qp_check_course.proofs.ReadingLemmas.{leaves-stand}
use Rattle.qp_check_course.proofs.reading.CourseReading.standing.Goals as goal

pub returns : goal.returns
returns c = λ sys d all f follow h. leaves-stand sys d c.args.self all c.standing.result c.standing.ensures f follow h
