use Rattle.qp_check_course.specs.AsState.{as_actor, as_way}
use Rattle.qp_check_course.proofs.CanLemmas.{whole-few}
use Rattle.qp_check_course.proofs.tell.posted.Goals as goal

pub resume-requires-clause-flushed : goal.resume-requires-clause-flushed
resume-requires-clause-flushed c = whole-few c.args.who.now.sys.now (as_actor c.args.who.now) (as_way c.args.way) c.args.rest c.requires.can c.requires.able.room
