use Rattle.qp_check_course.specs.AsState.{as_actor, as_way}
use Rattle.qp_check_course.proofs.CanLemmas.{whole-few}
use Rattle.qp_check_course.proofs.states.State.point.Goals as goal

pub resume-requires-clause-flushed : goal.resume-requires-clause-flushed
resume-requires-clause-flushed c =
    let run = rw c.in-AtPost.is at c.requires.can in
    whole-few c.args.who.now.sys.now (as_actor c.args.who.now) (as_way c.in-AtPost.way) c.in-AtPost.rest run.ready.0 c.requires.able.room
