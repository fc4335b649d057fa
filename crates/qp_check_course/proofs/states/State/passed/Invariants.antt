use Rattle.std.proofs.Common.{◌≡◌}
use Rattle.qp_check_course.specs.Passing.{pass}
use Rattle.qp_check_course.specs.Runs.{CanRun}
use Rattle.qp_check_course.specs.AsState.{as_actor, as_state}
use Rattle.qp_check_course.proofs.LoopLemmas.{points_left}
use Rattle.qp_check_course.proofs.states.State.passed.Given as goal

abbrev pub invariant-points : goal.invariant-points
invariant-points l = (pass (as_actor l.who) (as_state l.state) ≡ pass (as_actor l.who) (as_state l.fn.self)) × CanRun l.who.sys.now (as_actor l.who) (as_state l.state)

abbrev pub decreases-points : goal.decreases-points
decreases-points l = points_left (as_state l.state)
