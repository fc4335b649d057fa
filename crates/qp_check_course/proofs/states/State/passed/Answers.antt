use Rattle.std.proofs.Common.{subst, sym, ◌∙◌}
use Rattle.qp_check_course.specs.Runs.{CanRun}
use Rattle.qp_check_course.specs.AsState.{as_actor, as_state}
use Rattle.qp_check_course.proofs.PassLemmas.{pass-point}
use Rattle.qp_check_course.proofs.LoopLemmas.{point-fewer, pass-stays, point-can}
use Rattle.qp_check_course.proofs.states.State.passed.Goals as goal

pub points-preserved : goal.points-preserved
points-preserved c =
    let a = as_actor c.args.who.now in (
      pass-point a (as_state c.points.state) (as_state c.in-Ok.later) c.in-Ok.ensures ∙ c.points.invariant.0,
      point-can c.args.who.now.sys.now a c.requires.able (as_state c.points.state) (as_state c.in-Ok.later) c.in-Ok.ensures c.points.invariant.1,
    )

pub points-smaller : goal.points-smaller
points-smaller c = point-fewer (as_actor c.args.who.now) (as_state c.points.state) (as_state c.in-Ok.later) c.in-Ok.ensures

pub returns-in-Err-clause-is : goal.returns-in-Err-clause-is
returns-in-Err-clause-is c =
    pass-stays (as_actor c.args.who.now) (as_state c.points.state) (as_state c.in-Err.same) _ c.in-Err.ensures.0 c.in-Err.ensures.1 c.points.invariant.0

pub returns-in-Err-clause-can : goal.returns-in-Err-clause-can
returns-in-Err-clause-can c = subst (CanRun c.args.who.now.sys.now (as_actor c.args.who.now)) (sym c.in-Err.ensures.0) c.points.invariant.1
