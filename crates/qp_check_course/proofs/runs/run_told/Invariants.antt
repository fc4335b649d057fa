use Rattle.std.proofs.Common.{◌≡◌, drop}
use Rattle.qp_check_course.specs.Passing.{run_told}
use Rattle.qp_check_course.specs.Runs.{CanRun}
use Rattle.qp_check_course.specs.AsState.{as_actor, as_state}
use Rattle.qp_check_course.proofs.runs.run_told.Given as goal

abbrev pub invariant-loop-told : goal.invariant-loop-told
invariant-loop-told l =
    (run_told l.who.sys.now (as_actor l.who) (as_state l.state) (drop l.told-index l.records) ≡ run_told l.who.sys.now (as_actor l.who) (as_state l.fn.first) l.records)
    × CanRun l.who.sys.now (as_actor l.who) (as_state l.state)
