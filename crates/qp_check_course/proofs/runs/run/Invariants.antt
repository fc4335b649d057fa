use Rattle.std.proofs.Common.{◌≡◌, map, drop}
use Rattle.qp_check_calls.specs.AsPiece.{as_piece}
use Rattle.qp_check_course.specs.Machine.{state_after}
use Rattle.qp_check_course.specs.Runs.{CanRun}
use Rattle.qp_check_course.specs.AsState.{as_actor, as_state}
use Rattle.qp_check_course.proofs.runs.run.Given as goal

abbrev pub invariant-loop-piece : goal.invariant-loop-piece
invariant-loop-piece l =
    (state_after l.who.sys.now (as_actor l.who) (as_state l.state) (map as_piece (drop l.piece-index l.pieces)) ≡ state_after l.who.sys.now (as_actor l.who) (as_state l.fn.first) (map as_piece l.pieces))
    × CanRun l.who.sys.now (as_actor l.who) (as_state l.state)
