-- Stages, as the definitions see them.
use Rattle.qp_check_calls.specs.CallState as rest
use Rattle.qp_check_calls.specs.AsCall.{as_call, as_answer}
use Rattle.qp_check_calls.specs.declared.stage.Behind.{Behind}
use Rattle.qp_check_calls.specs.declared.stage.Behind.TheVariants as behind
use Rattle.qp_check_calls.specs.declared.stage.Goal.{Goal}
use Rattle.qp_check_calls.specs.declared.stage.Goal.TheVariants as goal
use Rattle.qp_check_calls.specs.declared.stage.CallStage.{CallStage}
use Rattle.qp_check_calls.specs.declared.stage.CallStage.TheVariants as stage

abbrev pub as_behind : Behind → rest.Behind
as_behind (behind.Ends answer) = rest.Ends (as_answer answer)
as_behind (behind.FlushesOn total) = rest.FlushesOn total
as_behind (behind.PublishesOn own former others) = rest.PublishesOn own former others

abbrev pub as_goal : Goal → rest.Goal
as_goal (goal.ToQueue to margin more) = rest.ToQueue to margin (as_behind more)
as_goal (goal.ToFront recalled) = rest.ToFront recalled
as_goal goal.ToDeferred = rest.ToDeferred
as_goal (goal.ToSet sig) = rest.ToSet sig

abbrev pub as_stage : CallStage → rest.CallStage
as_stage (stage.Begins room call) = rest.Begins room (as_call call)
as_stage (stage.Refers p b to) = rest.Refers p b (as_goal to)
as_stage (stage.Puts to e) = rest.Puts (as_goal to) e
as_stage (stage.Raises own a others) = rest.Raises own a others
as_stage (stage.Restores own former) = rest.Restores own former
as_stage (stage.Drops e more) = rest.Drops e (as_behind more)
as_stage (stage.Returns p b d more) = rest.Returns p b d (as_behind more)
as_stage (stage.Flushes total) = rest.Flushes total
as_stage (stage.Whole answer) = rest.Whole (as_answer answer)
