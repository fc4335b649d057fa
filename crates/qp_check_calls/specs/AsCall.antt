-- Calls and answers, as the definitions see them.
use Rattle.qp_model.specs.Calls as calls
use Rattle.qp_check_calls.specs.declared.call.Call.{Call}
use Rattle.qp_check_calls.specs.declared.call.Call.TheVariants as call
use Rattle.qp_check_calls.specs.declared.call.Answer.{Answer}
use Rattle.qp_check_calls.specs.declared.call.Answer.TheVariants as answer

abbrev pub as_call : Call → calls.Call
as_call (call.Post to sig pars margin reserve) = calls.Post to sig pars margin reserve
as_call (call.Lifo sig pars reserve) = calls.Lifo sig pars reserve
as_call (call.Forward to margin) = calls.Forward to margin
as_call (call.Publish sig pars reserve) = calls.Publish sig pars reserve
as_call call.Defer = calls.Defer
as_call call.Recall = calls.Recall
as_call call.Flush = calls.Flush
as_call (call.Subscribe sig) = calls.Subscribe sig
as_call (call.Unsubscribe sig) = calls.Unsubscribe sig
as_call (call.Arm timer ticks interval) = calls.Arm timer ticks interval
as_call (call.Rearm timer ticks) = calls.Rearm timer ticks
as_call (call.Disarm timer) = calls.Disarm timer

abbrev pub as_answer : Answer → calls.Answer
as_answer answer.Granted = calls.Granted
as_answer answer.Refused = calls.Refused
as_answer (answer.Flushed n) = calls.Flushed n
as_answer answer.AtQueue = calls.AtQueue
as_answer answer.AtPool = calls.AtPool
as_answer answer.AtTimer = calls.AtTimer
as_answer answer.AtTicks = calls.AtTicks
as_answer answer.AtFront = calls.AtFront
