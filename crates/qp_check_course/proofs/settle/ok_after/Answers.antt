use Rattle.std.proofs.Common.{◌≤◌, ap, arith}
use Rattle.qp_check_calls.specs.AsCall.{as_answer}
use Rattle.qp_check_course.proofs.settle.ok_after.Goals as goal

pub overflow_cast-few : goal.overflow_cast-few
overflow_cast-few c = let few : c.in-Flushed.n ≤ 255 = c.requires c.in-Flushed.n (ap as_answer c.in-Flushed.is) in omega arith
