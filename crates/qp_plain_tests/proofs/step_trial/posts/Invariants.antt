use Rattle.qp_plain_tests.specs.StepTrial.{IsBase}
use Rattle.qp_plain_tests.proofs.step_trial.posts.Given as goal

-- a trial may go on
abbrev pub invariant-loop-to : goal.invariant-loop-to
invariant-loop-to g l = record { base : IsBase l.fn.sys 0 (g.O.Ops.lane l.ops) }
