use Rattle.qp_plain_tests.specs.StepTrial.{IsOnItsWay}
use Rattle.qp_plain_tests.proofs.step_trial.one_step.Given as goal

-- the object stands within its step
abbrev pub invariant-loop-i : goal.invariant-loop-i
invariant-loop-i g l = record { way : IsOnItsWay l.fn.sys l.actor (g.O.Ops.lane l.ops) }
