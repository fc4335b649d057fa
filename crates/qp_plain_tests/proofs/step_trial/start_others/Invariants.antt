use Rattle.qp_plain_tests.specs.StepTrial.{IsBase}
use Rattle.qp_plain_tests.proofs.step_trial.start_others.Given as goal

-- a trial may go on with this ceiling
abbrev pub invariant-loop-p : goal.invariant-loop-p
invariant-loop-p g l = record { base : IsBase l.fn.sys l.ceiling (g.O.Ops.lane l.ops) }
