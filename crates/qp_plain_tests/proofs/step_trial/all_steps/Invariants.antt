use Rattle.qp_plain_tests.specs.StepTrial.{IsResting}
use Rattle.qp_plain_tests.proofs.step_trial.all_steps.Given as goal

-- the object rests
abbrev pub invariant-loop-i : goal.invariant-loop-i
invariant-loop-i g l = record { rests : IsResting l.fn.sys l.actor (g.O.Ops.lane l.ops) }
