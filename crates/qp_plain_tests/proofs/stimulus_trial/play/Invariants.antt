use Rattle.qp_plain_tests.specs.StimulusTrial.{IsStimulusBase}
use Rattle.qp_plain_tests.proofs.stimulus_trial.play.Given as goal

-- a trial may go on
abbrev pub invariant-loop-s : goal.invariant-loop-s
invariant-loop-s g l = record { base : IsStimulusBase l.fn.sys (g.O.Ops.lane l.ops) }
