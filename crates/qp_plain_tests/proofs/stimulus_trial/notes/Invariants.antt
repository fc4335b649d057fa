use Rattle.qp_plain_tests.specs.StimulusTrial.{IsStimulusBase}
use Rattle.qp_plain_tests.proofs.stimulus_trial.notes.Given as goal

-- a trial may go on
abbrev pub invariant-loop-i : goal.invariant-loop-i
invariant-loop-i g l = record { base : IsStimulusBase l.fn.sys (g.O.Ops.lane l.ops) }
