use Rattle.std.proofs.Common.{take}
use Rattle.qp_check_knowledge.specs.KnownSteps.{AreSteps}
use Rattle.qp_check_knowledge.proofs.known_steps.steps_of.Given as goal

abbrev pub invariant-loop-r : goal.invariant-loop-r
invariant-loop-r l = AreSteps (take l.r-index l.given) l.steps
