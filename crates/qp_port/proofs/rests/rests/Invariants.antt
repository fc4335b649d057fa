use Rattle.qp_port.specs.Resting.{AreShown}
use Rattle.qp_port.proofs.rests.rests.Given as goal

abbrev pub invariant-loop-worker : goal.invariant-loop-worker
invariant-loop-worker g l = AreShown (λ w. w.job) l.workers l.rests.items
