use Rattle.std.proofs.Common.{◌≡◌, ℕ, ◌<◌, false}
use Rattle.qp_kernel_runs.specs.Choosing.{may_there}
use Rattle.qp_kernel_runs.proofs.world.SimWorld.chosen.Given as goal

-- none of those before may act
abbrev pub invariant-loop-k : goal.invariant-loop-k
invariant-loop-k l = (i : ℕ) → i < l.k → may_there l.rests l.self.stim.now l.self.begun.items l.self.last i ≡ false
