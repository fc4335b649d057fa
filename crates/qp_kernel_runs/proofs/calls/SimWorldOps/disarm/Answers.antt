use Rattle.qp_plain.specs.WorldView.{world_view}
use Rattle.qp_kernel_runs.proofs.Seated as seated
use Rattle.qp_kernel_runs.proofs.Kept as kept
use Rattle.qp_kernel_runs.proofs.calls.SimWorldOps.disarm.Goals as goal

pub invariant_of-self : goal.invariant_of-self
invariant_of-self g c = record { holds = kept.disarms c.args.self.now c.disarm.new.self c.args.t c.disarm.result c.disarm.ensures.disarms }

pub returns-clause-disarms : goal.returns-clause-disarms
returns-clause-disarms g c = seated.disarms c.args.self.now.stim.now c.args.self.now.done.list (world_view c.args.self.now.plain) (world_view c.disarm.new.self) c.args.t c.disarm.result c.disarm.ensures.disarms
