use Rattle.qp_plain.specs.WorldView.{world_view}
use Rattle.qp_kernel_runs.proofs.Seated as seated
use Rattle.qp_kernel_runs.proofs.Kept as kept
use Rattle.qp_kernel_runs.proofs.calls.SimWorldOps.rearm.Goals as goal

pub invariant_of-self : goal.invariant_of-self
invariant_of-self g c = record { holds = kept.rearms c.args.self.now c.rearm.new.self c.args.t c.args.ticks c.rearm.result c.rearm.ensures.rearms }

pub returns-clause-rearms : goal.returns-clause-rearms
returns-clause-rearms g c = seated.rearms c.args.self.now.stim.now c.args.self.now.done.list (world_view c.args.self.now.plain) (world_view c.rearm.new.self) c.args.t c.args.ticks c.rearm.result c.rearm.ensures.rearms
