use Rattle.qp_plain.specs.WorldView.{world_view}
use Rattle.qp_kernel_runs.proofs.Seated as seated
use Rattle.qp_kernel_runs.proofs.Kept as kept
use Rattle.qp_kernel_runs.proofs.calls.SimWorldOps.arm.Goals as goal

pub invariant_of-self : goal.invariant_of-self
invariant_of-self g c = record { holds = kept.arms c.args.self.now c.arm.new.self c.args.t c.args.ticks c.args.interval c.arm.result c.arm.ensures.arms }

pub returns-clause-arms : goal.returns-clause-arms
returns-clause-arms g c = seated.arms c.args.self.now.stim.now c.args.self.now.done.list (world_view c.args.self.now.plain) (world_view c.arm.new.self) c.args.t c.args.ticks c.args.interval c.arm.result c.arm.ensures.arms
