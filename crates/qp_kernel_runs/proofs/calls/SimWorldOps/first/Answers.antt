use Rattle.qp_plain.specs.WorldView.{world_view}
use Rattle.qp_kernel_runs.proofs.Seated as seated
use Rattle.qp_kernel_runs.proofs.Kept as kept
use Rattle.qp_kernel_runs.proofs.calls.SimWorldOps.first.Goals as goal

pub invariant_of-self : goal.invariant_of-self
invariant_of-self c = record { holds = kept.makes c.args.self.now c.first.new.self c.args.f.pool c.args.f.block 1 c.first.result c.first.ensures }

pub returns : goal.returns
returns c = seated.makes c.args.self.now.stim.now c.args.self.now.done.list (world_view c.args.self.now.plain) (world_view c.first.new.self) c.args.f.pool c.args.f.block 1 c.first.result c.first.ensures
