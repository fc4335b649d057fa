use Rattle.qp_plain.specs.WorldView.{world_view}
use Rattle.qp_kernel_runs.proofs.Seated as seated
use Rattle.qp_kernel_runs.proofs.Kept as kept
use Rattle.qp_kernel_runs.proofs.calls.SimWorldOps.take.Goals as goal

pub invariant_of-self : goal.invariant_of-self
invariant_of-self g c = record { holds = kept.takes c.args.self.now c.take.new.self c.args.me c.take.result c.take.ensures }

pub returns : goal.returns
returns g c = seated.takes c.args.self.now.stim.now c.args.self.now.done.list (world_view c.args.self.now.plain) (world_view c.take.new.self) c.args.me c.take.result c.take.ensures
