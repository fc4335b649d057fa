use Rattle.qp_plain.specs.WorldView.{world_view}
use Rattle.qp_kernel_runs.proofs.Seated as seated
use Rattle.qp_kernel_runs.proofs.Kept as kept
use Rattle.qp_kernel_runs.proofs.calls.SimWorldOps.seen.Goals as goal

pub invariant_of-self : goal.invariant_of-self
invariant_of-self c = record { holds = kept.sees c.args.self.now c.seen.new.self c.args.p c.seen.result c.seen.ensures }

pub returns : goal.returns
returns c = seated.sees c.args.self.now.stim.now c.args.self.now.done.list (world_view c.args.self.now.plain) (world_view c.seen.new.self) c.args.p c.seen.result c.seen.ensures
