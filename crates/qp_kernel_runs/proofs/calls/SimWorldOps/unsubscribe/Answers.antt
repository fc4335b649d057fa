use Rattle.qp_plain.specs.WorldView.{world_view}
use Rattle.qp_kernel_runs.proofs.Seated as seated
use Rattle.qp_kernel_runs.proofs.Kept as kept
use Rattle.qp_kernel_runs.proofs.calls.SimWorldOps.unsubscribe.Goals as goal

pub invariant_of-self : goal.invariant_of-self
invariant_of-self c = record { holds = kept.unsubscribing c.args.self.now c.unsubscribe.new.self c.args.sig c.unsubscribe.result c.unsubscribe.ensures }

pub returns : goal.returns
returns c = seated.unsubscribing c.args.self.now.stim.now c.args.self.now.done.list (world_view c.args.self.now.plain) (world_view c.unsubscribe.new.self) c.args.sig c.unsubscribe.result c.unsubscribe.ensures
