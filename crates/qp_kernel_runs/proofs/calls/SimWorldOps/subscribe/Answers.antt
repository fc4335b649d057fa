use Rattle.qp_plain.specs.WorldView.{world_view}
use Rattle.qp_kernel_runs.proofs.Seated as seated
use Rattle.qp_kernel_runs.proofs.Kept as kept
use Rattle.qp_kernel_runs.proofs.calls.SimWorldOps.subscribe.Goals as goal

pub invariant_of-self : goal.invariant_of-self
invariant_of-self c = record { holds = kept.subscribing c.args.self.now c.subscribe.new.self c.args.sig c.subscribe.result c.subscribe.ensures }

pub returns : goal.returns
returns c = seated.subscribing c.args.self.now.stim.now c.args.self.now.done.list (world_view c.args.self.now.plain) (world_view c.subscribe.new.self) c.args.sig c.subscribe.result c.subscribe.ensures
