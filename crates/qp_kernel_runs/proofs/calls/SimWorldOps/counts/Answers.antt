use Rattle.qp_plain.specs.WorldView.{world_view}
use Rattle.qp_kernel_runs.proofs.Seated as seated
use Rattle.qp_kernel_runs.proofs.calls.SimWorldOps.counts.Goals as goal

pub returns : goal.returns
returns c = seated.counted c.args.self.now.stim.now c.args.self.now.done.list (world_view c.args.self.now.plain) (world_view c.counts.new.self) c.args.p c.counts.result c.counts.ensures
