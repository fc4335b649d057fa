use Rattle.qp_plain.specs.WorldView.{world_view}
use Rattle.qp_kernel_runs.proofs.Seated as seated
use Rattle.qp_kernel_runs.proofs.Kept as kept
use Rattle.qp_kernel_runs.proofs.calls.SimWorldOps.tick_one.Goals as goal

pub invariant_of-self : goal.invariant_of-self
invariant_of-self g c = record { holds = kept.ticks-one c.args.self.now c.tick_one.new.self c.args.t c.tick_one.result c.tick_one.ensures.ticks }

pub returns-clause-ticks : goal.returns-clause-ticks
returns-clause-ticks g c = seated.ticks-one c.args.self.now.stim.now c.args.self.now.done.list (world_view c.args.self.now.plain) (world_view c.tick_one.new.self) c.args.t c.tick_one.result c.tick_one.ensures.ticks
