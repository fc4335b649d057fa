use Rattle.qp_plain.specs.WorldView.{world_view}
use Rattle.qp_calls.specs.Clauses.{event_of}
use Rattle.qp_kernel_runs.proofs.Seated as seated
use Rattle.qp_kernel_runs.proofs.Kept as kept
use Rattle.qp_kernel_runs.proofs.calls.SimWorldOps.give.Goals as goal

pub invariant_of-self : goal.invariant_of-self
invariant_of-self g c = record { holds = kept.gives c.args.self.now c.give.new.self c.args.pool c.args.reserve (event_of c.args.ev.now) c.give.result c.give.ensures.gives }

pub returns-clause-gives : goal.returns-clause-gives
returns-clause-gives g c = seated.gives c.args.self.now.stim.now c.args.self.now.done.list (world_view c.args.self.now.plain) (world_view c.give.new.self) c.args.pool c.args.reserve (event_of c.args.ev.now) c.give.result c.give.ensures.gives
