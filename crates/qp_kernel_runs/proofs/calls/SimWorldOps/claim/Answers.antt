use Rattle.qp_plain.specs.WorldView.{world_view}
use Rattle.qp_kernel_runs.proofs.Seated as seated
use Rattle.qp_kernel_runs.proofs.Kept as kept
use Rattle.qp_kernel_runs.proofs.calls.SimWorldOps.claim.Goals as goal

pub invariant_of-self : goal.invariant_of-self
invariant_of-self g c = record { holds = kept.claims c.args.self.now c.claim.new.self c.args.to c.args.e c.args.margin c.claim.result c.claim.ensures.claims }

pub returns-clause-claims : goal.returns-clause-claims
returns-clause-claims g c = seated.claims c.args.self.now.stim.now c.args.self.now.done.list (world_view c.args.self.now.plain) (world_view c.claim.new.self) c.args.to c.args.e c.args.margin c.claim.result c.claim.ensures.claims
