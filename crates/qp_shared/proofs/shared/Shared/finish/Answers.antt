use Rattle.std.proofs.Common.{map}
use Rattle.qp_shared.specs.Lane.{lane_view}
use Rattle.qp_shared.proofs.Carrying.{was-sealed, was-sealed-for}
use Rattle.qp_shared.proofs.shared.Shared.finish.Goals as goal

pub invariant_of-result : goal.invariant_of-result
invariant_of-result c = record { of = was-sealed c.args.self.now c.args.kernel c.args.budget (map lane_view c.args.lanes.items) c.seal-journal.result c.requires.all c.seal-journal.ensures.seals }

pub returns-clause-sealed : goal.returns-clause-sealed
returns-clause-sealed c = was-sealed-for c.args.self.now c.args.kernel c.args.budget (map lane_view c.args.lanes.items) c.seal-journal.result c.requires.all c.seal-journal.ensures.seals
