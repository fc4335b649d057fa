use Rattle.std.proofs.Common.{refl}
use Rattle.qp_shared.specs.Lane.{lane_view}
use Rattle.qp_wait_rings.proofs.CordLemmas.{rung-begun}
use Rattle.qp_wait_rings.proofs.ringing.RingingLane.new.Goals as goal

pub invariant_of-result-clause-rung : goal.invariant_of-result-clause-rung
invariant_of-result-clause-rung c = rung-begun c.args.cords.items (lane_view c.args.lane) c.requires.fresh c.requires.loose

pub returns-clause-begins : goal.returns-clause-begins
returns-clause-begins c = record { lane = refl; opened = refl; refused = refl; found = refl }
