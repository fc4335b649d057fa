use Rattle.std.proofs.Common.{map, sym, ap, subst, ◌≡◌, ◌∷◌}
use Rattle.qp_shared.specs.Lane.{lane_view}
use Rattle.qp_shared.specs.Starting.{AreGiven, rest_of}
use Rattle.qp_shared.proofs.shared.Shared.all_lanes.Goals as goal

pub returns-clause-others : goal.returns-clause-others
returns-clause-others c =
    let is : c.insert.new.self.items ≡ c.keep-first.result ∷ c.hand_out-lanes.result.items = c.in-Ok-insert.ensures.items in
    subst (AreGiven c.args.self.now c.args.n c.args.port) (sym (ap (λ ls. rest_of (map lane_view ls)) is)) c.hand_out-lanes.ensures.lanes
