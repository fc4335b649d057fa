use Rattle.std.proofs.Common.{map, ◌∙◌}
use Rattle.std.proofs.lemmas.List.{length-map}
use Rattle.qp_shared.specs.Lane.{lane_view}
use Rattle.qp_shared.proofs.Handing.{three-ok, port-first}
use Rattle.qp_shared.proofs.shared.Shared.port_lanes.Goals as goal

pub returns : goal.returns
returns c = three-ok c.all_lanes.result _ _ _ _ c.all_lanes.ensures.count c.all_lanes.ensures.zero c.all_lanes.ensures.others (λ v long one others. port-first c.args.self.now c.requires.root.sound c.args.n c.requires.some (map lane_view v.items) (length-map v.items lane_view ∙ long) one others)
