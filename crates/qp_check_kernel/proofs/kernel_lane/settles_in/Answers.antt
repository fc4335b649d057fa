use Rattle.std.proofs.Common.{rules, ◌≡◌, ◌∙◌}
use Rattle.std.specs.List.{count_by}
use Rattle.qp_model.specs.Record.{item_of}
use Rattle.qp_model.specs.Lawful.{is_settle}
use Rattle.qp_check_lanes.proofs.ItemLemmas.{items-count}
use Rattle.qp_check_kernel.proofs.kernel_lane.settles_in.Goals as goal

pub returns : goal.returns
returns c =
    let e : c.count.result ≡ count_by (λ r. is_settle (item_of r).body) c.args.lane.now = search rules in
    e ∙ items-count (λ i. is_settle i.body) c.args.lane.now
