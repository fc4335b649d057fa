use Rattle.std.proofs.Common.{rules, ◌≡◌, ◌∙◌, ap, not, nat_le}
use Rattle.std.specs.List.{count_by}
use Rattle.qp_model.specs.Record.{item_of}
use Rattle.qp_model.specs.Ends.{is_spill}
use Rattle.qp_model.specs.End.{has_room}
use Rattle.qp_check_lanes.proofs.ItemLemmas.{items-count}
use Rattle.qp_check_ends.proofs.lane_ends.fits.Goals as goal

pub returns : goal.returns
unfolding has_room
returns c =
    let e : c.count.result ≡ count_by (λ r. not (is_spill (item_of r).body)) c.args.lane.now = search rules in
    ap (λ n. nat_le n 1000000) (e ∙ items-count (λ i. not (is_spill i.body)) c.args.lane.now)
