use Rattle.std.proofs.Common.{◌≡◌, ◌∙◌, ◌<◌, [], length, get_or, ap, sym, arith}
use Rattle.std.proofs.lemmas.List.{get_or_default}
use Rattle.qp_model.specs.Places.{touch_at}
use Rattle.qp_replay.proofs.RemainingLemmas.{item_at-found, lane-of}
use Rattle.qp_replay.proofs.remaining.touched_at.Goals as goal

pub index-row-requires : goal.index-row-requires
index-row-requires c = omega (arith, (lane-of c.args.lanes.now c.args.lane c.args.k c.requires).0, ap length c.lanes.view_is, c.lanes.inside.items.ok.0)

pub index-requires : goal.index-requires
index-requires c =
    let st = c.args.lanes.now in
    let found = lane-of st c.args.lane c.args.k c.requires in
    let row : get_or st c.args.lane [] ≡ c.index-row.result.now = get_or_default st c.args.lane [] c.index-row.result.now found.0 ∙ ap (λ l. get_or l c.args.lane c.index-row.result.now) (sym c.lanes.view_is) ∙ sym c.index-row.ensures in
    omega (arith, found.1, ap length row, ap length c.row.view_is, c.row.inside.items.ok.0)

pub returns : goal.returns
returns c =
    let st = c.args.lanes.now in
    let found = lane-of st c.args.lane c.args.k c.requires in
    let l = c.index-row.result.now in
    let is : get_or st c.args.lane l ≡ l = ap (λ l. get_or l c.args.lane c.index-row.result.now) (sym c.lanes.view_is) ∙ sym c.index-row.ensures in
    let row : get_or st c.args.lane [] ≡ l = get_or_default st c.args.lane [] l found.0 ∙ is in
    let small : c.args.k < length l = omega (arith, found.1, ap length row) in
    let at : get_or l c.args.k c.index.result.now ≡ c.index.result.now = ap (λ l. get_or l c.args.k c.index.result.now) (sym c.row.view_is) ∙ sym c.index.ensures in
    c.by.ensures ∙ ap touch_at (sym (item_at-found st c.args.lane c.args.k l c.index.result.now found.0 is small at))
