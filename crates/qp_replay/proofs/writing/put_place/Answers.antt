use Rattle.std.proofs.Common.{◌≡◌, ◌∙◌, [], ◌∷◌, ◌++◌, decimal, length, get_or, ap, sym, arith, rules}
use Rattle.std.proofs.lemmas.List.{get_or_default}
use Rattle.qp_model.specs.declared.record.Rec.{Rec}
use Rattle.qp_model.specs.Output.{record_item}
use Rattle.qp_model.specs.OutputText.{line_text}
use Rattle.qp_replay.specs.Remaining.{record_place}
use Rattle.qp_replay.proofs.RemainingLemmas.{lane-of}
use Rattle.qp_replay.specs.Text.{place_line}
use Rattle.qp_replay.proofs.ReplayedLemmas.{found-at, found-is, found-range, place-line}
use Rattle.qp_replay.proofs.writing.put_place.Goals as goal

pub index-lane-requires : goal.index-lane-requires
index-lane-requires g c =
    omega (arith, (lane-of c.args.lanes.now c.args.at.lane c.args.at.place c.requires.stands).0, ap length c.lanes.view_is, c.lanes.inside.items.ok.0)

pub index-requires : goal.index-requires
index-requires g c =
    let st = c.args.lanes.now in
    let found = lane-of st c.args.at.lane c.args.at.place c.requires.stands in
    let row : get_or st c.args.at.lane [] ≡ c.index-lane.result.now =
    get_or_default st c.args.at.lane [] c.index-lane.result.now found.0
    ∙ ap (λ l. get_or l c.args.at.lane c.index-lane.result.now) (sym c.lanes.view_is) ∙ sym c.index-lane.ensures in
    omega (arith, found.1, ap length row, ap length c.lane.view_is, c.lane.inside.items.ok.0)

pub make_placed-requires : goal.make_placed-requires
make_placed-requires g c =
    let x = record_place c.args.at.lane c.args.at.place in
    let f = found-at c.args.lanes.now x c.requires.stands in
    let same = found-is c.args.lanes.now x f c.index-lane.result.now c.index.result.now
    (c.index-lane.ensures ∙ ap (λ l. get_or l c.args.at.lane c.index-lane.result.now) c.lanes.view_is)
    (c.index.ensures ∙ ap (λ l. get_or l c.args.at.place c.index.result.now) c.lane.view_is) in
    rw same (found-range c.args.form c.args.lanes.now x f c.requires.range)

pub returns : goal.returns
returns g c =
    let x = record_place c.args.at.lane c.args.at.place in
    let f = found-at c.args.lanes.now x c.requires.stands in
    let same = found-is c.args.lanes.now x f c.index-lane.result.now c.index.result.now
    (c.index-lane.ensures ∙ ap (λ l. get_or l c.args.at.lane c.index-lane.result.now) c.lanes.view_is)
    (c.index.ensures ∙ ap (λ l. get_or l c.args.at.place c.index.result.now) c.lane.view_is) in
    let bytes : c.as_bytes.result.now ≡ place_line c.args.form c.args.lanes.now x =
    c.as_bytes.ensures ∙ c.make_placed.ensures ∙ ap (λ (r : Rec). decimal c.args.at.lane ++ 32 ∷ line_text c.args.form (record_item r)) same
    ∙ sym (place-line c.args.form c.args.lanes.now x f) in
    rw (← bytes) (search rules)
