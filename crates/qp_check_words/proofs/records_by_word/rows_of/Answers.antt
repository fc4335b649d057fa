use Rattle.std.proofs.Common.{◌≡◌, ◌∙◌, ◌+◌, ◌++◌, ◌∷◌, [], ap, sym, take}
use Rattle.std.proofs.lemmas.List.{take_more}
use Rattle.qp_model.specs.History.{all_items, lane_items}
use Rattle.qp_check_lanes.proofs.LaneLemmas.{all_items-more}
use Rattle.qp_check_lanes.specs.Keys.{key_of}
use Rattle.qp_check_words.specs.Marks.{touched}
use Rattle.qp_check_words.proofs.RiseLemmas.{touched-append}
use Rattle.qp_check_words.proofs.records_by_word.rows_of.Goals as goal

pub loop-lane-init : goal.loop-lane-init
unfolding all_items touched
loop-lane-init c = λ w. c.none-rows.ensures (key_of w)

pub loop-lane-preserved : goal.loop-lane-preserved
loop-lane-preserved c = λ w.
    let k = c.loop-lane.lane-index in
    let lane = c.lane-item.result in
    let xs = c.deref-lane-items.result.now in
    let same = c.deref-lane-items.ensures.value ∙ c.lanes.view_is in
    let next : take (k + 1) c.args.lanes.now ≡ take k c.args.lanes.now ++ lane ∷ [] =
    rw (← same) (take_more xs k lane c.loop-lane-test.true ∙ ap (λ h. take k xs ++ h ∷ []) (sym c.lane-item.is)) in
    let front = all_items (take k c.args.lanes.now) in
    c.in_ok-put_lane.ensures w ∙ ap (λ l. l ++ touched w (lane_items lane)) (c.loop-lane.invariant w)
    ∙ sym (ap (λ l. touched w (all_items l)) next ∙ ap (touched w) (all_items-more (take k c.args.lanes.now) lane) ∙ touched-append w front (lane_items lane))
