use Rattle.std.proofs.Common.{◌≡◌, ◌∙◌, ◌+◌, ◌++◌, ◌∷◌, List, [], ap, sym, take, append-nil, append_assoc}
use Rattle.std.proofs.lemmas.List.{take_more}
use Rattle.qp_model.specs.Record.{Item, item_of}
use Rattle.qp_model.specs.History.{lane_items}
use Rattle.qp_model.proofs.RecordLemmas.{lane_items-more}
use Rattle.qp_check_lanes.specs.Keys.{key_of}
use Rattle.qp_check_words.specs.Marks.{touched}
use Rattle.qp_check_lanes.specs.Rows.{records_of_key}
use Rattle.qp_check_words.proofs.RiseLemmas.{row-more, touched-append}
use Rattle.qp_check_words.proofs.records_by_word.put_lane.Goals as goal

pub loop-r-init : goal.loop-r-init
unfolding lane_items touched
loop-r-init c = λ w. sym (append-nil (records_of_key c.args.rows.now (key_of w)))

pub loop-r-preserved : goal.loop-r-preserved
loop-r-preserved c = λ w.
    let k = c.loop-r.r-index in
    let r = c.r-item.result in
    let xs = c.deref-r-items.result.now in
    let same = c.deref-r-items.ensures.value ∙ c.lane.view_is in
    let next : take (k + 1) c.args.lane.now ≡ take k c.args.lane.now ++ r ∷ [] = rw (← same) (take_more xs k r c.loop-r-test.true ∙ ap (λ h. take k xs ++ h ∷ []) (sym c.r-item.is)) in
    let old : List Item = records_of_key c.args.rows.now (key_of w) in
    let front : List Item = lane_items (take k c.args.lane.now) in
    c.in_ok-put_record.ensures w ∙ row-more w _ (item_of r) ∙ ap (λ l. l ++ touched w (item_of r ∷ [])) (c.loop-r.invariant w) ∙ append_assoc old (touched w front) (touched w (item_of r ∷ []))
    ∙ ap (λ l. old ++ l) (sym (ap (λ l. touched w (lane_items l)) next ∙ ap (touched w) (lane_items-more (take k c.args.lane.now) r) ∙ touched-append w front (item_of r ∷ [])))
