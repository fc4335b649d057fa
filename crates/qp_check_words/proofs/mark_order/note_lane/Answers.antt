use Rattle.std.proofs.Common.{◌≡◌, ◌∙◌, ◌+◌, ◌++◌, ◌∷◌, List, [], ◌||◌, not, cond, ap, sym, take}
use Rattle.std.proofs.Math.Bool.{or-false}
use Rattle.std.proofs.lemmas.List.{take_more}
use Rattle.std.specs.BTreeSet.{contains}
use Rattle.qp_model.specs.declared.words.Word.{Word}
use Rattle.qp_model.specs.Record.{Item, item_of}
use Rattle.qp_model.specs.History.{lane_items, touch}
use Rattle.qp_model.proofs.RecordLemmas.{lane_items-more}
use Rattle.qp_check_lanes.specs.Keys.{key_cmp, key_of}
use Rattle.qp_check_words.specs.MarkOrder.{last_mark}
use Rattle.qp_check_words.specs.Marks.{rises_from, touched, word_use}
use Rattle.qp_check_words.proofs.RiseLemmas.{fall-next, last-next, touched-append, touched-one}
use Rattle.qp_check_words.proofs.mark_order.note_lane.Goals as goal

pub loop-r-init : goal.loop-r-init
unfolding lane_items touched rises_from
loop-r-init c = record { last = λ w. c.none-last.ensures (key_of w); falls = λ w. sym (or-false (contains key_cmp c.args.falls.now (key_of w))) }

pub loop-r-preserved : goal.loop-r-preserved
loop-r-preserved c =
    let k = c.loop-r.r-index in
    let r = c.r-item.result in
    let i = item_of r in
    let xs = c.deref-r-items.result.now in
    let same = c.deref-r-items.ensures.value ∙ c.lane.view_is in
    let next : take (k + 1) c.args.lane.now ≡ take k c.args.lane.now ++ r ∷ [] = rw (← same) (take_more xs k r c.loop-r-test.true ∙ ap (λ h. take k xs ++ h ∷ []) (sym c.r-item.is)) in
    let front : Word → List Item = λ w. touched w (lane_items (take k c.args.lane.now)) in
    let more : (w : Word) → touched w (lane_items (take (k + 1) c.args.lane.now)) ≡ front w ++ cond (word_use w (touch i)) (i ∷ []) [] = λ w.
    ap (λ l. touched w (lane_items l)) next ∙ ap (touched w) (lane_items-more (take k c.args.lane.now) r) ∙ touched-append w (lane_items (take k c.args.lane.now)) (i ∷ [])
    ∙ ap (λ l. front w ++ l) (touched-one w i) in
    record {
      last = λ w. c.in_ok-note_record.ensures.last w ∙ last-next (front w) i _ (c.loop-r.invariant.last w) (word_use w (touch i)) ∙ ap (last_mark 0) (sym (more w));
      falls = λ w.
          c.in_ok-note_record.ensures.falls w
          ∙ fall-next (front w) i _ (c.loop-r.invariant.last w) (contains key_cmp c.args.falls.now (key_of w)) _ (word_use w (touch i)) (c.loop-r.invariant.falls w)
          ∙ ap (λ l. contains key_cmp c.args.falls.now (key_of w) || not (rises_from 0 l)) (sym (more w));
    }
