use Rattle.std.proofs.Common.{rules, ◌≡◌, ◌∙◌, ◌+◌, ◌++◌, ◌∷◌, List, [], Bool, not, ap, sym, take}
use Rattle.std.proofs.lemmas.List.{take_all, take_more}
use Rattle.std.proofs.lemmas.List.Folds.{list_all-append}
use Rattle.std.specs.List.{list_all}
use Rattle.qp_model.specs.declared.record.Rec.{Rec}
use Rattle.qp_model.specs.History.{lane_items}
use Rattle.qp_check_words.specs.Marks.{rises_from, touched}
use Rattle.qp_check_words.proofs.RiseLemmas.{lane-falls, lanes-rise}
use Rattle.qp_check_words.proofs.mark_order.falling_words.Goals as goal

pub loop-lane-init : goal.loop-lane-init
loop-lane-init c = λ w. search rules

pub loop-lane-preserved : goal.loop-lane-preserved
loop-lane-preserved c = λ w.
    let k = c.loop-lane.lane-index in
    let lane = c.lane-item.result in
    let xs = c.deref-lane-items.result.now in
    let same = c.deref-lane-items.ensures.value ∙ c.lanes.view_is in
    let next : take (k + 1) c.args.lanes.now ≡ take k c.args.lanes.now ++ lane ∷ [] =
    rw (← same) (take_more xs k lane c.loop-lane-test.true ∙ ap (λ h. take k xs ++ h ∷ []) (sym c.lane-item.is)) in
    let p : List Rec → Bool = λ lane. rises_from 0 (touched w (lane_items lane)) in
    c.in_ok-note_lane.ensures w ∙ lane-falls _ (list_all p (take k c.args.lanes.now)) (p lane) (c.loop-lane.invariant w)
    ∙ ap not (sym (ap (list_all p) next ∙ list_all-append p (take k c.args.lanes.now) (lane ∷ [])))

pub returns : goal.returns
returns c = λ w.
    let same = c.deref-lane-items.ensures.value ∙ c.lanes.view_is in
    let p : List Rec → Bool = λ lane. rises_from 0 (touched w (lane_items lane)) in
    c.loop-lane.invariant w ∙ ap (λ l. not (list_all p l)) (rw (← same) (take_all c.loop-lane.lane-index c.deref-lane-items.result.now c.loop-lane-test.false)) ∙ ap not (lanes-rise w c.args.lanes.now)
