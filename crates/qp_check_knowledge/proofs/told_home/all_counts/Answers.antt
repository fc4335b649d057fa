use Rattle.std.proofs.Common.{◌≡◌, ◌∙◌, ◌+◌, ◌++◌, ◌∷◌, [], Some, None, ap, sym, refl, take, append-nil}
use Rattle.std.specs.List.{filter_map}
use Rattle.std.proofs.lemmas.List.{take_all}
use Rattle.std.proofs.lemmas.List.Elements.{filter_map-append}
use Rattle.qp_model.specs.Record.{item_of}
use Rattle.qp_model.specs.History.{lane_items}
use Rattle.qp_check_knowledge.specs.HomeCounts.{counts_by}
use Rattle.qp_check_lanes.proofs.ItemLemmas.{items-up_to}
use Rattle.qp_check_knowledge.proofs.told_home.all_counts.Goals as goal
use Rattle.qp_check_knowledge.proofs.told_home.all_counts.Goals.{in-Some+in_ok-push-in-Some, in-None}

pub loop-r-init : goal.loop-r-init
unfolding lane_items
loop-r-init c = c.new-all.ensures.items

pub loop-r-preserved : goal.loop-r-preserved
loop-r-preserved c =
    let i = c.loop-r.r-index in
    let by = c.args.by in
    let item = item_of c.r-item.result in
    let before = filter_map (λ i. counts_by by i.body) (lane_items (take i c.args.lane.now)) in
    let grows : filter_map (λ i. counts_by by i.body) (lane_items (take (i + 1) c.args.lane.now)) ≡ before ++ filter_map (λ i. counts_by by i.body) (item ∷ []) =
    ap (filter_map (λ i. counts_by by i.body)) (items-up_to c.args.lane.now i c.r-item.result c.loop-r-test.true c.r-item.is) ∙ filter_map-append (λ i. counts_by by i.body) (lane_items (take i c.args.lane.now)) (item ∷ []) in
    elim c.match-counts.branch [
      | in-Some+in_ok-push-in-Some w ↦
          let is : counts_by by item.body ≡ Some w.in-Some.counts = sym c.counts.ensures ∙ w.in-Some.is in
          rw w.all-is (w.in_ok-push-in-Some.ensures.items ∙ ap (λ xs. xs ++ w.in-Some.counts ∷ []) c.loop-r.invariant ∙ sym (grows ∙ rw is refl))
      | in-None w ↦
          let is : counts_by by item.body ≡ None = sym c.counts.ensures ∙ w.in-None.is in
          rw w.all-is (c.loop-r.invariant ∙ sym (grows ∙ rw is (append-nil before)))
    ]

pub returns : goal.returns
returns c =
    c.loop-r.invariant ∙ ap (λ l. filter_map (λ i. counts_by c.args.by i.body) (lane_items l)) (take_all c.loop-r.r-index c.args.lane.now c.loop-r-test.false)
