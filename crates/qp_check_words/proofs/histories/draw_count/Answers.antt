use Rattle.std.proofs.Common.{◌≡◌, ◌∙◌, [], ◌∷◌, ap, sym, refl, arith, length, take, length-append, cond, Bool, true, false}
use Rattle.std.specs.List.{filter}
use Rattle.qp_model.specs.Record.{item_of, Item}
use Rattle.qp_model.specs.History.{touch}
use Rattle.qp_check_words.specs.Marks.{draw_count, draws_number}
use Rattle.qp_check_lanes.proofs.WalkLemmas.{filter_front}
use Rattle.qp_check_words.proofs.histories.draw_count.Goals as goal
use Rattle.qp_check_words.proofs.histories.draw_count.Goals.{then-is_drawn, else-is_drawn}

pub loop-r-init : goal.loop-r-init
unfolding draw_count
loop-r-init c = record { counted = refl; within = omega arith }

pub loop-r-preserved : goal.loop-r-preserved
unfolding draw_count
loop-r-preserved c =
    let p : Item → Bool = λ i. draws_number (touch i) in
    let i = item_of c.r-item.result.now in
    let next = filter_front (λ r. item_of r.now) c.touched.view_is c.deref-r-items.ensures.value c.loop-r.r-index c.r-item.result c.loop-r-test.true c.r-item.is p in
    let more = ap length next ∙ length-append (filter p (take c.loop-r.r-index c.args.touched.now)) (cond (p i) (i ∷ []) []) in
    elim c.if-is_drawn.branch [
      | then-is_drawn w ↦
          let yes : p i ≡ true = sym c.is_drawn.ensures ∙ w.if-is_drawn.true in
          let one : length (cond (p i) (i ∷ []) []) ≡ 1 = rw yes refl in
          record { counted = omega (arith, more, one, c.loop-r.invariant.counted, w.count-is); within = omega (arith, c.loop-r.invariant.within, w.count-is) }
      | else-is_drawn w ↦
          let no : p i ≡ false = sym c.is_drawn.ensures ∙ w.if-is_drawn.false in
          let one : length (cond (p i) (i ∷ []) []) ≡ 0 = rw no refl in
          record { counted = omega (arith, more, one, c.loop-r.invariant.counted, w.count-is); within = omega (arith, c.loop-r.invariant.within, w.count-is) }
    ]
