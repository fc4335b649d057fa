use Rattle.std.proofs.Common.{◌∙◌, ap, sym, ◌++◌, ◌∷◌, [], append_assoc}
use Rattle.qp_model.specs.Record.{item_of}
use Rattle.qp_check_lanes.proofs.WalkLemmas.{front_seen}
use Rattle.qp_check_words.proofs.histories.put_all.Goals as goal

pub loop-r-preserved : goal.loop-r-preserved
loop-r-preserved c =
    let i = item_of c.r-item.result.now in
    let next = front_seen (λ r. item_of r.now) c.g.view_is c.deref-r-items.ensures.value c.loop-r.r-index c.r-item.result c.loop-r-test.true c.r-item.is in
    c.in_ok-put.ensures ∙ ap (λ xs. xs ++ i ∷ []) c.loop-r.invariant ∙ append_assoc c.args.all.now _ (i ∷ []) ∙ ap (λ xs. c.args.all.now ++ xs) (sym next)
