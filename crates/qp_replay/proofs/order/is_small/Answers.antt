use Rattle.std.proofs.Common.{◌≡◌, ◌∙◌, ◌+◌, ◌^◌, ◌<◌, ◌++◌, ◌∷◌, [], List, length, take, ap, sym, subst, arith}
use Rattle.std.specs.List.{AllByRecursion}
use Rattle.std.proofs.lemmas.List.{take_more}
use Rattle.qp_model.specs.declared.record.Rec.{Rec}
use Rattle.qp_replay.proofs.SizeLemmas.{short-at, short-more}
use Rattle.qp_replay.proofs.order.is_small.Goals as goal

pub loop-lane-preserved : goal.loop-lane-preserved
loop-lane-preserved c =
    let k = c.loop-lane.lane-index in
    let lane = c.lane-item.result in
    let xs = c.deref-lane-items.result.now in
    let same = c.deref-lane-items.ensures.value ∙ c.lanes.view_is in
    let next : take (k + 1) c.args.lanes.now ≡ take k c.args.lanes.now ++ lane ∷ [] =
    rw (← same) (take_more xs k lane c.loop-lane-test.true ∙ ap (λ h. take k xs ++ h ∷ []) (sym c.lane-item.is)) in
    let short : length lane < 2 ^ 32 = omega (arith, c.if-len-ge-TOO_MANY.false, c.len.ensures, c.lane.inside.items.ok.0, ap length c.lane.view_is) in
    subst (λ (z : List (List Rec)). AllByRecursion (λ r. length r < 2 ^ 32) z) (sym next) (short-more (take k c.args.lanes.now) lane c.loop-lane.invariant short)

-- a lane that is too long
pub returns-then-len-ge-TOO_MANY : goal.returns-then-len-ge-TOO_MANY
returns-then-len-ge-TOO_MANY c =
    let k = c.loop-lane.lane-index in
    let lane = c.lane-item.result in
    let same = c.deref-lane-items.ensures.value ∙ c.lanes.view_is in
    (λ wrong. absurd (cc), λ small. absurd (let short = short-at c.args.lanes.now k lane (rw (← same) c.loop-lane-test.true) (rw (← same) c.lane-item.is) small.lengths in omega (arith, short, c.if-len-ge-TOO_MANY.true, c.len.ensures, ap length c.lane.view_is)))
