use Rattle.std.proofs.Common.{◌∙◌, ◌<◌, ◌++◌, ◌∷◌, [], List, length, replicate, ap, sym, subst}
use Rattle.qp_model.specs.declared.record.Rec.{Rec}
use Rattle.qp_model.specs.Places.{RecordPlace}
use Rattle.qp_replay.specs.Orders.{IsCycle, IsLowestOrder}
use Rattle.qp_replay.specs.Remaining.{LaneFronts}
use Rattle.qp_replay.proofs.CycleLaws.{no-cycle}
use Rattle.qp_replay.proofs.OrderLemmas.{Kept, fewer, has-all, is-order, kept-more, left, nothing-kept, passed_on}
use Rattle.qp_replay.proofs.order.ordered.Goals as goal

pub order-init : goal.order-init
order-init c = record {
  same = ap (λ s. s.lanes) c.in_ok-remaining.ensures;
  kept = subst (λ (s : LaneFronts). Kept s c.none-order.result) (sym c.in_ok-remaining.ensures) (subst (λ (o : List RecordPlace). Kept (record { lanes = c.args.lanes.now; fronts = replicate (length c.args.lanes.now) 0 }) o) (sym c.none-order.ensures) (nothing-kept c.args.lanes.now));
}

pub order-smaller : goal.order-smaller
order-smaller c =
    subst (λ (s : LaneFronts). left s.lanes s.fronts < left c.order.remaining.lanes c.order.remaining.fronts) (sym c.pass.ensures) (fewer c.order.remaining c.in-Some.lane c.order.invariant.kept.each c.in-Some.ensures.free.next)

pub order-preserved : goal.order-preserved
order-preserved c =
    let st = c.order.remaining in
    let n = c.in-Some.lane in
    record {
      same = ap (λ s. s.lanes) c.pass.ensures ∙ c.order.invariant.same;
      kept = subst (λ (s : LaneFronts). Kept s c.push.new.self) (sym c.pass.ensures)
          (subst (λ (o : List RecordPlace). Kept (passed_on st n) o) (sym (c.in_ok-push.ensures ∙ ap (λ x. c.order.order ++ x ∷ []) c.head.ensures)) (kept-more st c.order.order n c.order.invariant.kept c.in-Some.ensures.free c.in-Some.ensures.lower));
    }

pub returns-in-None : goal.returns-in-None
returns-in-None c =
    let st = c.order.remaining in
    let kept = c.order.invariant.kept in
    subst (λ (l : List (List Rec)). IsLowestOrder l c.order.order × ((cycle : List RecordPlace) → IsCycle l cycle → ⊥)) c.order.invariant.same
    (is-order st c.order.order kept c.in-None.ensures, no-cycle st.lanes c.order.order (has-all st c.order.order kept c.in-None.ensures) kept.pairs)
