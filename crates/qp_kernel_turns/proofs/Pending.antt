-- Pending queues through looks.
use Rattle.std.proofs.Common.{◌≡◌, ℕ, zero, suc, ◌+◌, ◌<◌, ◌≤◌, [], ◌∷◌, refl, ◌∙◌, ap, arith, Some}
use Rattle.qp_model.specs.declared.bodies.Body.TheVariants as body
use Rattle.qp_model.specs.declared.systems.System.{System}
use Rattle.qp_model.specs.declared.systems.ObjectDef.{ObjectDef}
use Rattle.qp_model.specs.declared.words.Word.TheVariants as word
use Rattle.qp_model.specs.Sites.{object_at}
use Rattle.qp_model.specs.Told.{plain}
use Rattle.qp_calls.specs.LaneView.{Gains, GrowsOf, LaneView, Own, Roomier, own_after}
use Rattle.qp_kernel.specs.declared.kernel.Kernel.{Kernel}
use Rattle.qp_kernel.specs.Interrupting.{IsLaneKept}
use Rattle.qp_kernel.specs.Turning.{look_told, seen_told}
use Rattle.qp_kernel_turns.specs.declared.objects.Objects.{Objects}
use Rattle.qp_kernel_turns.specs.Counting.{AreCounted}
use Rattle.qp_kernel_turns.specs.Halting.{asked_once}
use Rattle.qp_kernel_turns.specs.Ordering.{IsSeenEmpty}
use Rattle.qp_kernel_turns.specs.Pending.{Pending, PendingStays, StepsOver}

look-own : (p n floor : ℕ) (o : Own) → own_after p o (look_told n floor ∷ []) ≡ o
unfolding own_after
look-own p n floor o = refl

pub seen-own : (p q f l m : ℕ) (o : Own) → own_after p o (seen_told q f l m ∷ []) ≡ o
unfolding own_after
seen-own p q f l m o = refl

pub stays-by : (v w : LaneView) → ((p : ℕ) → w.own p ≡ v.own p) → ((p : ℕ) → v.mark (word.Queue p) ≤ w.mark (word.Queue p)) → PendingStays v w
stays-by v w own rise p h =
    let same : (w.own p).m ≡ (v.own p).m = ap (λ o. o.m) (own p) in
    let up = rise p in
    omega (arith, h, same, up)

-- a look, and what another lane did in it
pub look-stays : (n floor : ℕ) (v v1 v2 v3 : LaneView) → Roomier (asked_once v) v1 → GrowsOf 0 (plain (body.Look n floor) ∷ []) v1 v2 → IsLaneKept v2 v3 → PendingStays v v3
look-stays n floor v v1 v2 v3 room grown kept =
    stays-by v v3 (λ p. kept.own p ∙ grown.own p ∙ look-own p n floor (v1.own p) ∙ ap (λ u. u.own p) room.same)
    (λ p.
    let first = grown.rise (word.Queue p) in
    let second = kept.rise (word.Queue p) in
    let same : v1.mark (word.Queue p) ≡ v.mark (word.Queue p) = ap (λ u. u.mark (word.Queue p)) room.same in
    omega (arith, first, second, same))

pub seen-stays_pending : (q f l m : ℕ) (v w : LaneView) → Gains (seen_told q f l m ∷ []) v w → PendingStays v w
seen-stays_pending q f l m v w gains = stays-by v w (λ p. gains.own p ∙ seen-own p q f l m (v.own p)) (λ p. gains.rise (word.Queue p))

-- a queue that was seen empty has nothing pending
pub none-pends : (p : ℕ) (v : LaneView) → IsSeenEmpty p v → Pending p v → ⊥
none-pends p v e h =
    let mark = e.mark in
    let own = e.own in
    let none = e.none in
    absurd (omega (arith, h, mark, own, none))

-- a turn over a pending queue has a step
pub steps-over : (sys : System) (k later : Kernel) (xs ys : Objects) (v w : LaneView) → AreCounted k later xs ys → ((d : ObjectDef) → object_at sys d.priority ≡ Some d → IsSeenEmpty d.priority w)
    → (k.stack.items ≡ [] → later.steps ≡ k.steps → PendingStays v w) → StepsOver sys k later v
steps-over sys k later xs ys v w c empties quiet base d found pends = by c.n c.begin.steps
  where
    by : (n : ℕ) → later.steps ≡ k.steps + n → k.steps < later.steps
    by zero same = absurd (none-pends d.priority w (empties d found) (quiet base (omega (arith, same)) d.priority pends))
    by (suc n) more = omega (arith, more)
