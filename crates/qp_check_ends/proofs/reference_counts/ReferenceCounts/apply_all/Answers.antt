use Rattle.std.proofs.Common.{◌≡◌, ◌∙◌, ◌+◌, ap, sym, refl, take, length, arith}
use Rattle.std.proofs.lemmas.Bool.{and_parts}
use Rattle.qp_model.specs.Record.{Item, item_of}
use Rattle.qp_model.specs.Machine.{after, after_from}
use Rattle.qp_model.specs.References.{references}
use Rattle.qp_model.proofs.MachineLemmas.{after-append}
use Rattle.qp_check_ends.specs.Resting.{makes_below}
use Rattle.qp_check_lanes.proofs.WalkLemmas.{front_seen, test_rest}
use Rattle.qp_check_ends.proofs.reference_counts.ReferenceCounts.apply_all.Goals as goal

pub loop-r-init : goal.loop-r-init
unfolding after after_from
loop-r-init c = record { counted = c.requires.none; long = refl; few = omega (arith, c.requires.none.total); below = c.requires.below }

pub apply_record-requires-clause-inside : goal.apply_record-requires-clause-inside
apply_record-requires-clause-inside c =
    let p = λ (i : Item). makes_below (length c.args.self.now.counts.items) i.body in
    let rest = test_rest (λ r. item_of r.now) c.history.view_is c.deref-r-items.ensures.value c.loop-r.r-index c.r-item.result c.loop-r-test.true c.r-item.is p in
    rw c.loop-r.invariant.long (and_parts _ _ (sym rest ∙ c.loop-r.invariant.below)).0

pub loop-r-preserved : goal.loop-r-preserved
loop-r-preserved c =
    let i = c.loop-r.r-index in
    let h = c.args.history.now in
    let p = λ (i : Item). makes_below (length c.args.self.now.counts.items) i.body in
    let rest = test_rest (λ r. item_of r.now) c.history.view_is c.deref-r-items.ensures.value i c.r-item.result c.loop-r-test.true c.r-item.is p in
    let grows = front_seen (λ r. item_of r.now) c.history.view_is c.deref-r-items.ensures.value i c.r-item.result c.loop-r-test.true c.r-item.is in
    let s = after references (take i h) in
    let item = item_of c.r-item.result.now in
    let next : after references (take (i + 1) h) ≡ references.next s item = ap (after references) grows ∙ after-append references (take i h) item in
    record {
      counted = rw next (c.apply_record.ensures.counted s c.loop-r.invariant.counted);
      long = c.apply_record.ensures.size ∙ c.loop-r.invariant.long;
      few = omega (arith, c.apply_record.ensures.bounded, c.loop-r.invariant.few);
      below = (and_parts _ _ (sym rest ∙ c.loop-r.invariant.below)).1;
    }
