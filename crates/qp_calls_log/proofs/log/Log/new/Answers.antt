use Rattle.std.proofs.Common.{◌≡◌, ◌+◌, ◌≤◌, true, [], ℕ, List, length, refl, subst, sym, ◌∙◌, ap, arith, get_or, None, replicate, Option}
use Rattle.std.specs.List.{list_all}
use Rattle.std.proofs.lemmas.List.{get_or-replicate, length-replicate}
use Rattle.qp_model.specs.declared.record.Rec.{Rec}
use Rattle.qp_model.specs.History.{lane_items}
use Rattle.qp_calls.specs.declared.answers.Counts as counts
use Rattle.qp_calls.specs.LaneView.{NotShown}
use Rattle.qp_calls_log.specs.Lane.{nil_of, last_nil_in}
use Rattle.qp_calls.specs.LaneLaws.{is_caused_in}
use Rattle.qp_calls_log.proofs.LogLemmas.{regular, spills}
use Rattle.qp_calls_log.proofs.log.Log.new.Goals as goal

abbrev no_counts : Option counts.Counts
no_counts = None

nothing : (a : ℕ) → last_nil_in a NotShown (lane_items []) ≡ NotShown
unfolding lane_items last_nil_in
nothing a = refl

none : regular (lane_items []) ≡ 0
unfolding lane_items
none = refl

no_spill : spills (lane_items []) ≡ 0
unfolding lane_items
no_spill = refl

pub invariant_of-result : goal.invariant_of-result
invariant_of-result c =
    let empty : c.in-Ok.recs.items ≡ [] = c.in-Ok.ensures.items in
    let nils : c.in-Ok-from_array.nils.items ≡ replicate 33 None = c.in-Ok-from_array.ensures.items in
    record {
      roomy = omega (arith, c.in-Ok.ensures.len, c.in-Ok.ensures.capacity);
      few = subst (λ (z : List Rec). regular (lane_items z) + 0 ≤ 1000000) (sym empty) (omega (arith, none));
      spills = subst (λ (z : List Rec). spills (lane_items z) + 1 ≡ 1) (sym empty) (omega (arith, no_spill));
      seats = ap length nils ∙ length-replicate 33 no_counts;
      nils_are = λ a lt. subst (λ (z : List Rec). nil_of (get_or c.in-Ok-from_array.nils.items a None) ≡ last_nil_in a NotShown (lane_items z)) (sym empty)
          (ap (λ xs. nil_of (get_or xs a None)) nils ∙ ap nil_of (get_or-replicate 33 a no_counts no_counts lt) ∙ sym (nothing a));
      causes = subst (λ xs. list_all (is_caused_in (lane_items c.in-Ok.recs.items)) xs ≡ true) (sym c.new.ensures) refl;
    }
