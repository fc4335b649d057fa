-- The records of a lane as a loop comes to them.
use Rattle.std.proofs.Common.{◌≡◌, ◌∙◌, ℕ, ◌+◌, ◌<◌, ◌≤◌, ◌==◌, true, false, ◌&&◌, List, length, drop, get_or, ap, sym, refl, arith}
use Rattle.std.specs.List.{list_all}
use Rattle.std.proofs.lemmas.Bool.Decides.{nat_tests}
use Rattle.qp_model.specs.declared.record.Rec.{Rec}
use Rattle.qp_model.specs.Record.{Item, item_of}
use Rattle.qp_model.specs.History.{lane_items}
use Rattle.qp_model.proofs.RecordLemmas.{items-from, items-past}

module _ (lane : List Rec) (i : ℕ) (r : Rec) (inside : i < length lane) (is : r ≡ get_or lane i r) where
  alone-from : list_all (λ i. i.of == 0) (lane_items (drop i lane)) ≡ ((r.of == 0) && list_all (λ i. i.of == 0) (lane_items (drop (i + 1) lane)))
  unfolding item_of
  alone-from = ap (list_all (λ (i : Item). i.of == 0)) (items-from lane i r inside is)

  -- a record of no object, and one of an object
  pub alone-next : list_all (λ i. i.of == 0) (lane_items lane) ≡ list_all (λ i. i.of == 0) (lane_items (drop i lane)) → r.of ≡ 0
      → list_all (λ i. i.of == 0) (lane_items lane) ≡ list_all (λ i. i.of == 0) (lane_items (drop (i + 1) lane))
  alone-next h e = let none : (r.of == 0) ≡ true = grind (arith, nat_tests) in h ∙ alone-from ∙ rw none refl

  pub alone-not : list_all (λ i. i.of == 0) (lane_items lane) ≡ list_all (λ i. i.of == 0) (lane_items (drop i lane)) → (r.of ≡ 0 → ⊥)
      → false ≡ list_all (λ i. i.of == 0) (lane_items lane)
  alone-not h e = let some : (r.of == 0) ≡ false = grind (arith, nat_tests) in sym (h ∙ alone-from ∙ rw some refl)

pub alone-end : (lane : List Rec) (i : ℕ) → length lane ≤ i → list_all (λ i. i.of == 0) (lane_items lane) ≡ list_all (λ i. i.of == 0) (lane_items (drop i lane))
    → true ≡ list_all (λ i. i.of == 0) (lane_items lane)
alone-end lane i past h = sym (h ∙ ap (list_all (λ (i : Item). i.of == 0)) (items-past lane i past))
