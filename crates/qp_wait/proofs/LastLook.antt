-- The last look among records.
use Rattle.std.proofs.Common.{◌≡◌, ℕ, zero, suc, ◌<◌, ◌≤◌, true, false, List, [], ◌∷◌, ◌++◌, length, length-append, refl, sym, ◌∙◌, subst, arith, Option, Some, None}
use Rattle.qp_model.specs.declared.record.Rec.{Rec}
use Rattle.qp_model.specs.History.{lane_items}
use Rattle.qp_model.specs.Record.{item_of}
use Rattle.qp_model.specs.Told.{ToldItem}
use Rattle.qp_model_order.specs.SourceRun.{untold_all}
use Rattle.qp_wait.specs.Parked.{is_empty_look, is_park_place}
use Rattle.qp_wait.specs.Looking.{IsLastLookAt, is_look_in}

module _ (me : ℕ) where
  look-last : (front : List Rec) (r : Rec) → is_look_in me (lane_items (front ++ r ∷ [])) (length front) ≡ is_empty_look me (item_of r).of (item_of r).body
  unfolding lane_items
  look-last [] r = refl
  look-last (x ∷ front) r = look-last front r

  -- beyond the end stands none
  look-beyond : (recs : List Rec) (k : ℕ) → length recs ≤ k → is_look_in me (lane_items recs) k ≡ false
  unfolding lane_items
  look-beyond [] zero few = refl
  look-beyond [] (suc k) few = refl
  look-beyond (x ∷ recs) zero few = absurd (omega (arith, few))
  look-beyond (x ∷ recs) (suc k) few = look-beyond recs k (omega (arith, few))

  -- a place in the front
  look-still : (front : List Rec) (r : Rec) (k : ℕ) → is_look_in me (lane_items front) k ≡ true → is_look_in me (lane_items (front ++ r ∷ [])) k ≡ true
  unfolding lane_items
  look-still [] r zero h = absurd (cc)
  look-still [] r (suc k) h = absurd (cc)
  look-still (x ∷ front) r zero h = h
  look-still (x ∷ front) r (suc k) h = look-still front r k h

  -- another record stands behind it
  look-more : (front : List Rec) (r : Rec) (k : ℕ) → is_empty_look me (item_of r).of (item_of r).body ≡ false → is_look_in me (lane_items front) k ≡ false → is_look_in me (lane_items (front ++ r ∷ [])) k ≡ false
  unfolding lane_items
  look-more [] r zero apart h = apart
  look-more [] r (suc k) apart h = look-beyond (r ∷ []) (suc k) (omega arith)
  look-more (x ∷ front) r zero apart h = h
  look-more (x ∷ front) r (suc k) apart h = look-more front r k apart h

  module _ (recs front : List Rec) (r : Rec) (is : recs ≡ front ++ r ∷ []) where
    -- it is the last record
    pub last-found : is_empty_look me (item_of r).of (item_of r).body ≡ true → IsLastLookAt me (lane_items recs) (Some (length front))
    last-found found =
        subst (λ rs. IsLastLookAt me (lane_items rs) (Some (length front))) (sym is)
        (look-last front r ∙ found, λ k less. look-beyond (front ++ r ∷ []) k (let long = length-append front (r ∷ []) in omega (arith, less, long)))

    -- it stands before
    pub last-before : (n : Option ℕ) → is_empty_look me (item_of r).of (item_of r).body ≡ false → IsLastLookAt me (lane_items front) n → IsLastLookAt me (lane_items recs) n
    last-before None apart h = subst (λ rs. IsLastLookAt me (lane_items rs) None) (sym is) (λ k. look-more front r k apart (h k))
    last-before (Some n) apart h = subst (λ rs. IsLastLookAt me (lane_items rs) (Some n)) (sym is) (look-still front r n h.0, λ k less. look-more front r k apart (h.1 k less))

  pub last-none : (recs : List Rec) → length recs ≡ 0 → IsLastLookAt me (lane_items recs) None
  last-none recs none k = look-beyond recs k (omega (arith, none))

  -- as the lane tells it
  look-told : (told : List ToldItem) (n : ℕ) → is_look_in me (untold_all told) n ≡ is_park_place me told n
  look-told [] zero = refl
  look-told [] (suc n) = refl
  look-told (t ∷ told) zero = refl
  look-told (t ∷ told) (suc n) = look-told told n

  pub told-look : (told : List ToldItem) (recs : List Rec) (n : ℕ) → lane_items recs ≡ untold_all told → IsLastLookAt me (lane_items recs) (Some n)
      → (is_park_place me told n ≡ true) × ((k : ℕ) → n < k → is_park_place me told k ≡ false)
  told-look told recs n same h =
      let look = subst (λ is. IsLastLookAt me is (Some n)) same h in
      (sym (look-told told n) ∙ look.0, λ k less. sym (look-told told k) ∙ look.1 k less)

  pub told-none : (told : List ToldItem) (recs : List Rec) → lane_items recs ≡ untold_all told → IsLastLookAt me (lane_items recs) None → (n : ℕ) → is_park_place me told n ≡ true → ⊥
  told-none told recs same h n look =
      let none : is_look_in me (untold_all told) n ≡ false = subst (λ is. is_look_in me is n ≡ false) same (h n) in
      let apart : false ≡ true = sym none ∙ look-told told n ∙ look in
      absurd (cc)
