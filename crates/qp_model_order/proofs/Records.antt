-- The records of lanes in another order: as many pass each test, and what holds of each holds of each.
use Rattle.std.proofs.Common.{◌≡◌, ℕ, ◌+◌, Bool, true, false, cond, List, [], ◌∷◌, ◌++◌, length, refl, sym, ◌∙◌, ap, subst, arith, length-append, IsPermutation}
use Rattle.std.specs.List.{filter, list_all, sum_by, AllByRecursion}
use Rattle.std.proofs.lemmas.Bool.{and_from, and_parts}
use Rattle.std.proofs.lemmas.List.Elements.{All-from_recursion, recursion_from_All, filter-append}
use Rattle.std.proofs.lemmas.List.Sums.{sum_by-cons}
use Rattle.std.proofs.lemmas.List.Sorted.{All-permutation, sum_by-IsPermutation}
use Rattle.qp_model.specs.declared.record.Rec.{Rec}
use Rattle.qp_model.specs.Record.{Item}
use Rattle.qp_model.specs.History.{lane_items, all_items}

module _ {X : Type 0} where
  pub all-each : (p : X → Bool) (xs : List X) → list_all p xs ≡ true → AllByRecursion (λ x. p x ≡ true) xs
  all-each p [] h = tt
  all-each p (x ∷ xs) h = ((and_parts _ _ h).0, all-each p xs (and_parts _ _ h).1)

  pub each-all : (p : X → Bool) (xs : List X) → AllByRecursion (λ x. p x ≡ true) xs → list_all p xs ≡ true
  each-all p [] h = refl
  each-all p (x ∷ xs) h = and_from _ _ h.0 (each-all p xs h.1)

  each-append : (P : X → Type 0) (xs ys : List X) → AllByRecursion P xs → AllByRecursion P ys → AllByRecursion P (xs ++ ys)
  each-append P [] ys a b = b
  each-append P (x ∷ xs) ys a b = (a.0, each-append P xs ys a.1 b)

  each-parts : (P : X → Type 0) (xs ys : List X) → AllByRecursion P (xs ++ ys) → AllByRecursion P xs × AllByRecursion P ys
  each-parts P [] ys h = (tt, h)
  each-parts P (x ∷ xs) ys h = let r = each-parts P xs ys h.1 in ((h.0, r.0), r.1)

  -- what holds of those that pass
  passed : (p : X → Bool) (Q : X → Type 0) (xs : List X) → AllByRecursion Q (filter p xs) → AllByRecursion (λ x. p x ≡ true → Q x) xs
  passed p Q [] h = tt
  passed p Q (x ∷ xs) h = go (p x) refl (passed p Q xs) h
    where
      go : (b : Bool) → p x ≡ b → (AllByRecursion Q (filter p xs) → AllByRecursion (λ x. p x ≡ true → Q x) xs) → AllByRecursion Q (cond b (x ∷ filter p xs) (filter p xs)) → (p x ≡ true → Q x) × AllByRecursion (λ x. p x ≡ true → Q x) xs
      go true is rest k = ((λ yes. k.0), rest k.1)
      go false is rest k = ((λ yes. absurd (cc)), rest k)

  passing : (p : X → Bool) (Q : X → Type 0) (xs : List X) → AllByRecursion (λ x. p x ≡ true → Q x) xs → AllByRecursion Q (filter p xs)
  passing p Q [] h = tt
  passing p Q (x ∷ xs) h = go (p x) refl (passing p Q xs h.1)
    where
      go : (b : Bool) → p x ≡ b → AllByRecursion Q (filter p xs) → AllByRecursion Q (cond b (x ∷ filter p xs) (filter p xs))
      go true is k = (h.0 is, k)
      go false is k = k

  one-left : (a : X) (xs : List X) → length xs ≡ 1 → AllByRecursion (λ x. x ≡ a) xs → xs ≡ a ∷ []
  one-left a [] l h = absurd (omega arith)
  one-left a (x ∷ []) l h = ap (λ y. y ∷ []) h.0
  one-left a (x ∷ y ∷ xs) l h = absurd (omega arith)

module _ (P : Item → Type 0) where
  items-each : (ls : List (List Rec)) → AllByRecursion (λ l. AllByRecursion P (lane_items l)) ls → AllByRecursion P (all_items ls)
  unfolding all_items
  items-each [] h = tt
  items-each (l ∷ ls) h = each-append P (lane_items l) (all_items ls) h.0 (items-each ls h.1)

  each-items : (ls : List (List Rec)) → AllByRecursion P (all_items ls) → AllByRecursion (λ l. AllByRecursion P (lane_items l)) ls
  unfolding all_items
  each-items [] h = tt
  each-items (l ∷ ls) h = let r = each-parts P (lane_items l) (all_items ls) h in (r.0, each-items ls r.1)

passing-in : (p : Item → Bool) → List Rec → ℕ
passing-in p l = length (filter p (lane_items l))

sum-passing : (p : Item → Bool) (ls : List (List Rec)) → length (filter p (all_items ls)) ≡ sum_by (passing-in p) ls
unfolding all_items passing-in
sum-passing p [] = refl
sum-passing p (l ∷ ls) =
    ap length (filter-append p (lane_items l) (all_items ls))
    ∙ (length-append (filter p (lane_items l)) (filter p (all_items ls)) ∙ ((λ i. length (filter p (lane_items l)) + sum-passing p ls i) ∙ sym (sum_by-cons (passing-in p) l ls)))

module _ (xs ys : List (List Rec)) (order : IsPermutation xs ys) where
  pub each-ordered : (P : Item → Type 0) → AllByRecursion P (all_items xs) → AllByRecursion P (all_items ys)
  each-ordered P h =
      items-each P ys (recursion_from_All (λ l. AllByRecursion P (lane_items l)) ys (All-permutation (λ l. AllByRecursion P (lane_items l)) xs ys order (All-from_recursion (λ l. AllByRecursion P (lane_items l)) xs (each-items P xs h))))

  pub all-ordered : (p : Item → Bool) → list_all p (all_items xs) ≡ true → list_all p (all_items ys) ≡ true
  all-ordered p h = each-all p (all_items ys) (each-ordered (λ i. p i ≡ true) (all-each p (all_items xs) h))

  pub count-ordered : (p : Item → Bool) → length (filter p (all_items ys)) ≡ length (filter p (all_items xs))
  count-ordered p = sum-passing p ys ∙ (sum_by-IsPermutation (passing-in p) xs ys order ∙ sym (sum-passing p xs))

  -- where one passes, it is the same one
  pub one-ordered : (p : Item → Bool) → length (filter p (all_items xs)) ≡ 1 → filter p (all_items ys) ≡ filter p (all_items xs)
  one-ordered p one = go (filter p (all_items xs)) refl one
    where
      go : (fs : List Item) → filter p (all_items xs) ≡ fs → length fs ≡ 1 → filter p (all_items ys) ≡ filter p (all_items xs)
      go [] e l = absurd (omega arith)
      go (a ∷ b ∷ fs) e l = absurd (omega arith)
      go (a ∷ []) e l =
          let here : AllByRecursion (λ x. x ≡ a) (filter p (all_items xs)) = subst (AllByRecursion (λ x. x ≡ a)) (sym e) (refl, tt) in
          let there = passing p (λ x. x ≡ a) (all_items ys) (each-ordered (λ x. p x ≡ true → x ≡ a) (passed p (λ x. x ≡ a) (all_items xs) here)) in
          one-left a (filter p (all_items ys)) (count-ordered p ∙ one) there ∙ sym e
