-- A home lane, read in a walk over its records.
use Rattle.std.proofs.Common.{◌≡◌, ◌∙◌, ℕ, ◌+◌, ◌<◌, ◌==◌, Bool, true, false, not, ◌&&◌, ◌||◌, cond, List, [], ◌∷◌, ◌++◌, length, map, take, drop, get_or, ap, sym, refl, arith}
use Rattle.std.specs.List.{list_any}
use Rattle.std.proofs.lemmas.Bool.{and_from, and_parts}
use Rattle.std.specs.Ordering.{is_eq}
use Rattle.std.proofs.lemmas.List.{length-map, take_more, take-append-drop}
use Rattle.std.proofs.lemmas.List.Folds.{list_any-append}
use Rattle.qp_model.specs.declared.record.Rec.{Rec}
use Rattle.qp_model.specs.Record.{item_of}
use Rattle.qp_model.specs.History.{lane_items}
use Rattle.qp_model.specs.HomeLane.{all_differ, are_at_home, is_at_home, count_taken}
use Rattle.qp_model.proofs.NumberLemmas.{eqb-sym}
use Rattle.qp_check_lanes.specs.Keys.{key_cmp, same_key}
use Rattle.qp_check_lanes.proofs.KeyLemmas.{same-cmp}

module _ (o budget : ℕ) (cuts : Bool) (n : ℕ) (left : List Rec) where
  pub home-next : (r : Rec) (rest : List Rec) → left ≡ r ∷ rest → (spent cut here : Bool) → spent ≡ (n == budget) → cut ≡ (cuts && (length rest == 0))
      → here ≡ is_at_home o spent cut (item_of r).of (item_of r).body → (after : ℕ) → after ≡ count_taken n (item_of r).body
      → are_at_home o budget cuts n (lane_items left) ≡ (here && are_at_home o budget cuts after (lane_items rest))
  unfolding are_at_home lane_items
  home-next r rest is spent cut here spent_is cut_is here_is after after_is =
      let long : length (map item_of rest) ≡ length rest = length-map rest item_of in
      ap (λ l. are_at_home o budget cuts n (map item_of l)) is
      ∙ ap (λ k. is_at_home o (n == budget) (cuts && (k == 0)) (item_of r).of (item_of r).body && are_at_home o budget cuts (count_taken n (item_of r).body) (map item_of rest)) long
      ∙ ap (λ b. is_at_home o b (cuts && (length rest == 0)) (item_of r).of (item_of r).body && are_at_home o budget cuts (count_taken n (item_of r).body) (map item_of rest)) (sym spent_is)
      ∙ ap (λ b. is_at_home o spent b (item_of r).of (item_of r).body && are_at_home o budget cuts (count_taken n (item_of r).body) (map item_of rest)) (sym cut_is)
      ∙ ap (λ b. b && are_at_home o budget cuts (count_taken n (item_of r).body) (map item_of rest)) (sym here_is)
      ∙ ap (λ k. here && are_at_home o budget cuts k (map item_of rest)) (sym after_is)

  pub home-end : length left ≡ 0 → are_at_home o budget cuts n (lane_items left) ≡ true
  unfolding are_at_home lane_items
  home-end none = ap (λ l. are_at_home o budget cuts n (map item_of l)) (empty left none)
    where
      empty : (left : List Rec) → length left ≡ 0 → left ≡ []
      empty [] h = refl
      empty (r ∷ rest) h = absurd (omega arith)

pub same_key-sym : (x y : ℕ × ℕ × ℕ) → same_key x y ≡ same_key y x
same_key-sym x y = rw (eqb-sym x.0 y.0, eqb-sym x.1 y.1, eqb-sym x.2 y.2) refl

-- counts more at the end
pub differ-more : (xs : List (ℕ × ℕ × ℕ)) (x : ℕ × ℕ × ℕ) → all_differ (xs ++ x ∷ []) ≡ (not (list_any (same_key x) xs) && all_differ xs)
unfolding all_differ
differ-more [] x = refl
differ-more (y ∷ ys) x =
    ap (λ b. not b && all_differ (ys ++ x ∷ [])) (list_any-append (same_key y) ys (x ∷ []) ∙ ap (λ b. list_any (same_key y) ys || (b || false)) (same_key-sym y x))
    ∙ ap (λ b. not (list_any (same_key y) ys || (same_key x y || false)) && b) (differ-more ys x)
    ∙ go (list_any (same_key y) ys) (same_key x y) (list_any (same_key x) ys) (all_differ ys)
  where
    go : (a s b d : Bool) → (not (a || (s || false)) && (not b && d)) ≡ (not (s || b) && (not a && d))
    go true true b d = refl
    go true false true d = refl
    go true false false d = refl
    go false true b d = refl
    go false false true d = refl
    go false false false d = refl

-- the front of a list whose counts differ
pub differ-front : (xs ys : List (ℕ × ℕ × ℕ)) → all_differ (xs ++ ys) ≡ true → all_differ xs ≡ true
unfolding all_differ
differ-front [] ys h = refl
differ-front (x ∷ xs) ys h =
    and_from _ _ (go (list_any (same_key x) xs) (list_any (same_key x) ys) (ap not (sym (list_any-append (same_key x) xs ys)) ∙ (and_parts _ _ h).0)) (differ-front xs ys (and_parts _ _ h).1)
  where
    go : (a b : Bool) → not (a || b) ≡ true → not a ≡ true
    go true b h = h
    go false b h = refl

-- the counts of a list so far, in a set
module _ (all : List (ℕ × ℕ × ℕ)) (i : ℕ) (x d : ℕ × ℕ × ℕ) (inside : i < length all) (is : x ≡ get_or all i d) (old : ℕ × ℕ × ℕ → Bool) (seen : (q : ℕ × ℕ × ℕ) → old q ≡ list_any (same_key q) (take i all)) where
  grown : take (i + 1) all ≡ take i all ++ x ∷ []
  grown = take_more all i d inside ∙ ap (λ y. take i all ++ y ∷ []) (sym is)

  grows : all_differ (take (i + 1) all) ≡ (not (old x) && all_differ (take i all))
  grows = ap all_differ grown ∙ differ-more (take i all) x ∙ ap (λ b. not b && all_differ (take i all)) (sym (seen x))

  -- the same stood there
  pub differ-not : old x ≡ true → false ≡ all_differ all
  differ-not h = go (all_differ all) refl
    where
      go : (b : Bool) → all_differ all ≡ b → false ≡ b
      go false e = refl
      go true e =
          let front : all_differ (take (i + 1) all) ≡ true = differ-front (take (i + 1) all) (drop (i + 1) all) (ap all_differ (take-append-drop (i + 1) all) ∙ e) in
          let no : all_differ (take (i + 1) all) ≡ false = grows ∙ ap (λ b. not b && all_differ (take i all)) h in
          cc

  -- they didn't
  pub differ-next : old x ≡ false → all_differ (take i all) ≡ true → all_differ (take (i + 1) all) ≡ true
  differ-next h differ = grows ∙ ap (λ b. not b && all_differ (take i all)) h ∙ differ

  pub seen-next : (new : ℕ × ℕ × ℕ → Bool) → ((q : ℕ × ℕ × ℕ) → new q ≡ cond (is_eq (key_cmp x q)) true (old q)) → (q : ℕ × ℕ × ℕ) → new q ≡ list_any (same_key q) (take (i + 1) all)
  seen-next new put q =
      put q ∙ ap (λ b. cond b true (old q)) (same-cmp x q ∙ same_key-sym x q) ∙ go (same_key q x) (old q)
      ∙ ap (λ b. b || (same_key q x || false)) (seen q) ∙ sym (ap (list_any (same_key q)) grown ∙ list_any-append (same_key q) (take i all) (x ∷ []))
    where
      go : (a b : Bool) → cond a true b ≡ (b || (a || false))
      go true true = refl
      go true false = refl
      go false true = refl
      go false false = refl
