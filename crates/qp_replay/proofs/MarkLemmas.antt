-- A mark more or one fewer in the row of a key, and the first of a row.
use Rattle.std.proofs.Common.{◌≡◌, ◌∙◌, ℕ, ◌≤◌, ◌==◌, nat_lt, Bool, true, false, not, ◌&&◌, ◌||◌, cond, Option, Some, None, List, [], ◌∷◌, length, refl, sym, ap, arith}
use Rattle.std.specs.List.{list_any}
use Rattle.std.specs.Option.{option_map_or}
use Rattle.std.specs.BTreeSet.{BTreeSet, contains}
use Rattle.std.specs.Ordering.{is_eq, is_gt, nat_cmp, ordering_then}
use Rattle.std.specs.declared.cmp.Ordering.{Ordering}
use Rattle.std.specs.declared.cmp.Ordering.TheVariants.{Less, Equal, Greater}
use Rattle.std.proofs.lemmas.Bool.Decides.{nat_tests}
use Rattle.std.proofs.Math.Bool.{or-false, and-true}
use Rattle.qp_check_lanes.specs.Keys.{key_cmp, same_key}
use Rattle.qp_check_lanes.proofs.KeyLemmas.{same-cmp, key-is}

pub put-has : (key q mark e : ℕ × ℕ × ℕ) (old : ℕ × ℕ × ℕ → Option (BTreeSet (ℕ × ℕ × ℕ))) (gone new : Option (BTreeSet (ℕ × ℕ × ℕ))) (row more : BTreeSet (ℕ × ℕ × ℕ))
    → new ≡ cond (is_eq (key_cmp key q)) (Some more) gone → gone ≡ cond (is_eq (key_cmp key q)) None (old q)
    → contains key_cmp more e ≡ cond (is_eq (key_cmp mark e)) true (contains key_cmp row e) → contains key_cmp row e ≡ option_map_or (λ s. contains key_cmp s e) (old key) false
    → option_map_or (λ s. contains key_cmp s e) new false ≡ (option_map_or (λ s. contains key_cmp s e) (old q) false || (same_key key q && same_key mark e))
put-has key q mark e old gone new row more is was has_more has_row = go (same_key key q) refl
  where
    -- with the mark or without it
    with_mark : (m h : Bool) → cond m true h ≡ (h || m)
    with_mark true true = refl
    with_mark true false = refl
    with_mark false true = refl
    with_mark false false = refl

    go : (s : Bool) → same_key key q ≡ s → option_map_or (λ s. contains key_cmp s e) new false ≡ (option_map_or (λ s. contains key_cmp s e) (old q) false || (s && same_key mark e))
    go true h =
        let here : is_eq (key_cmp key q) ≡ true = same-cmp key q ∙ h in
        let now : new ≡ Some more = is ∙ ap (λ b. cond b (Some more) gone) here in
        ap (λ o. option_map_or (λ s. contains key_cmp s e) o false) now ∙ has_more ∙ ap (λ b. cond b true (contains key_cmp row e)) (same-cmp mark e) ∙ with_mark (same_key mark e) (contains key_cmp row e)
        ∙ ap (λ b. b || same_key mark e) (has_row ∙ ap (λ k. option_map_or (λ s. contains key_cmp s e) (old k) false) (key-is key q h))
    go false h =
        let here : is_eq (key_cmp key q) ≡ false = same-cmp key q ∙ h in
        let now : new ≡ old q = is ∙ ap (λ b. cond b (Some more) gone) here ∙ was ∙ ap (λ b. cond b None (old q)) here in
        ap (λ o. option_map_or (λ s. contains key_cmp s e) o false) now ∙ sym (or-false _)

pub take-has : (key q mark e : ℕ × ℕ × ℕ) (old : ℕ × ℕ × ℕ → Option (BTreeSet (ℕ × ℕ × ℕ))) (new : Option (BTreeSet (ℕ × ℕ × ℕ))) (row less : BTreeSet (ℕ × ℕ × ℕ))
    → new ≡ cond (is_eq (key_cmp key q)) (Some less) (old q) → contains key_cmp less e ≡ cond (is_eq (key_cmp mark e)) false (contains key_cmp row e) → old key ≡ Some row
    → option_map_or (λ s. contains key_cmp s e) new false ≡ (option_map_or (λ s. contains key_cmp s e) (old q) false && not (same_key key q && same_key mark e))
take-has key q mark e old new row less is has_less has_row = go (same_key key q) refl
  where
    without_mark : (m h : Bool) → cond m false h ≡ (h && not m)
    without_mark true true = refl
    without_mark true false = refl
    without_mark false true = refl
    without_mark false false = refl

    go : (s : Bool) → same_key key q ≡ s → option_map_or (λ s. contains key_cmp s e) new false ≡ (option_map_or (λ s. contains key_cmp s e) (old q) false && not (s && same_key mark e))
    go true h =
        let now : new ≡ Some less = is ∙ ap (λ b. cond b (Some less) (old q)) (same-cmp key q ∙ h) in
        ap (λ o. option_map_or (λ s. contains key_cmp s e) o false) now ∙ has_less ∙ ap (λ b. cond b false (contains key_cmp row e)) (same-cmp mark e) ∙ without_mark (same_key mark e) (contains key_cmp row e)
        ∙ ap (λ o. option_map_or (λ s. contains key_cmp s e) o false && not (same_key mark e)) (sym has_row ∙ ap old (key-is key q h))
    go false h =
        let now : new ≡ old q = is ∙ ap (λ b. cond b (Some less) (old q)) (same-cmp key q ∙ h) in
        ap (λ o. option_map_or (λ s. contains key_cmp s e) o false) now ∙ sym (and-true _)

-- there is nothing to take
pub take-none : (key q mark e : ℕ × ℕ × ℕ) (old : ℕ × ℕ × ℕ → Option (BTreeSet (ℕ × ℕ × ℕ))) → old key ≡ None
    → option_map_or (λ s. contains key_cmp s e) (old q) false ≡ (option_map_or (λ s. contains key_cmp s e) (old q) false && not (same_key key q && same_key mark e))
take-none key q mark e old none = go (same_key key q) refl
  where
    go : (s : Bool) → same_key key q ≡ s → option_map_or (λ s. contains key_cmp s e) (old q) false ≡ (option_map_or (λ s. contains key_cmp s e) (old q) false && not (s && same_key mark e))
    go true h = let nothing : old q ≡ None = ap old (sym (key-is key q h)) ∙ none in rw nothing refl
    go false h = sym (and-true _)

-- of keys that aren't above others, the first numbers aren't
pub not-above : (x y : ℕ × ℕ × ℕ) → is_gt (key_cmp x y) ≡ false → x.0 ≤ y.0
not-above x y h = go (nat_lt y.0 x.0) refl
  where
    above : (a b c : Ordering) → is_gt a ≡ true → is_gt (ordering_then (ordering_then a b) c) ≡ true
    above Greater b c e = refl
    above Equal b c e = cc
    above Less b c e = cc

    go : (l : Bool) → nat_lt y.0 x.0 ≡ l → x.0 ≤ y.0
    go false e = grind (arith, nat_tests)
    go true e =
        let less : nat_lt x.0 y.0 ≡ false = grind (arith, nat_tests) in
        let same : (x.0 == y.0) ≡ false = grind (arith, nat_tests) in
        let up : is_gt (nat_cmp x.0 y.0) ≡ true = rw (less, same) refl in
        let both : true ≡ false = sym (above (nat_cmp x.0 y.0) (nat_cmp x.1 y.1) (nat_cmp x.2 y.2) up) ∙ h in
        absurd (cc both)

pub none-has : (s : BTreeSet (ℕ × ℕ × ℕ)) (e : ℕ × ℕ × ℕ) → length s.keys ≡ 0 → contains key_cmp s e ≡ false
none-has s e none = go s.keys none
  where
    go : (ks : List (ℕ × ℕ × ℕ)) → length ks ≡ 0 → list_any (λ k. is_eq (key_cmp e k)) ks ≡ false
    go [] z = refl
    go (k ∷ ks) z = absurd (omega (arith, z))
