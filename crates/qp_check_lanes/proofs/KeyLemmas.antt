-- Words are the same where their keys are.
use Rattle.std.proofs.Common.{◌≡◌, ◌∙◌, ℕ, ◌==◌, Bool, true, false, ◌&&◌, cond, List, [], ◌∷◌, ◌++◌, ap, sym, refl, arith, append-nil, Option, Some}
use Rattle.std.specs.Option.{unwrap_or}
use Rattle.std.proofs.lemmas.Bool.Decides.{nat_tests}
use Rattle.std.specs.Cmp.{tied_then, unsigned_tied}
use Rattle.std.specs.Ordering.{is_eq, nat_cmp, ordering_then}
use Rattle.qp_model.specs.Record.{Item}
use Rattle.qp_check_lanes.specs.Keys.{key_cmp, same_key}

pub same-cmp : (x y : ℕ × ℕ × ℕ) → is_eq (key_cmp x y) ≡ same_key x y
same-cmp x y =
    let first = nat_cmp x.0 y.0 in
    let second = nat_cmp x.1 y.1 in
    let third = nat_cmp x.2 y.2 in
    sym (tied_then (ordering_then first second) third) ∙ ap (λ b. b && is_eq third) (sym (tied_then first second))
    ∙ rw (unsigned_tied x.0 y.0, unsigned_tied x.1 y.1, unsigned_tied x.2 y.2) (go (x.0 == y.0) (x.1 == y.1) (x.2 == y.2))
  where
    go : (a b c : Bool) → ((a && b) && c) ≡ (a && b && c)
    go true b c = refl
    go false b c = refl

pub key-is : (x y : ℕ × ℕ × ℕ) → same_key x y ≡ true → x ≡ y
key-is x y h =
    let first : x.0 ≡ y.0 = grind (arith, nat_tests) in
    let second : x.1 ≡ y.1 = grind (arith, nat_tests) in
    let third : x.2 ≡ y.2 = grind (arith, nat_tests) in
    λ i. (first i, second i, third i)

-- a record put into the row of one number
pub row-put : (n b : ℕ) (row before : List Item) (i : Item) → row ≡ before → cond (same_key (n, 0, 0) (b, 0, 0)) (row ++ i ∷ []) row ≡ before ++ cond (n == b) (i ∷ []) []
row-put n b row before i is = go (n == b)
  where
    go : (s : Bool) → cond ((s && true) && true) (row ++ i ∷ []) row ≡ before ++ cond s (i ∷ []) []
    go true = ap (λ l. l ++ i ∷ []) is
    go false = is ∙ sym (append-nil before)

-- a record more in the row of a key
pub row-more : (key q : ℕ × ℕ × ℕ) (i : Item) (old : ℕ × ℕ × ℕ → Option (List Item)) (new : Option (List Item)) (more : List Item)
    → new ≡ cond (is_eq (key_cmp key q)) (Some more) (old q) → more ≡ unwrap_or (old key) [] ++ i ∷ []
    → unwrap_or new [] ≡ cond (same_key key q) (unwrap_or (old q) [] ++ i ∷ []) (unwrap_or (old q) [])
row-more key q i old new more is longer = go (same_key key q) refl
  where
    go : (s : Bool) → same_key key q ≡ s → unwrap_or new [] ≡ cond s (unwrap_or (old q) [] ++ i ∷ []) (unwrap_or (old q) [])
    go true h =
        let now : new ≡ Some more = is ∙ ap (λ b. cond b (Some more) (old q)) (same-cmp key q ∙ h) in
        ap (λ o. unwrap_or o []) now ∙ longer ∙ ap (λ k. unwrap_or (old k) [] ++ i ∷ []) (key-is key q h)
    go false h =
        let now : new ≡ old q = is ∙ ap (λ b. cond b (Some more) (old q)) (same-cmp key q ∙ h) in
        ap (λ o. unwrap_or o []) now
