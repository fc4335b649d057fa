-- Short lists of numbers, as code changes them in place.
use Rattle.std.proofs.Common.{◌≡◌, ℕ, zero, suc, ◌+◌, ◌==◌, Bool, true, false, not, cond, List, [], ◌∷◌, ◌++◌, map, refl, ap, sym, ◌∙◌, arith, append_assoc, append-nil}
use Rattle.std.specs.List.{filter, flat_map}
use Rattle.std.proofs.lemmas.List.{map-append}
use Rattle.std.proofs.lemmas.List.Concat.{flat_map-append}
use Rattle.std.proofs.lemmas.List.Elements.{filter-append}
use Rattle.qp_model.specs.Lists.{count_up, without_all}

pub without_all-filter : (n : ℕ) (xs : List ℕ) → without_all n xs ≡ filter (λ x. not (x == n)) xs
without_all-filter n [] = refl
without_all-filter n (x ∷ xs) = go (x == n) (without_all-filter n xs)
  where
    go : (b : Bool) → without_all n xs ≡ filter (λ x. not (x == n)) xs → cond b (without_all n xs) (x ∷ without_all n xs) ≡ cond (not b) (x ∷ filter (λ x. not (x == n)) xs) (filter (λ x. not (x == n)) xs)
    go true e = e
    go false e = ap (λ ys. x ∷ ys) e

pub count_up-last : (k n : ℕ) → count_up k (n + 1) ≡ count_up k n ++ (k + n) ∷ []
count_up-last k zero = let e : k ≡ k + zero = omega arith in ap (λ j. j ∷ []) e
count_up-last k (suc n) =
    let e : suc n + 1 ≡ suc (n + 1) = omega arith in
    let s : k + 1 + n ≡ k + suc n = omega arith in
    rw e (ap (λ ys. k ∷ ys) (count_up-last (k + 1) n ∙ ap (λ j. count_up (k + 1) n ++ j ∷ []) s))

-- a value more for the next number
pub map-more : {X : Type 0} (f : ℕ → X) (before : List X) (k n : ℕ) (x : X) (ws : List X) → ws ≡ before ++ map f (count_up k n) → x ≡ f (k + n) → ws ++ x ∷ [] ≡ before ++ map f (count_up k (n + 1))
map-more f before k n x ws is next =
    ap (λ vs. vs ++ x ∷ []) is
    ∙ append_assoc before (map f (count_up k n)) (x ∷ [])
    ∙ ap (λ y. before ++ (map f (count_up k n) ++ y ∷ [])) next
    ∙ ap (λ vs. before ++ vs) (sym (ap (map f) (count_up-last k n) ∙ map-append f (count_up k n) ((k + n) ∷ [])))

-- a list more for the next number
pub flat_map-more : {X : Type 0} (f : ℕ → List X) (before : List X) (k n : ℕ) (xs ws : List X) → ws ≡ before ++ flat_map f (count_up k n) → xs ≡ f (k + n) → ws ++ xs ≡ before ++ flat_map f (count_up k (n + 1))
flat_map-more f before k n xs ws is next =
    ap (λ vs. vs ++ xs) is
    ∙ append_assoc before (flat_map f (count_up k n)) xs
    ∙ ap (λ y. before ++ (flat_map f (count_up k n) ++ y)) (next ∙ sym (append-nil (f (k + n))))
    ∙ ap (λ vs. before ++ vs) (sym (ap (flat_map f) (count_up-last k n) ∙ flat_map-append f (count_up k n) ((k + n) ∷ [])))

-- a value more where the next number passes
pub passed-more : {X : Type 0} (f : ℕ → X) (p : ℕ → Bool) (before : List X) (n : ℕ) (ws : List X) → ws ≡ before ++ map f (filter p (count_up 0 n)) → p n ≡ true → ws ++ f n ∷ [] ≡ before ++ map f (filter p (count_up 0 (n + 1)))
passed-more f p before n ws is passes =
    ap (λ vs. vs ++ f n ∷ []) is
    ∙ append_assoc before (map f (filter p (count_up 0 n))) (f n ∷ [])
    ∙ ap (λ vs. before ++ vs) (sym (map-append f (filter p (count_up 0 n)) (n ∷ [])) ∙ ap (map f) (sym (next-passes n passes)))
  where
    next-passes : (n : ℕ) → p n ≡ true → filter p (count_up 0 (n + 1)) ≡ filter p (count_up 0 n) ++ n ∷ []
    next-passes n passes =
        let zero_more : 0 + n ≡ n = omega arith in
        ap (filter p) (count_up-last 0 n ∙ ap (λ j. count_up 0 n ++ j ∷ []) zero_more) ∙ filter-append p (count_up 0 n) (n ∷ []) ∙ rw passes refl

pub passed-same : {X : Type 0} (f : ℕ → X) (p : ℕ → Bool) (before : List X) (n : ℕ) (ws : List X) → ws ≡ before ++ map f (filter p (count_up 0 n)) → p n ≡ false → ws ≡ before ++ map f (filter p (count_up 0 (n + 1)))
passed-same f p before n ws is fails = is ∙ ap (λ vs. before ++ map f vs) (sym (next-fails n fails))
  where
    next-fails : (n : ℕ) → p n ≡ false → filter p (count_up 0 (n + 1)) ≡ filter p (count_up 0 n)
    next-fails n fails =
        let zero_more : 0 + n ≡ n = omega arith in
        ap (filter p) (count_up-last 0 n ∙ ap (λ j. count_up 0 n ++ j ∷ []) zero_more) ∙ filter-append p (count_up 0 n) (n ∷ []) ∙ rw fails (append-nil (filter p (count_up 0 n)))
