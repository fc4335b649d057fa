-- Two lists side by side.
use Rattle.std.proofs.Common.{◌≡◌, ℕ, zero, suc, List, [], ◌∷◌, Some, refl, subst}
use Rattle.std.specs.List.{AllByRecursion, slice_get}
use Rattle.std.proofs.lemmas.Option.{none-some}
use Rattle.qp_chart_names.specs.Pairs.{Corresponds}

-- what holds of the first of each pair is carried to the second
pub Corresponds-every : {A B : Type 0} (R : A → B → Type 0) (P : A → Type 0) (Q : B → Type 0) → ((x : A) (y : B) → R x y → P x → Q y)
    → (xs : List A) (ys : List B) → Corresponds R xs ys → AllByRecursion P xs → AllByRecursion Q ys
unfolding Corresponds
Corresponds-every R P Q step [] [] pairs h = tt
Corresponds-every R P Q step [] (y ∷ ys) pairs h = absurd pairs
Corresponds-every R P Q step (x ∷ xs) [] pairs h = absurd pairs
Corresponds-every R P Q step (x ∷ xs) (y ∷ ys) pairs h = (step x y pairs.0 h.0, Corresponds-every R P Q step xs ys pairs.1 h.1)

-- what each of the second list has beside its partner
pub Corresponds-each : {A B : Type 0} (R : A → B → Type 0) (Q : B → Type 0) → ((x : A) (y : B) → R x y → Q y) → (xs : List A) (ys : List B) → Corresponds R xs ys → AllByRecursion Q ys
unfolding Corresponds
Corresponds-each R Q step xs [] pairs = tt
Corresponds-each R Q step [] (y ∷ ys) pairs = absurd pairs
Corresponds-each R Q step (x ∷ xs) (y ∷ ys) pairs = (step x y pairs.0, Corresponds-each R Q step xs ys pairs.1)

-- the partner of a member of the first list
pub Corresponds-partner : {A B : Type 0} (R : A → B → Type 0) (xs : List A) (ys : List B) → Corresponds R xs ys → (i : ℕ) (x : A) → slice_get xs i ≡ Some x → (y : B) × (slice_get ys i ≡ Some y) × R x y
unfolding Corresponds
Corresponds-partner R [] [] pairs i x at = absurd (none-some x at)
Corresponds-partner R [] (y ∷ ys) pairs i x at = absurd pairs
Corresponds-partner R (z ∷ xs) [] pairs i x at = absurd pairs
Corresponds-partner R (z ∷ xs) (y ∷ ys) pairs zero x at = let same : z ≡ x = cc in (y, refl, subst (λ a. R a y) same pairs.0)
Corresponds-partner R (z ∷ xs) (y ∷ ys) pairs (suc i) x at = Corresponds-partner R xs ys pairs.1 i x at
