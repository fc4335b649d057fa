-- Paths of parents.
use Rattle.std.proofs.Common.{◌≡◌, ℕ, zero, suc, ◌-◌, ◌<◌, List, [], ◌∷◌, get_or, Option, Some, None, refl, arith}
use Rattle.qp_chart.specs.Parents.{parent_in, path_in}

-- nothing stands above the top
pub path_in-None : (parents : List (Option ℕ)) (n : ℕ) → path_in parents n None ≡ []
unfolding path_in
path_in-None parents zero = refl
path_in-None parents (suc n) = refl

-- no state within no steps
pub path_in-zero : (parents : List (Option ℕ)) (s : Option ℕ) → path_in parents 0 s ≡ []
unfolding path_in
path_in-zero parents s = refl

-- a state, and what stands above it
pub path_in-Some : (parents : List (Option ℕ)) (n s : ℕ) → 0 < n → path_in parents n (Some s) ≡ s ∷ path_in parents (n - 1) (parent_in parents s)
unfolding path_in
path_in-Some parents zero s h = absurd (omega (arith, h))
path_in-Some parents (suc n) s h = let less : suc n - 1 ≡ n = omega arith in rw less refl

-- what is read is what is read, whatever the default
pub get_or-itself : {A : Type 0} (xs : List A) (i : ℕ) (d : A) → get_or xs i d ≡ get_or xs i (get_or xs i d)
get_or-itself [] i d = refl
get_or-itself (x ∷ xs) zero d = refl
get_or-itself (x ∷ xs) (suc i) d = get_or-itself xs i d
