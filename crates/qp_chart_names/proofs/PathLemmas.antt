-- The words of keys.
use Rattle.std.proofs.Common.{◌≡◌, ℕ, zero, suc, ◌≤◌, List, [], ◌∷◌, length, map, get_or, Bor, refl, arith}
use Rattle.std.specs.List.{slice_get}
use Rattle.std.specs.Option.{unwrap_or}

-- the text behind a reference in a table
pub now-get_or : (table : List (Bor (List ℕ))) (k : ℕ) → (get_or table k (record { ref_ptr = (0, 0); now = [] })).now ≡ unwrap_or (slice_get (map (λ (x : Bor (List ℕ)). x.now) table) k) []
now-get_or [] k = refl
now-get_or (x ∷ xs) zero = refl
now-get_or (x ∷ xs) (suc k) = now-get_or xs k

-- past the end of a table there is no text
pub unwrap_or-past : (table : List (List ℕ)) (k : ℕ) → length table ≤ k → [] ≡ unwrap_or (slice_get table k) []
unwrap_or-past [] k h = refl
unwrap_or-past (x ∷ xs) zero h = absurd (omega (arith, h))
unwrap_or-past (x ∷ xs) (suc k) h = unwrap_or-past xs k (omega (arith, h))
