-- Pools with room for an event.
use Rattle.std.proofs.Common.{◌≡◌, ◌∙◌, ℕ, suc, ◌+◌, nat_lt, nat_le, Bool, true, false, cond, not, ◌||◌, List, [], ◌∷◌, length, Some, None, is_some, refl, arith}
use Rattle.std.proofs.lemmas.Bool.Decides.{nat_tests}
use Rattle.std.specs.Option.{option_map}
use Rattle.std.specs.List.{list_any, position_or_len}
use Rattle.qp_model.specs.Parts.{first_pool}

place-any : (p : ℕ → Bool) (xs : List ℕ) → nat_lt (position_or_len p xs) (length xs) ≡ list_any p xs
place-any p [] = refl
place-any p (x ∷ xs) = by (p x) (place-any p xs)
  where
    by : (b : Bool) → nat_lt (position_or_len p xs) (length xs) ≡ list_any p xs
        → nat_lt (cond (not b) (1 + position_or_len p xs) 0) (suc (length xs)) ≡ (b || list_any p xs)
    by true h = grind (arith, nat_tests)
    by false h =
        let place = position_or_len p xs in
        let more : nat_lt (1 + place) (suc (length xs)) ≡ nat_lt place (length xs) = grind (arith, nat_tests) in
        more ∙ h

-- some pool has room where there is a first
pub pool-any : (sizes : List ℕ) (n : ℕ) → is_some (first_pool sizes n) ≡ list_any (λ size. nat_le n size) sizes
unfolding first_pool
pool-any sizes n = by (nat_lt (position_or_len (λ size. nat_le n size) sizes) (length sizes)) ∙ place-any (λ size. nat_le n size) sizes
  where
    by : (b : Bool) → is_some (option_map (λ i. i + 1) (cond b (Some (position_or_len (λ size. nat_le n size) sizes)) None)) ≡ b
    by true = refl
    by false = refl
