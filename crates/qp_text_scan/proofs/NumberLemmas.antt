-- Decimals, digit by digit.
use Rattle.std.proofs.Common.{◌≡◌, ◌∙◌, ℕ, ◌+◌, ◌*◌, ◌^◌, ◌<◌, ◌≤◌, List, [], ◌∷◌, ◌++◌, refl, sym, ap, append_assoc, arith}
use Rattle.std.specs.Prelude.{decimal, ◌/◌, ◌%◌}
use Rattle.std.proofs.lemmas.Fmt.{decimal_digit, decimal_step}

-- one digit more
pub decimal-more : (n digit : ℕ) → 1 ≤ n → digit ≤ 9 → 10 * n + digit < 2 ^ 64 → decimal (10 * n + digit) ≡ decimal n ++ (48 + digit) ∷ []
decimal-more n digit first small fits =
    let front : (10 * n + digit) / 10 ≡ n = omega arith in
    let last : (10 * n + digit) % 10 ≡ digit = omega arith in
    decimal_step (10 * n + digit) (omega arith) fits ∙ rw (front, last) refl

-- one digit more of a number in front
pub digits-more : (n m digit : ℕ) (all rest behind : List ℕ) → 1 ≤ n → digit ≤ 9 → m ≡ 10 * n + digit → m < 2 ^ 64
    → all ≡ decimal n ++ rest → rest ≡ (48 + digit) ∷ behind → all ≡ decimal m ++ behind
digits-more n m digit all rest behind first small more fits so_far next =
    let shown : decimal m ≡ decimal n ++ (48 + digit) ∷ [] = ap decimal more ∙ decimal-more n digit first small (omega (arith, more)) in
    so_far ∙ ap (λ t. decimal n ++ t) next ∙ sym (ap (λ t. t ++ behind) shown ∙ append_assoc (decimal n) ((48 + digit) ∷ []) behind)

-- one digit alone
pub digit-number : (digit : ℕ) (text rest : List ℕ) → digit ≤ 9 → text ≡ (48 + digit) ∷ rest → text ≡ decimal digit ++ rest
digit-number digit text rest small is = is ∙ sym (ap (λ t. t ++ rest) (decimal_digit digit (omega arith)))

-- a digit, and those behind it
pub digits-number : (digit first n : ℕ) (text rest behind : List ℕ) → digit ≤ 9 → first ≡ digit → text ≡ (48 + digit) ∷ rest
    → decimal first ++ rest ≡ decimal n ++ behind → text ≡ decimal n ++ behind
digits-number digit first n text rest behind small same is all =
    digit-number digit text rest small is ∙ ap (λ m. decimal m ++ rest) (sym same) ∙ all
