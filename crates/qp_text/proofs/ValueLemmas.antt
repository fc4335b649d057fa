-- The value of digits.
use Rattle.std.proofs.Common.{◌≡◌, ℕ, ◌+◌, ◌-◌, ◌*◌, ◌^◌, ◌<◌, ◌≤◌, List, length, drop, get_or, Some, None, refl, add-one, drop-cons, arith}
use Rattle.std.proofs.lemmas.Bool.Decides.{nat_tests}
use Rattle.std.proofs.lemmas.List.{drop_all}
use Rattle.qp_text.specs.Numbers.{fitting}
use Rattle.qp_chart_text.specs.Tokens.{value_after}
use Rattle.qp_chart_text.proofs.TokenLemmas.{value_above}

-- one digit more
pub value-next : (n i : ℕ) (digits : List ℕ) → i < length digits
    → value_after n (drop i digits) ≡ value_after (n * 10 + (get_or digits i 0 - 48)) (drop (i + 1) digits)
value-next n i digits inside = rw (add-one, drop-cons digits i 0 inside) refl

pub fitting-none : (n : ℕ) → 2 ^ 64 ≤ n → None ≡ fitting n
fitting-none n high = grind (arith, nat_tests)

pub fitting-some : (n : ℕ) → n < 2 ^ 64 → Some n ≡ fitting n
fitting-some n low = grind (arith, nat_tests)

-- where a digit makes the number too large, the whole number is
pub value-too_large : (n i : ℕ) (digits : List ℕ) → i < length digits → 2 ^ 64 ≤ n * 10 + (get_or digits i 0 - 48)
    → value_after n (drop i digits) ≡ value_after 0 digits → None ≡ fitting (value_after 0 digits)
value-too_large n i digits inside high so_far =
    fitting-none (value_after 0 digits)
    (omega (arith, so_far, value-next n i digits inside, value_above (n * 10 + (get_or digits i 0 - 48)) (drop (i + 1) digits)))

-- behind the last digit the number is whole
pub value-whole : (n i : ℕ) (digits : List ℕ) → length digits ≤ i → n < 2 ^ 64
    → value_after n (drop i digits) ≡ value_after 0 digits → Some n ≡ fitting (value_after 0 digits)
value-whole n i digits past low so_far =
    let whole : n ≡ value_after 0 digits = rw (drop_all i digits past) at so_far in
    rw (← whole) (fitting-some n low)
