-- A text is read as a number exactly where it is the number's decimal.
use Rattle.std.proofs.Common.{◌≡◌, ℕ, suc, ◌-◌, ◌^◌, ◌<◌, ◌≤◌, Bool, true, false, List, [], ◌∷◌, Some, cond, refl, arith, rules}
use Rattle.std.specs.Prelude.{decimal, ◌==◌, nat_lt, nat_le, ◌&&◌}
use Rattle.std.specs.Int.{cast_signed, w64}
use Rattle.std.specs.Fmt.{signed_decimal}
use Rattle.std.specs.Str.{bytes_eq}
use Rattle.std.specs.Str.Parse.{AllDigits}
use Rattle.std.proofs.lemmas.Slice.Eq.{bytes_eq-Decides}
use Rattle.std.proofs.lemmas.Bool.{ltb-true, leb-true, eqb-true, and_parts}
use Rattle.std.proofs.lemmas.Bool.Decides.{nat_tests}
use Rattle.std.proofs.lemmas.Fmt.{digits_value-decimal}
use Rattle.std.proofs.lemmas.Str.Parse.{IsNumeralModel, numerals_by_fold, tells_digits}
use Rattle.qp_text.specs.Numbers.{and_then, bits_of_negative, bits_of_positive, fitting, if_canonical, number_of_decimal, signed_of}
use Rattle.qp_chart_text.specs.Tokens.{value_after}
use Rattle.qp_text.proofs.OptionLemmas.{and_then-some}
use Rattle.qp_text.proofs.ValueLemmas.{fitting-some}
use Rattle.qp_model.proofs.KernelLaneLemmas.{granted}

-- the value is that of decimal digits
pub own : IsNumeralModel (AllDigits 10) (value_after 0)
own = numerals_by_fold (AllDigits 10) tells_digits value_after (search rules)

-- a decimal is read as its number
pub number_of-decimal : (n : ℕ) → n < 2 ^ 64 → number_of_decimal (decimal n) ≡ Some n
number_of-decimal n low =
    let value : value_after 0 (decimal n) ≡ n = digits_value-decimal own n low in
    let same : bytes_eq (decimal n) (decimal n) ≡ true = (bytes_eq-Decides (decimal n) (decimal n)).1 refl in
    rw (value, ← fitting-some n low, same) refl

-- what is read as a number is its decimal
pub number_of-is : (text : List ℕ) (n : ℕ) → number_of_decimal text ≡ Some n → (decimal n ≡ text) × (n < 2 ^ 64)
number_of-is text n is =
    let value = and_then-some (fitting (value_after 0 text)) (if_canonical text) n is in
    let fits = granted (nat_lt (value_after 0 text) (2 ^ 64)) (value_after 0 text) value.0 value.1 in
    let same = granted (bytes_eq (decimal value.0) text) value.0 n value.2 in (
      rw (← same.1) ((bytes_eq-Decides (decimal value.0) text).0 same.0),
      omega (arith, ltb-true (value_after 0 text) (2 ^ 64) fits.0, fits.1, same.1),
    )

-- a signed number by its bits
pub positive : (n : ℕ) → n < 2 ^ 63 → signed_decimal (cast_signed w64 n) ≡ decimal n
positive n low = grind (arith, nat_tests)

pub negative : (m : ℕ) → 1 ≤ m → m ≤ 2 ^ 63 → signed_decimal (cast_signed w64 (2 ^ 64 - m)) ≡ 45 ∷ decimal m
negative m first last =
    let high : nat_lt (2 ^ 64 - m) (2 ^ 63) ≡ false = grind (arith, nat_tests) in
    let back : suc (2 ^ 64 - suc (2 ^ 64 - m)) ≡ m = omega arith in
    rw (high, back) refl

-- what is read as a signed number is its decimal with the sign
pub signed_of-is : (text : List ℕ) (n : ℕ) → signed_of text ≡ Some n → (signed_decimal (cast_signed w64 n) ≡ text) × (n < 2 ^ 64)
signed_of-is [] n is = absurd cc
signed_of-is (b ∷ digits) n is = go (b == 45) refl is where
  go : (minus : Bool) → (b == 45) ≡ minus
      → cond minus (and_then (number_of_decimal digits) bits_of_negative) (and_then (number_of_decimal (b ∷ digits)) bits_of_positive) ≡ Some n
      → (signed_decimal (cast_signed w64 n) ≡ b ∷ digits) × (n < 2 ^ 64)
  go true minus is =
      let size = and_then-some (number_of_decimal digits) bits_of_negative n is in
      let m = size.0 in
      let read = number_of-is digits m size.1 in
      let fits = granted (nat_le 1 m && nat_le m (2 ^ 63)) (2 ^ 64 - m) n size.2 in
      let both = and_parts (nat_le 1 m) (nat_le m (2 ^ 63)) fits.0 in
      (rw (← fits.1, negative m (leb-true 1 m both.0) (leb-true m (2 ^ 63) both.1), eqb-true b 45 minus, read.0) refl, omega (arith, fits.1, leb-true 1 m both.0))
  go false minus is =
      let size = and_then-some (number_of_decimal (b ∷ digits)) bits_of_positive n is in
      let m = size.0 in
      let read = number_of-is (b ∷ digits) m size.1 in
      let fits = granted (nat_lt m (2 ^ 63)) m n size.2 in
      (rw (← fits.1, positive m (ltb-true m (2 ^ 63) fits.0)) read.0, omega (arith, fits.1, read.1))
