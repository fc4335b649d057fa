-- The bit of an object.
use Rattle.std.proofs.Common.{◌≡◌, ℕ, zero, suc, ◌+◌, ◌-◌, ◌*◌, ◌/◌, ◌%◌, ◌^◌, ◌<◌, ◌≤◌, ◌==◌, false, List, ◌∷◌, sym, ◌∙◌, arith}
use Rattle.std.proofs.Math.Nat.{mod-eq_of_lt}
use Rattle.std.proofs.Math.Pow.{pow_mono}
use Rattle.std.proofs.lemmas.List.Sums.{sum_by-cons}
use Rattle.std.proofs.lemmas.Bool.Decides.{nat_tests}
use Rattle.qp_model.specs.Subscribers.{bits_of_set}
use Rattle.qp_model.proofs.NumberLemmas.{bit-suc}

pub bit-shift : (p : ℕ) → 0 < p → p ≤ 64 → 1 * 2 ^ (p - 1) % 18446744073709551616 ≡ 2 ^ p / 2
bit-shift zero above le = absurd (omega arith)
bit-shift (suc k) above le =
    let e : suc k - 1 ≡ k = omega arith in
    let at_most : k ≤ 63 = omega arith in
    let small : 2 ^ k ≤ 2 ^ 63 = pow_mono at_most in
    let lt : 1 * 2 ^ k < 18446744073709551616 = omega arith in
    let one : 1 * 2 ^ k ≡ 2 ^ k = omega arith in
    rw e (mod-eq_of_lt lt ∙ one ∙ sym (bit-suc k))

-- the bit of an object above 64 has no place in 64 bits
pub bit-large : (p : ℕ) → 64 < p → 2 ^ 64 ≤ 2 ^ p / 2
bit-large zero above = absurd (omega arith)
bit-large (suc k) above =
    let at_least : 64 ≤ k = omega arith in
    let large : 2 ^ 64 ≤ 2 ^ k = pow_mono at_least in
    omega (arith, large, bit-suc k)

-- a bit above what is left
pub bits-above : (p : ℕ) (ps : List ℕ) (left : ℕ) → left < 2 ^ p / 2 → (bits_of_set (p ∷ ps) == left) ≡ false
bits-above p ps left above =
    let sum : bits_of_set (p ∷ ps) ≡ 2 ^ p / 2 + bits_of_set ps = sum_by-cons (λ p. 2 ^ p / 2) p ps in
    let more : left < bits_of_set (p ∷ ps) = omega arith in
    grind (arith, nat_tests)
