-- The set of object 1.
use Rattle.std.proofs.Common.{◌≡◌, ℕ, zero, suc, ◌-◌, ◌<◌, eqb, true≢false, IsTrue, refl, sym, ap, ◌∙◌, arith}
use Rattle.std.specs.Int.{bit_at}
use Rattle.std.proofs.lemmas.Nat.Bits.{bit_at-suc, bit_at-zero}
use Rattle.qp_side.specs.Seat.{is_in}

pub only-one : (o : ℕ) → 0 < o → IsTrue (is_in 1 o) → o ≡ 1
only-one zero some h = absurd (omega arith)
only-one (suc zero) some h = refl
only-one (suc (suc k)) some h =
    let e : suc (suc k) - 1 ≡ suc k = omega arith in
    let off : bit_at 1 (suc (suc k) - 1) ≡ 0 = ap (bit_at 1) e ∙ (bit_at-suc 1 k ∙ bit_at-zero k) in
    absurd (true≢false (sym h ∙ ap (λ b. eqb b 1) off))
