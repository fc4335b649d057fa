-- Signed numbers in front of a text.
use Rattle.std.proofs.Common.{◌≡◌, ◌∙◌, ℕ, ◌-◌, ◌^◌, ◌<◌, ◌≤◌, List, ◌∷◌, ◌++◌, sym, ap}
use Rattle.std.specs.Prelude.{decimal}
use Rattle.std.specs.Fmt.{signed_decimal}
use Rattle.std.specs.Int.{cast_signed, w64}
use Rattle.qp_text.proofs.NumberLaw.{negative, positive}

-- a minus and the size
pub minus-front : (size bits : ℕ) (text digits rest : List ℕ) → 1 ≤ size → size ≤ 2 ^ 63 → bits ≡ 2 ^ 64 - size → text ≡ 45 ∷ digits
    → digits ≡ decimal size ++ rest → text ≡ signed_decimal (cast_signed w64 bits) ++ rest
minus-front size bits text digits rest first last is minus number =
    minus ∙ ap (λ t. 45 ∷ t) number
    ∙ sym (ap (λ b. signed_decimal (cast_signed w64 b) ++ rest) is ∙ ap (λ t. t ++ rest) (negative size first last))

-- a number without a minus
pub plain-front : (n : ℕ) (text rest : List ℕ) → n < 2 ^ 63 → text ≡ decimal n ++ rest → text ≡ signed_decimal (cast_signed w64 n) ++ rest
plain-front n text rest low number = number ∙ sym (ap (λ t. t ++ rest) (positive n low))
