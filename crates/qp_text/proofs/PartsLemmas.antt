-- Bytes cut at their first separator.
use Rattle.std.proofs.Common.{◌≡◌, ℕ, suc, ◌+◌, ◌-◌, ◌<◌, ◌≤◌, ◌==◌, Bool, true, false, nat_lt, List, [], ◌∷◌, length, take, drop, Option, Some, None, Bor, cond, refl, arith, length-drop}
use Rattle.std.proofs.lemmas.List.{take_all}
use Rattle.std.proofs.lemmas.Bool.Decides.{nat_tests}
use Rattle.std.specs.List.{position_or_len}
use Rattle.qp_text.specs.Parts.{split}

-- how many bytes stand before the first separator
abbrev pub before : ℕ → List ℕ → ℕ
before separator bytes = position_or_len (λ b. b == separator) bytes

-- there is one
pub split-there : (separator : ℕ) (bytes : List ℕ) → before separator bytes < length bytes
    → split separator bytes ≡ take (before separator bytes) bytes ∷ split separator (drop (suc (before separator bytes)) bytes)
split-there separator [] inside = absurd (omega arith)
split-there separator (b ∷ bytes) inside = go (b == separator) refl (split-there separator bytes) where
  go : (is : Bool) → (b == separator) ≡ is
      → (before separator bytes < length bytes → split separator bytes ≡ take (before separator bytes) bytes ∷ split separator (drop (suc (before separator bytes)) bytes))
      → split separator (b ∷ bytes) ≡ take (before separator (b ∷ bytes)) (b ∷ bytes) ∷ split separator (drop (suc (before separator (b ∷ bytes))) (b ∷ bytes))
  go true is there = rw is refl
  go false is there =
      let further = rw is at inside in
      let one : 1 + before separator bytes ≡ suc (before separator bytes) = omega arith in
      rw (is, there (omega (arith, further)), one) refl

-- there is none
pub split-nowhere : (separator : ℕ) (bytes : List ℕ) → length bytes ≤ before separator bytes → split separator bytes ≡ bytes ∷ []
split-nowhere separator [] past = refl
split-nowhere separator (b ∷ bytes) past = go (b == separator) refl (split-nowhere separator bytes) where
  go : (is : Bool) → (b == separator) ≡ is → (length bytes ≤ before separator bytes → split separator bytes ≡ bytes ∷ [])
      → split separator (b ∷ bytes) ≡ (b ∷ bytes) ∷ []
  go true is nowhere = let none = rw is at past in absurd (omega (arith, none))
  go false is nowhere = let further = rw is at past in rw (is, nowhere (omega (arith, further))) refl

-- what the place of the first separator says
pub place-some : (n len at : ℕ) → Some at ≡ cond (nat_lt n len) (Some n) None → (n ≡ at) × (n < len)
place-some n len at is = (grind (arith, nat_tests), grind (arith, nat_tests))

pub place-none : (n len : ℕ) → None ≡ cond (nat_lt n len) (Some n) None → len ≤ n
place-none n len is = grind (arith, nat_tests)

-- a rest of bytes, as a slice gives it
pub rest-is : (bytes : List ℕ) (n : ℕ) → take (length bytes - n) (drop n bytes) ≡ drop n bytes
rest-is bytes n = take_all (length bytes - n) (drop n bytes) (omega (arith, length-drop n bytes))

-- how much is left to cut
abbrev pub left : Option (Bor (List ℕ)) → ℕ
left None = 0
left (Some bytes) = suc (length bytes.now)
