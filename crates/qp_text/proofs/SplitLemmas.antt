-- Cutting at a separator, and putting the parts together again.
use Rattle.std.proofs.Common.{◌≡◌, ◌∙◌, ℕ, Bool, true, false, List, [], ◌∷◌, ◌++◌, refl, ap}
use Rattle.std.specs.Prelude.{◌==◌, not}
use Rattle.std.specs.List.{list_all}
use Rattle.std.proofs.lemmas.Bool.{eqb-true, eq-eqb}
use Rattle.qp_text.specs.Parts.{split}
use Rattle.qp_text.proofs.ReadLemmas.{split-cons}

-- the separator stands nowhere in the bytes
abbrev pub is_free : ℕ → List ℕ → Bool
is_free separator bytes = list_all (λ b. not (b == separator)) bytes

-- the parts with a separator between each two
abbrev pub joined : ℕ → List (List ℕ) → List ℕ
joined separator [] = []
joined separator (part ∷ []) = part
joined separator (part ∷ next ∷ parts) = part ++ (separator ∷ joined separator (next ∷ parts))

joined-first : (separator b : ℕ) (part : List ℕ) (parts : List (List ℕ)) → joined separator ((b ∷ part) ∷ parts) ≡ b ∷ joined separator (part ∷ parts)
joined-first separator b part [] = refl
joined-first separator b part (next ∷ parts) = refl

-- the parts put together are the bytes
pub joined-split : (separator : ℕ) (bytes : List ℕ) → joined separator (split separator bytes) ≡ bytes
joined-split separator [] = refl
joined-split separator (b ∷ bytes) = go (b == separator) refl (split-cons separator bytes) (joined-split separator bytes) where
  go : (is : Bool) → (b == separator) ≡ is → (part : List ℕ) × (parts : List (List ℕ)) × (split separator bytes ≡ part ∷ parts)
      → joined separator (split separator bytes) ≡ bytes → joined separator (split separator (b ∷ bytes)) ≡ b ∷ bytes
  go true is some whole = rw (is, some.2, eqb-true b separator is) (ap (λ t. separator ∷ t) (rw some.2 at whole))
  go false is some whole = rw (is, some.2) (joined-first separator b some.0 some.1 ∙ ap (λ t. b ∷ t) (rw some.2 at whole))

-- bytes without a separator are one part
pub split-free : (separator : ℕ) (bytes : List ℕ) → is_free separator bytes ≡ true → split separator bytes ≡ bytes ∷ []
split-free separator [] free = refl
split-free separator (b ∷ bytes) free = go (b == separator) refl (split-free separator bytes) where
  go : (is : Bool) → (b == separator) ≡ is → (is_free separator bytes ≡ true → split separator bytes ≡ bytes ∷ []) → split separator (b ∷ bytes) ≡ (b ∷ bytes) ∷ []
  go true is one = let other = rw is at free in absurd cc
  go false is one = let rest = rw is at free in rw (is, one rest) refl

-- the first part, and those behind its separator
pub split-first : (separator : ℕ) (part bytes : List ℕ) → is_free separator part ≡ true
    → split separator (part ++ separator ∷ bytes) ≡ part ∷ split separator bytes
split-first separator [] bytes free = rw (eq-eqb separator separator refl) refl
split-first separator (b ∷ part) bytes free = go (b == separator) refl (split-first separator part bytes) where
  go : (is : Bool) → (b == separator) ≡ is
      → (is_free separator part ≡ true → split separator (part ++ separator ∷ bytes) ≡ part ∷ split separator bytes)
      → split separator ((b ∷ part) ++ separator ∷ bytes) ≡ (b ∷ part) ∷ split separator bytes
  go true is first = let other = rw is at free in absurd cc
  go false is first = let rest = rw is at free in rw (is, first rest) refl
