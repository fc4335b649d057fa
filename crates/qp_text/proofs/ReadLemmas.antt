-- Reading a text line by line.
use Rattle.std.proofs.Common.{◌≡◌, ℕ, ◌+◌, ◌==◌, Bool, true, false, List, [], ◌∷◌, Ok, Err, refl}
use Rattle.qp_text.specs.declared.progress.Reading.{Reading}
use Rattle.qp_text.specs.Parts.{split}
use Rattle.qp_text.specs.ReadText.{read_parts, take_line}

-- there is always a part
pub split-cons : (separator : ℕ) (bytes : List ℕ) → (part : List ℕ) × (parts : List (List ℕ)) × (split separator bytes ≡ part ∷ parts)
split-cons separator [] = ([], [], refl)
split-cons separator (b ∷ bytes) = go (b == separator) refl (split-cons separator bytes) where
  go : (is : Bool) → (b == separator) ≡ is → (part : List ℕ) × (parts : List (List ℕ)) × (split separator bytes ≡ part ∷ parts)
      → (part : List ℕ) × (parts : List (List ℕ)) × (split separator (b ∷ bytes) ≡ part ∷ parts)
  go true is some = ([], split separator bytes, rw is refl)
  go false is some = (b ∷ some.0, some.1, rw (is, some.2) refl)

-- a line that is taken
pub read-next : (number : ℕ) (p q : Reading) (line bytes : List ℕ) → take_line p line ≡ Ok q
    → read_parts number p (line ∷ split 10 bytes) ≡ read_parts (number + 1) q (split 10 bytes)
read-next number p q line bytes taken = let some = split-cons 10 bytes in rw (some.2, taken) refl

-- a line that has a code
pub read-fault : (number code : ℕ) (p : Reading) (line bytes : List ℕ) → take_line p line ≡ Err code
    → read_parts number p (line ∷ split 10 bytes) ≡ Err (number, code)
read-fault number code p line bytes fault = let some = split-cons 10 bytes in rw (some.2, fault) refl
