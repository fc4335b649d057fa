-- What is found at a place.
use Rattle.std.proofs.Common.{◌≡◌, ℕ, zero, suc, ◌<◌, List, [], ◌∷◌, length, get_or, Option, Some, None, Bor, refl, sym, ◌∙◌, ap, arith}
use Rattle.std.specs.Option.{option_copied}
use Rattle.std.specs.List.{slice_get}
use Rattle.std.specs.Slice.{IsItemAt}
use Rattle.std.proofs.lemmas.Option.{slice_get_past}

pub slice_get-within : {X : Type 0} (xs : List X) (i : ℕ) (d : X) → i < length xs → slice_get xs i ≡ Some (get_or xs i d)
slice_get-within [] i d h = absurd (omega (arith, h))
slice_get-within (x ∷ xs) zero d h = refl
slice_get-within (x ∷ xs) (suc i) d h = slice_get-within xs i d (omega (arith, h))

-- what a look by place answers
pub copied-get : {X : Type 0} (xs : List X) (i : ℕ) (r : Option (Bor X)) → IsItemAt xs i r → option_copied r ≡ slice_get xs i
copied-get xs i None h = sym (slice_get_past xs i h.3)
copied-get xs i (Some x) h = ap Some h.1 ∙ sym (slice_get-within xs i x.now h.3.0)
