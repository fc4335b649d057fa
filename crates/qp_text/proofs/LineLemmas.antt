-- The item of a line by its parts.
use Rattle.std.proofs.Common.{◌≡◌, ℕ, List, ◌∷◌, Option, Some, None, Ok, Err, refl}
use Rattle.qp_text.specs.Faults.{or_code}
use Rattle.qp_text.specs.Numbers.{numbers_at}
use Rattle.qp_text.specs.Parts.{split}
use Rattle.qp_text.specs.LineItem.{item_of_numbers, has_signs, id_of, item_of_line}

-- a value that is there
pub or_code-ok : {T : Type 0} (code : ℕ) (o : Option T) (x : T) → or_code code o ≡ Ok x → o ≡ Some x
or_code-ok code None x is = cc
or_code-ok code (Some y) x is = cc

-- one that isn't
pub or_code-err : {T : Type 0} (code : ℕ) (o : Option T) (e : ℕ) → or_code code o ≡ Err e → (o ≡ None) × (e ≡ code)
or_code-err code None e is = (refl, cc)
or_code-err code (Some y) e is = (cc, cc)

-- a line of a known word
pub item_of_line-known : (form : ℕ) (line word : List ℕ) (texts : List (List ℕ)) (id : ℕ)
    → split 32 line ≡ word ∷ texts → Some id ≡ id_of form word → item_of_line form line ≡ item_of_numbers id (numbers_at (has_signs form id) 0 texts)
item_of_line-known form line word texts id parts known = rw (parts, ← known) refl
