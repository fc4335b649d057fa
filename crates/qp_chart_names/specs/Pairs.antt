-- Two lists side by side.
use Rattle.std.specs.Prelude.{List, [], ◌∷◌}

-- the members of two lists belong together, one by one
unfoldable pub Corresponds : {A B : Type 0} → (A → B → Type 0) → List A → List B → Type 0
Corresponds R [] [] = Unit {0}
Corresponds R [] (y ∷ ys) = ⊥
Corresponds R (x ∷ xs) [] = ⊥
Corresponds R (x ∷ xs) (y ∷ ys) = R x y × Corresponds R xs ys
