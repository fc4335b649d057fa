-- The record right before a `spill`.
use Rattle.std.specs.Prelude.{ℕ, ◌==◌, Bool, false, List, [], ◌∷◌}
use Rattle.qp_model.specs.Record.{Item}

-- the last record is one of o
abbrev pub ends_with : ℕ → List Item → Bool
ends_with o [] = false
ends_with o (i ∷ []) = i.of == o
ends_with o (i ∷ j ∷ is) = ends_with o (j ∷ is)
