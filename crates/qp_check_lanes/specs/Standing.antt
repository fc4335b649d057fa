-- The references to a block, kept as flags.
use Rattle.std.specs.Prelude.{◌≡◌, ℕ, suc, ◌==◌, Bool, false, List, [], ◌∷◌, length, get_or, if◌then◌else◌}
use Rattle.qp_model.specs.Record.{Item}
use Rattle.qp_model.specs.References.{Refs, references}
use Rattle.qp_model.specs.Lives.{is_empty}

-- how often the number stands in the list
abbrev pub times_in : ℕ → List ℕ → ℕ
times_in k [] = 0
times_in k (x ∷ xs) = if x == k then suc (times_in k xs) else times_in k xs

-- the flag of each operation says whether the reference that it made stands
pub record ReferencesStand (s : Refs) (flags : List Bool) (standing : ℕ) : Type 0 where
  pub counted : s.count ≡ length flags
  pub total : standing ≡ length s.names
  pub each : (k : ℕ) → times_in k s.names ≡ (if get_or flags k false then 1 else 0)

-- whether no reference stands, before each operation and after the last
unfoldable pub empties_from : Refs → List Item → List Bool
empties_from s [] = is_empty s.names ∷ []
empties_from s (i ∷ is) = is_empty s.names ∷ empties_from (references.next s i) is

unfoldable pub empties : List Item → List Bool
unfolding empties_from
empties history = empties_from references.first history
