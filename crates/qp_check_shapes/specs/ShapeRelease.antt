-- What stands behind records of a shape, where a list begins with such records.
use Rattle.std.specs.Prelude.{◌≡◌, ℕ, zero, suc, ◌+◌, ◌==◌, Bool, ◌&&◌, List, [], ◌∷◌, ◌++◌, if◌then◌else◌, Some, None}
use Rattle.std.specs.declared.option.Option.{Option}
use Rattle.qp_model.specs.declared.bodies.Entry.{Entry}
use Rattle.qp_model.specs.declared.bodies.Body.{Body}
use Rattle.qp_model.specs.declared.bodies.Body.TheVariants as item
use Rattle.qp_model.specs.Told.{Told, Known, Nothing, Left}

-- the list begins with such records and `rest` is what stands behind them, or no such records stand in front;
-- no two such lists stand in front of one list
unfoldable pub IsUnambiguous : (List Told → Type 0) → List Told → Option (List Told) → Type 0
IsUnambiguous P told None = (g rest : List Told) → told ≡ g ++ rest → P g → ⊥
IsUnambiguous P told (Some rest) =
    ((g : List Told) × P g × (told ≡ g ++ rest)) × ((g other : List Told) → told ≡ g ++ other → P g → other ≡ rest)

-- what stands behind, where a test is passed
abbrev pub when : Bool → List Told → Option (List Told)
when passed rest = if passed then Some rest else None

-- behind a `back` of this block after operation d
abbrev pub back_first : ℕ → ℕ → ℕ → Body → Known → List Told → Option (List Told)
back_first p b d (item.Back q n c to) Nothing rest = when ((q == p) && (c == b) && (to == d + 1)) rest
back_first p b d body known rest = None

abbrev pub behind_back : ℕ → ℕ → ℕ → List Told → Option (List Told)
behind_back p b d [] = None
behind_back p b d (t ∷ rest) = back_first p b d t.body t.known rest

-- behind the operation that drops a reference, and behind the `back` exactly where no reference is left
abbrev pub left_behind : ℕ → ℕ → ℕ → ℕ → List Told → Option (List Told)
left_behind p b d zero rest = behind_back p b d rest
left_behind p b d (suc left) rest = Some rest

abbrev pub drop_first : Entry → Body → Known → List Told → Option (List Told)
drop_first e (item.Dec p b d k) (Left left) rest =
    if (p == e.pool) && (b == e.block) && (k == e.name) then left_behind p b d left rest else None
drop_first e body known rest = None

abbrev pub behind_drop : Entry → List Told → Option (List Told)
behind_drop e [] = None
behind_drop e (t ∷ rest) = drop_first e t.body t.known rest

-- behind the release of an entry
unfoldable pub behind_release : Entry → List Told → Option (List Told)
behind_release e told = if e.pool == 0 then Some told else behind_drop e told
