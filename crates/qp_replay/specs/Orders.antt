-- Orders of a journal's records, and cycles among them.
use Rattle.std.specs.Prelude.{◌≡◌, ℕ, ◌<◌, ◌≤◌, Bool, false, ◌&&◌, List, [], ◌∷◌, ◌++◌, length, slice_get, IsTrue, is_some, IsPermutation, Contains, ⊤, Some}
use Rattle.std.specs.List.{AllByRecursion}
use Rattle.qp_model.specs.declared.record.Rec.{Rec}
use Rattle.qp_model.specs.Places.{RecordPlace, item_at, must_precede, places}

-- a record stands at the place
unfoldable pub is_record : List (List Rec) → RecordPlace → Bool
unfolding item_at
is_record lanes x = is_some (item_at lanes x)

-- all records that must stand before y are among these
abbrev pub IsUnblocked : List (List Rec) → List RecordPlace → RecordPlace → Type 0
IsUnblocked lanes before y = (x : RecordPlace) → IsTrue (is_record lanes x) → IsTrue (must_precede lanes x y) → Contains before x

-- Behind these stands x: a record that isn't among them, all that must stand before it is, and no record of a lower lane is so.
pub record GoesNext (lanes : List (List Rec)) (before : List RecordPlace) (x : RecordPlace) : Type 0 where
  pub stands : IsTrue (is_record lanes x)
  pub fresh : Contains before x → ⊥
  pub ready : IsUnblocked lanes before x
  pub lowest : (y : RecordPlace) → y.lane < x.lane → IsTrue (is_record lanes y) → (Contains before y → ⊥) → IsUnblocked lanes before y → ⊥

-- each of these places goes next behind those before it
abbrev pub GoesNextEach : List (List Rec) → List RecordPlace → List RecordPlace → Type 0
GoesNextEach lanes before [] = ⊤
GoesNextEach lanes before (x ∷ xs) = GoesNext lanes before x × GoesNextEach lanes (before ++ x ∷ []) xs

-- The order of all records, each once, in which each stands behind those that must stand before it, and each next one is from the
-- lowest lane whose next record has all that must stand before it.
pub record IsLowestOrder (lanes : List (List Rec)) (order : List RecordPlace) : Type 0 where
  pub all : IsPermutation (places lanes) order
  pub before : (i j : ℕ) (x y : RecordPlace) → slice_get order i ≡ Some x → slice_get order j ≡ Some y → IsTrue (must_precede lanes x y) → i < j
  pub lowest : GoesNextEach lanes [] order

-- each of these must stand before the next, and the last before this one
abbrev pub closes_cycle : List (List Rec) → RecordPlace → List RecordPlace → Bool
closes_cycle lanes first [] = false
closes_cycle lanes first (x ∷ []) = must_precede lanes x first
closes_cycle lanes first (x ∷ y ∷ ys) = must_precede lanes x y && closes_cycle lanes first (y ∷ ys)

-- each of these must stand before the next, and the last before the first
abbrev pub goes_round : List (List Rec) → List RecordPlace → Bool
goes_round lanes [] = false
goes_round lanes (x ∷ xs) = closes_cycle lanes x (x ∷ xs)

-- a cycle: at least two records, none of which can be the first of them
pub record IsCycle (lanes : List (List Rec)) (cycle : List RecordPlace) : Type 0 where
  pub long : 2 ≤ length cycle
  pub stand : AllByRecursion (λ x. IsTrue (is_record lanes x)) cycle
  pub round : IsTrue (goes_round lanes cycle)
