-- A floor of each word between what lanes knew before the phases, and what they add in them.
use Rattle.std.specs.Prelude.{◌≡◌, ℕ, ◌≤◌, List, [], ◌∷◌, ◌++◌, ⊤, Some, None}
use Rattle.std.specs.declared.option.Option.{Option}
use Rattle.std.specs.List.{AllByRecursion}
use Rattle.qp_model.specs.declared.words.Word.{Word}
use Rattle.qp_model.specs.History.{mark_of, touch_of}
use Rattle.qp_model.specs.Told.{ToldItem}
use Rattle.qp_calls.specs.LaneView.{LaneView}

-- the marks of these records on a word are no lower than this
abbrev pub IsFrom : ℕ → Option ℕ → Type 0
IsFrom low None = ⊤
IsFrom low (Some k) = low ≤ k

abbrev pub AreFrom : Word → ℕ → List ToldItem → Type 0
AreFrom w low ts = AllByRecursion (λ t. IsFrom low (mark_of w (touch_of t.of t.told.body))) ts

-- no lane knows of more of a word
abbrev pub AllUnder : {T : Type 0} → (T → LaneView) → (Word → ℕ) → List T → Type 0
AllUnder view floor [] = ⊤
AllUnder view floor (x ∷ xs) = ((w : Word) → (view x).mark w ≤ floor w) × AllUnder view floor xs

-- each lane knows of as much
abbrev pub AllOver : {T : Type 0} → (T → LaneView) → (Word → ℕ) → List T → Type 0
AllOver view floor [] = ⊤
AllOver view floor (x ∷ xs) = ((w : Word) → floor w ≤ (view x).mark w) × AllOver view floor xs

-- no lane has a record more
abbrev pub SameTold : {T : Type 0} → (T → LaneView) → List T → List T → Type 0
SameTold view [] [] = ⊤
SameTold view (x ∷ xs) (y ∷ ys) = ((view y).told ≡ (view x).told) × SameTold view xs ys
SameTold view [] (y ∷ ys) = ⊥
SameTold view (x ∷ xs) [] = ⊥

-- each lane knows of each word what any of them knew
pub record IsLevel {T : Type 0} (view : T → LaneView) (xs ys : List T) : Type 0 where
  pub floor : Word → ℕ
  pub under : AllUnder view floor xs
  pub over : AllOver view floor ys
  pub told : SameTold view xs ys

-- what a lane added has no mark below the floor
pub record AddsFrom (floor : Word → ℕ) (v w : LaneView) : Type 0 where
  pub more : List ToldItem
  pub grows : w.told ≡ v.told ++ more
  pub from : (x : Word) → AreFrom x (floor x) more

abbrev pub AllAdd : {T : Type 0} → (T → LaneView) → (Word → ℕ) → List T → List T → Type 0
AllAdd view floor [] [] = ⊤
AllAdd view floor (x ∷ xs) (y ∷ ys) = AddsFrom floor (view x) (view y) × AllAdd view floor xs ys
AllAdd view floor [] (y ∷ ys) = ⊥
AllAdd view floor (x ∷ xs) [] = ⊥

-- No lane knew of more of a word than its floor, and none added a mark below it; each knows of as much now.
pub record HasFloor {T : Type 0} (view : T → LaneView) (xs ys : List T) : Type 0 where
  pub floor : Word → ℕ
  pub under : AllUnder view floor xs
  pub adds : AllAdd view floor xs ys
  pub over : AllOver view floor ys
