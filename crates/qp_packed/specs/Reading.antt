-- What reading needs, and what it answers.
use Rattle.std.specs.Prelude.{◌≡◌, ℕ, ◌≤◌, ◌/◌, List, ◌∷◌, ◌++◌, length}
use Rattle.qp_packed.specs.Packing.{wide_marks, spread}

-- words that begin with numbers so marked
pub record Marked (mark : ℕ) (ws : List ℕ) : Type 0 where
  pub xs : List ℕ
  pub rest : List ℕ
  pub marked : mark ≡ wide_marks xs
  pub words : ws ≡ spread xs ++ rest
  pub few : length xs ≤ 13

-- of all numbers these were read, and these words are left, so marked
pub record HasReadNumbers (nums : List ℕ) (mark : ℕ) (ws : List ℕ) (all rest : List ℕ) : Type 0 where
  pub left : List ℕ
  pub marked : mark ≡ wide_marks left
  pub there : ws ≡ spread left ++ rest
  pub whole : nums ++ left ≡ all
  pub few : length all ≤ 13

-- a number is still to be read
pub record HasUnread (mark : ℕ) (ws : List ℕ) : Type 0 where
  pub x : ℕ
  pub xs : List ℕ
  pub rest : List ℕ
  pub marked : mark ≡ wide_marks (x ∷ xs)
  pub words : ws ≡ spread (x ∷ xs) ++ rest

-- whichever number stood there was read, and the others stand behind it
abbrev pub Reads : ℕ → List ℕ → ℕ → List ℕ → Type 0
Reads mark ws n after =
    (x : ℕ) (xs rest : List ℕ) → mark ≡ wide_marks (x ∷ xs) → ws ≡ spread (x ∷ xs) ++ rest → (n ≡ x) × (after ≡ spread xs ++ rest) × (mark / 2 ≡ wide_marks xs)
