-- Lists that are read from the front, part by part, and what may stand last there.
use Rattle.std.specs.Prelude.{◌≡◌, ℕ, max, Bool, true, false, List, [], ◌∷◌, ◌++◌, IsTrue, None}
use Rattle.qp_model.specs.declared.bodies.Body.{Body}
use Rattle.qp_model.specs.declared.bodies.Body.TheVariants as item
use Rattle.qp_model.specs.Told.{Told, plain, raised}
use Rattle.qp_model.specs.Sequence.{Sequence}
use Rattle.qp_model.specs.Groups.{is_move}
use Rattle.qp_check_shapes.specs.ShapeRelease.{IsUnambiguous}

-- such parts, as many as stand in front, and behind them a list in front of which none stands
pub record ReadsAll (P : List Told → Type 0) (told rest : List Told) : Type 0 where
  pub whole : List Told
  pub parts : Sequence P whole
  pub is : told ≡ whole ++ rest
  pub none : IsUnambiguous P rest None

-- a group that isn't empty: a note, an action, or actions under a raised ceiling
pub data IsElement (W : List Told → Type 0) (g : List Told) : Type 0 where
  Notes : (b : Body) → IsTrue (is_move b) → g ≡ plain b ∷ [] → IsElement W g
  Acts : W g → IsElement W g
  Locks : (former ceiling : ℕ) (inner : List Told) → Sequence W inner
      → g ≡ raised (max former ceiling) former ∷ (inner ++ (plain (item.Unlock former) ∷ [])) → IsElement W g

-- actions under a raised ceiling that isn't restored, and then what stands last
pub data IsUnderCeiling (W L : List Told → Type 0) (g : List Told) : Type 0 where
  RaisesOnly : (former ceiling : ℕ) (inner last : List Told) → Sequence W inner → L last
      → g ≡ raised (max former ceiling) former ∷ (inner ++ last) → IsUnderCeiling W L g

-- what stands behind whole groups that break off: the last, perhaps under a raised ceiling
pub data IsEnd (W L : List Told → Type 0) (g : List Told) : Type 0 where
  EndsPlainly : L g → IsEnd W L g
  EndsUnder : IsUnderCeiling W L g → IsEnd W L g

-- groups that break off
unfoldable pub Breaks : (List Told → Type 0) → (List Told → Type 0) → List Told → Type 0
unfolding Sequence
Breaks W L g = (whole end : List Told) × Sequence (IsElement W) whole × IsEnd W L end × (g ≡ whole ++ end)

-- records that close groups or a ceiling
abbrev pub is_close : Body → Bool
is_close (item.Unlock ceiling) = true
is_close item.Done = true
is_close _ = false

-- the same, or a note, or a raised ceiling: no action begins with one of these
abbrev pub is_outer : Body → Bool
is_outer (item.Unlock ceiling) = true
is_outer item.Done = true
is_outer (item.Lock ceiling) = true
is_outer (item.Exit s) = true
is_outer (item.Enter s) = true
is_outer (item.Init s) = true
is_outer _ = false
