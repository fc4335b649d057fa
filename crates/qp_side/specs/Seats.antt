-- Which objects a seat is given, and what it takes to give and to end.
use Rattle.std.specs.Prelude.{◌≡◌, ℕ, ◌-◌, eqb, Bool, List, [], ◌∷◌, ◌++◌, slice_set}
use Rattle.std.specs.Int.{bit_at}
use mathlib.Core.Option.{some}
use lib.ListN.{get_elem?}
use Rattle.qp_model.specs.declared.systems.System.{System}
use Rattle.qp_table.specs.declared.view.Serve.{Serve}
use Rattle.qp_side.specs.Rule.{SideHolds}
use Rattle.qp_side.specs.Laws.{IsSideWhole}
use Rattle.qp_side.specs.declared.view.SideView.{SideView}

-- whether an object is in a set, bit o - 1 for object o
abbrev pub in_set : ℕ → Serve → Bool
in_set objects x = eqb (bit_at objects (x.object - 1)) 1

-- a view may be cut in two
abbrev pub SideMayPart : System → ℕ → SideView → SideView → SideView → Type 0
SideMayPart sys id v left right = (words : List ℕ) (views : List SideView) → SideHolds sys words views → get_elem? views id ≡ some v → SideHolds sys words (slice_set views id left ++ right ∷ [])

-- a look that changes nothing tells the whole
abbrev pub WholeTold : System → SideView → SideView → Type 0
WholeTold sys v u = (u ≡ v) × IsSideWhole sys v
