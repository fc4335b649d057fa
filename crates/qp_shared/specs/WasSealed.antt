-- A journal that was sealed.
use Rattle.std.specs.Prelude.{◌≡◌, ◌<◌, List, ℕ, length}
use Rattle.qp_model.specs.declared.journals.Journal.{Journal}
use Rattle.qp_model.specs.declared.systems.System.{System}
use Rattle.qp_calls.specs.LaneView.{LaneView}
use Rattle.qp_port_law.specs.Sealed.{SealsLanes}
use Rattle.qp_table.specs.Counting.{Each}

-- lanes of one table, by its name; the lanes of a world of one thread have none
pub record AreOfOneTable (vs : List LaneView) : Type 0 where
  pub world : List ℕ
  pub named : 0 < length world
  pub are : Each (λ (v : LaneView). v.world ≡ world) vs

-- its records were made on lanes of one table for this system, and these were sealed into it
abbrev pub WasSealedFor : System → Journal → Type 0
WasSealedFor sys j = ∥ ((vs : List LaneView) × AreOfOneTable vs × SealsLanes sys j.kernel j.budget vs j) ∥₁

-- the same for some system
abbrev pub WasSealed : Journal → Type 0
WasSealed j = ∥ ((sys : System) × WasSealedFor sys j) ∥₁

pub WasSealed-prop : (j : Journal) → IsProp (WasSealed j)
WasSealed-prop j = hlevel
