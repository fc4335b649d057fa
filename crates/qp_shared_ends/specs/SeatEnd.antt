-- The end: one view has all lanes.
use Rattle.std.specs.Prelude.{◌≡◌, ℕ, ◌+◌, List, length}
use mathlib.Core.Option.{some}
use lib.ListN.{get_elem?}
use Rattle.qp_model.specs.declared.systems.System.{System}
use Rattle.qp_table.specs.Rule.{Holds}
use Rattle.qp_table.specs.declared.view.View.{View}

-- The event table meets its rule, and one of its views has all lanes and all numbers that were given to none
pub record AtEnd (sys : System) (v : View) : Type 0 where
  pub words : List ℕ
  pub views : List View
  pub holds : Holds sys words views
  pub id : ℕ
  pub is : get_elem? views id ≡ some v
  pub all : length v.logs + length v.lane_numbers ≡ 49
