-- The operations of a pool by blocks.
use Rattle.std.specs.Prelude.{◌≡◌, ℕ, List, [], Some, None}
use Rattle.std.specs.declared.option.Option.{Option}
use Rattle.qp_model.specs.declared.bodies.Body.{Body}
use Rattle.qp_model.specs.declared.bodies.Body.TheVariants.{New, Back}
use Rattle.qp_model.specs.Record.{Item}
use Rattle.qp_check_lanes.specs.Groups.{of_key}
use Rattle.qp_check_lanes.specs.Rows.{records_of_key}
use Rattle.qp_check_lanes.specs.declared.rows.KeyedRecords.{KeyedRecords}

-- the block that is given out or comes back
abbrev pub block_of : Body → Option ℕ
block_of (New p n b from sig pars) = Some b
block_of (Back p n b to) = Some b
block_of _ = None

abbrev pub block_key : Item → Option ℕ
block_key i = block_of i.body

-- each block's row has the operations that give it out or back
pub record HasGivesByBlock (pool : List Item) (rows : KeyedRecords) (none : List Item) : Type 0 where
  pub rows_are : (b : ℕ) → records_of_key rows (b, 0, 0) ≡ of_key block_key b pool
  pub none_is : none ≡ []
