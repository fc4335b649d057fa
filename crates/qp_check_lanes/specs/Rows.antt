-- Records in rows, by keys.
use Rattle.std.specs.Prelude.{ℕ, List, []}
use Rattle.std.specs.Option.{unwrap_or}
use Rattle.std.specs.BTreeMap.{get}
use Rattle.qp_model.specs.Record.{Item}
use Rattle.qp_check_lanes.specs.Keys.{key_cmp}
use Rattle.qp_check_lanes.specs.declared.rows.KeyedRecords.{KeyedRecords}

-- the records of a key
abbrev pub records_of_key : KeyedRecords → ℕ × ℕ × ℕ → List Item
records_of_key x k = unwrap_or (get key_cmp x.rows k) []
