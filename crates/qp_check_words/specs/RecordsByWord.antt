-- The records of a journal by their words.
use Rattle.std.specs.Prelude.{◌≡◌, ℕ, not, List, [], Some}
use Rattle.std.specs.BTreeMap.{BTreeMap, get}
use Rattle.std.specs.BTreeSet.{BTreeSet, contains}
use Rattle.std.specs.Ordering.{nat_cmp}
use Rattle.qp_model.specs.declared.record.Rec.{Rec}
use Rattle.qp_model.specs.declared.words.Word.{Word}
use Rattle.qp_model.specs.declared.words.Word.TheVariants as word
use Rattle.qp_model.specs.Record.{Item}
use Rattle.qp_model.specs.History.{all_items, hist, marks_rise}
use Rattle.qp_check_lanes.specs.Keys.{key_cmp, key_of}
use Rattle.qp_check_words.specs.Marks.{touched}
use Rattle.qp_check_lanes.specs.Rows.{records_of_key}
use Rattle.qp_check_lanes.specs.declared.rows.KeyedRecords.{KeyedRecords}

-- each word's row has the records on it, the words that fall are those whose marks fall in some lane, and the pools that are there have
-- their operations
pub record IsByWord (lanes : List (List Rec)) (rows : KeyedRecords) (falls : BTreeSet (ℕ × ℕ × ℕ)) (pools : BTreeMap ℕ (List Item)) (none : List Item) : Type 0 where
  pub rows_are : (w : Word) → records_of_key rows (key_of w) ≡ touched w (all_items lanes)
  pub falls_are : (w : Word) → contains key_cmp falls (key_of w) ≡ not (marks_rise w lanes)
  pub pools_are : (p : ℕ) (h : List Item) → get nat_cmp pools p ≡ Some h → h ≡ hist (word.Pool p) (all_items lanes)
  pub none_is : none ≡ []
