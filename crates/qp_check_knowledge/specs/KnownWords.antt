-- Tables of what words held.
use Rattle.std.specs.Prelude.{◌≡◌, ℕ, List, Some}
use Rattle.std.specs.BTreeMap.{BTreeMap, get}
use Rattle.std.specs.Ordering.{nat_cmp}
use Rattle.qp_model.specs.declared.record.Rec.{Rec}
use Rattle.qp_model.specs.declared.systems.System.{System}
use Rattle.qp_model.specs.declared.words.Word.TheVariants as word
use Rattle.qp_model.specs.Record.{Item}
use Rattle.qp_model.specs.History.{all_items, hist}
use Rattle.qp_model.specs.Sites.{blocks_of}
use Rattle.qp_check_lanes.specs.GivenBlocks.{block_key}
use Rattle.qp_check_lanes.specs.Groups.{of_key}
use Rattle.qp_check_lanes.specs.Keys.{key_cmp}
use Rattle.qp_check_knowledge.specs.KnownSteps.{AreSteps}
use Rattle.qp_check_knowledge.specs.KnownTables.{free_counts, left_counts, member_lists}
use Rattle.qp_check_knowledge.specs.declared.known_words.KnownBlock.{KnownBlock}

-- the tables of block b of pool p
pub record IsKnownBlock (items : List Item) (p b : ℕ) (t : KnownBlock) : Type 0 where
  pub left : t.left.items ≡ left_counts (hist (word.Block p b) items)
  pub steps : AreSteps (of_key block_key b (hist (word.Pool p) items)) t.steps

-- each table that is there is that of its word
pub record IsKnowledge (sys : System) (lanes records : List (List Rec)) (pools : BTreeMap ℕ (List ℕ)) (blocks : BTreeMap (ℕ × ℕ × ℕ) KnownBlock) (signals : BTreeMap ℕ (List (List ℕ))) : Type 0 where
  pub same : records ≡ lanes
  pub pools_are : (p : ℕ) (t : List ℕ) → get nat_cmp pools p ≡ Some t → t ≡ free_counts (blocks_of sys p) (hist (word.Pool p) (all_items lanes))
  pub blocks_are : (p b : ℕ) (t : KnownBlock) → get key_cmp blocks (p, b, 0) ≡ Some t → IsKnownBlock (all_items lanes) p b t
  pub signals_are : (sig : ℕ) (t : List (List ℕ)) → get nat_cmp signals sig ≡ Some t → t ≡ member_lists (hist (word.Signal sig) (all_items lanes))
