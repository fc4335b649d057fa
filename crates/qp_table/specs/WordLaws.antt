-- Laws of the layout of words, and of what stands between any two steps.
use Rattle.std.specs.Prelude.{◌≡◌, ℕ, ◌/◌, ◌%◌, ◌<◌, ◌≤◌, eqb, List, length, slice_index, IsTrue}
use Rattle.qp_model.specs.declared.systems.System.{System}
use Rattle.qp_model.specs.declared.words.Word.TheVariants as word
use Rattle.qp_model.specs.History.{hist, all_items}
use Rattle.qp_model.specs.WordLaw.{is_pool, is_block, is_object}
use Rattle.qp_table.specs.Counting.{many}
use Rattle.qp_table.specs.Rule.{pool_at, block_at, queue_at, cell_at, event_word_at, bits_value, mark_in, Holds}
use Rattle.qp_table.specs.declared.view.View.{View}

-- each word has its place below 21128, apart from all others: pools, blocks, queues, cells and event words, each behind the last of the kind before
abbrev pub WordsStandApart : Type 0
WordsStandApart = (p q b c a d i j : ℕ) → p < 16 → q < 16 → b < 32 → c < 32 → a < 33 → d < 33 → i < 256 → j < 256
    → (pool_at p < 128) × (128 ≤ block_at p b) × (block_at p b < 4224) × (4224 ≤ queue_at a) × (queue_at a < 4488) × (4488 ≤ cell_at a i) × (cell_at a i < 12936) × (pool_at p ≡ pool_at q → p ≡ q) × (block_at p b ≡ block_at q c → (p ≡ q) × (b ≡ c))
    × (queue_at a ≡ queue_at d → a ≡ d) × (cell_at a i ≡ cell_at d j → (a ≡ d) × (i ≡ j))

abbrev pub EventWordsStandApart : Type 0
EventWordsStandApart = (p q b c i j : ℕ) → p < 16 → q < 16 → b < 32 → c < 32 → i < 9 → j < 9 → (12936 ≤ event_word_at p b i) × (event_word_at p b i < 21128) × (event_word_at p b i ≡ event_word_at q c j → (p ≡ q) × (b ≡ c) × (i ≡ j))

-- a pool's word has its operations and the map of its free blocks, a block's its operations and its references, a queue's its three counts
abbrev pub WordsAreReadBack : Type 0
WordsAreReadBack = (sys : System) (words : List ℕ) (views : List View) (holds : Holds sys words views)
    → ((p : ℕ) → IsTrue (is_pool sys p) → (slice_index words (pool_at p) / 4294967296 ≡ (holds.now.pool p).count) × (slice_index words (pool_at p) % 4294967296 ≡ bits_value (holds.now.pool p).free))
    × ((p b : ℕ) → IsTrue (is_block sys p b) → (slice_index words (block_at p b) / 4294967296 ≡ (holds.now.refs p b).count) × (slice_index words (block_at p b) % 4294967296 ≡ length (holds.now.refs p b).names))
    × ((a : ℕ) → IsTrue (is_object sys a) → (slice_index words (queue_at a) % 2097152 ≡ (holds.now.line a).f) × (slice_index words (queue_at a) / 2097152 % 2097152 ≡ (holds.now.line a).l) × (slice_index words (queue_at a) / 4398046511104 ≡ (holds.now.line a).m))

-- the number that a word shows is that of the operations in its history
abbrev pub NumbersCountOperations : Type 0
NumbersCountOperations = (sys : System) (words : List ℕ) (views : List View) (holds : Holds sys words views)
    → ((p : ℕ) → IsTrue (is_pool sys p) → mark_in (pool_at p) (slice_index words (pool_at p)) ≡ length (hist (word.Pool p) (all_items holds.lanes)))
    × ((p b : ℕ) → IsTrue (is_block sys p b) → mark_in (block_at p b) (slice_index words (block_at p b)) ≡ length (hist (word.Block p b) (all_items holds.lanes)))
    × ((a : ℕ) → IsTrue (is_object sys a) → mark_in (queue_at a) (slice_index words (queue_at a)) ≡ length (hist (word.Queue a) (all_items holds.lanes)))

-- the references to a block have different names
abbrev pub ReferencesDiffer : Type 0
ReferencesDiffer = (sys : System) (words : List ℕ) (views : List View) (holds : Holds sys words views) (p b k : ℕ) → IsTrue (is_block sys p b) → many (λ r. eqb r k) (holds.now.refs p b).names ≤ 1
