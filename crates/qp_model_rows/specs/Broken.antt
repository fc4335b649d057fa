-- Journals that are lawful up to one definition, and break that one.
use Rattle.std.specs.Prelude.{◌≡◌, ℕ, suc, ◌+◌, nat_lt, Bool, true, ◌&&◌, List, length, IsTrue}
use Rattle.std.specs.List.{list_all, AllByRecursion}
use Rattle.qp_model.specs.declared.record.Rec.{Rec}
use Rattle.qp_model.specs.declared.stimulus.Stim.{Stim}
use Rattle.qp_model.specs.declared.words.Word.TheVariants as word
use Rattle.qp_model.specs.declared.systems.System.{System}
use Rattle.qp_model.specs.declared.journals.Journal.{Journal}
use Rattle.qp_model.specs.Lists.{all_below}
use Rattle.qp_model.specs.History.{all_items, hist, is_numbered}
use Rattle.qp_model.specs.Machine.{is_allowed}
use Rattle.qp_model.specs.FreeBlocks.{free_blocks}
use Rattle.qp_model.specs.References.{references}
use Rattle.qp_model.specs.Lives.{HasLives}
use Rattle.qp_model.specs.Sites.{blocks_of}
use Rattle.qp_model.specs.WordLaw.{Words}
use Rattle.qp_model.specs.Lawful.{Lawful, ObjectHolds, KernelHolds}

-- a test of each pool, of each block, and of each other word
abbrev pub each_pool : System → (ℕ → Bool) → Bool
each_pool sys test = all_below (length sys.pools) (λ k. test (suc k))

abbrev pub each_block : System → (ℕ → ℕ → Bool) → Bool
each_block sys test = each_pool sys (λ p. all_below (blocks_of sys p) (test p))

-- each number drawn on a word of the system is drawn once
unfoldable pub numbers_stand : System → List (List Rec) → Bool
unfolding all_below all_items is_numbered
numbers_stand sys lanes =
    each_pool sys (λ p. is_numbered (word.Pool p) (all_items lanes))
    && each_block sys (λ p b. is_numbered (word.Block p b) (all_items lanes))
    && list_all (λ d. is_numbered (word.Queue d.priority) (all_items lanes)) sys.objects
    && all_below (length sys.signals) (λ k. is_numbered (word.Signal (k + 4)) (all_items lanes))
    && all_below (length sys.timers) (λ k. is_numbered (word.Timer (suc k)) (all_items lanes))

-- each pool gives its least free block, and each block drops references that stand
unfoldable pub blocks_allowed : System → List (List Rec) → Bool
unfolding all_below all_items hist is_allowed
blocks_allowed sys lanes =
    each_pool sys (λ p. is_allowed (free_blocks (blocks_of sys p)) (hist (word.Pool p) (all_items lanes)))
    && each_block sys (λ p b. is_allowed references (hist (word.Block p b) (all_items lanes)))

abbrev pub LivesOf : List (List Rec) → ℕ → ℕ → Type 0
LivesOf lanes p b = HasLives b (hist (word.Pool p) (all_items lanes)) (hist (word.Block p b) (all_items lanes))

abbrev pub IsUnlawful : System → Journal → Type 0
IsUnlawful sys j = (stimuli : List (List Stim)) → Lawful sys stimuli j → ⊥

-- numbers, free blocks and references are right, and so are the lives of the blocks before this one, but not its own
pub record BreaksLives (sys : System) (j : Journal) (p b : ℕ) : Type 0 where
  pub numbers : numbers_stand sys j.lanes ≡ true
  pub blocks : blocks_allowed sys j.lanes ≡ true
  pub before : (c : ℕ) → IsTrue (nat_lt c b) → LivesOf j.lanes p c
  pub broken : LivesOf j.lanes p b → ⊥
  pub unlawful : IsUnlawful sys j

-- the words and the objects are lawful, and the kernel lane isn't
pub record BreaksKernelLane (sys : System) (j : Journal) : Type 0 where
  pub words : Words sys j.lanes
  pub objects : AllByRecursion (ObjectHolds sys j) sys.objects
  pub broken : KernelHolds sys j → ⊥
  pub unlawful : IsUnlawful sys j
