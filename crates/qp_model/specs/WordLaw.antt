-- What every numbered word keeps, and the law of all words of a system.
use Rattle.std.specs.Prelude.{ℕ, suc, ◌+◌, nat_lt, nat_le, Bool, ◌&&◌, List, length, IsTrue, is_some}
use Rattle.std.specs.List.{list_all}
use Rattle.qp_model.specs.declared.record.Rec.{Rec}
use Rattle.qp_model.specs.declared.words.Word.{Word}
use Rattle.qp_model.specs.declared.words.Word.TheVariants as word
use Rattle.qp_model.specs.declared.systems.System.{System}
use Rattle.qp_model.specs.Lists.{all_below}
use Rattle.qp_model.specs.History.{all_items, hist, is_numbered, marks_rise}
use Rattle.qp_model.specs.Machine.{Machine, is_allowed, is_shown}
use Rattle.qp_model.specs.FreeBlocks.{Pool, free_blocks}
use Rattle.qp_model.specs.References.{Refs, references}
use Rattle.qp_model.specs.Line.{Line, line}
use Rattle.qp_model.specs.Subscribers.{Subscribers, subscribers}
use Rattle.qp_model.specs.TimeEvents.{Clock, time_event}
use Rattle.qp_model.specs.Lives.{HasLives, has_lives}
use Rattle.qp_model.specs.Sites.{object_at, ring_of, blocks_of}

-- A word's numbers are drawn once each, its operations are allowed in their turns, what is shown of it is as these gave it, and in no
-- lane do its marks fall.
pub record Keeps (S : Type 0) (m : Machine S) (w : Word) (lanes : List (List Rec)) : Type 0 where
  pub numbers : IsTrue (is_numbered w (all_items lanes))
  pub allowed : IsTrue (is_allowed m (hist w (all_items lanes)))
  pub shown : IsTrue (is_shown m w (all_items lanes))
  pub marks : IsTrue (marks_rise w lanes)

-- the system has the pool, from 1
abbrev pub is_pool : System → ℕ → Bool
is_pool sys p = nat_lt 0 p && nat_le p (length sys.pools)

-- the pool has the block, from 0
unfoldable pub is_block : System → ℕ → ℕ → Bool
is_block sys p b = is_pool sys p && nat_lt b (blocks_of sys p)

unfoldable pub is_object : System → ℕ → Bool
unfolding object_at
is_object sys a = is_some (object_at sys a)

-- the system has the signal, from 4
abbrev pub is_signal : System → ℕ → Bool
is_signal sys s = nat_le 4 s && nat_lt s (length sys.signals + 4)

-- the system has the time event, from 1
abbrev pub is_timer : System → ℕ → Bool
is_timer sys t = nat_lt 0 t && nat_le t (length sys.timers)

-- the law of all words of the system; records that name another word are no matter of it
pub record Words (sys : System) (lanes : List (List Rec)) : Type 0 where
  pub pools : (p : ℕ) → IsTrue (is_pool sys p) → Keeps Pool (free_blocks (blocks_of sys p)) (word.Pool p) lanes
  pub blocks : (p b : ℕ) → IsTrue (is_block sys p b) → Keeps Refs references (word.Block p b) lanes
  pub lives : (p b : ℕ) → IsTrue (is_block sys p b) → HasLives b (hist (word.Pool p) (all_items lanes)) (hist (word.Block p b) (all_items lanes))
  pub queues : (a : ℕ) → IsTrue (is_object sys a) → Keeps Line (line (ring_of sys a)) (word.Queue a) lanes
  pub signals : (s : ℕ) → IsTrue (is_signal sys s) → Keeps Subscribers subscribers (word.Signal s) lanes
  pub timers : (t : ℕ) → IsTrue (is_timer sys t) → Keeps Clock time_event (word.Timer t) lanes

-- the same as tests
unfoldable pub keeps : {S : Type 0} → Machine S → Word → List (List Rec) → Bool
unfolding all_items hist is_allowed is_numbered is_shown marks_rise
keeps m w lanes =
    is_numbered w (all_items lanes) && is_allowed m (hist w (all_items lanes)) && is_shown m w (all_items lanes) && marks_rise w lanes

unfoldable pub pools_hold : System → List (List Rec) → Bool
unfolding all_below keeps
pools_hold sys lanes = all_below (length sys.pools) (λ k. keeps (free_blocks (blocks_of sys (suc k))) (word.Pool (suc k)) lanes)

unfoldable pub blocks_hold : System → List (List Rec) → Bool
unfolding all_below all_items has_lives hist keeps
blocks_hold sys lanes =
    all_below (length sys.pools)
    (λ k. all_below (blocks_of sys (suc k))
    (λ b. keeps references (word.Block (suc k) b) lanes
    && has_lives b (hist (word.Pool (suc k)) (all_items lanes)) (hist (word.Block (suc k) b) (all_items lanes))))

unfoldable pub queues_hold : System → List (List Rec) → Bool
unfolding keeps ring_of
queues_hold sys lanes = list_all (λ d. keeps (line (ring_of sys d.priority)) (word.Queue d.priority) lanes) sys.objects

unfoldable pub signals_hold : System → List (List Rec) → Bool
unfolding all_below keeps
signals_hold sys lanes = all_below (length sys.signals) (λ k. keeps subscribers (word.Signal (k + 4)) lanes)

unfoldable pub timers_hold : System → List (List Rec) → Bool
unfolding all_below keeps
timers_hold sys lanes = all_below (length sys.timers) (λ k. keeps time_event (word.Timer (suc k)) lanes)

unfoldable pub words_hold : System → List (List Rec) → Bool
unfolding blocks_hold pools_hold queues_hold signals_hold timers_hold
words_hold sys lanes =
    pools_hold sys lanes && blocks_hold sys lanes && queues_hold sys lanes && signals_hold sys lanes && timers_hold sys lanes
