-- What a sound world says of a block: of its word, its life, its references and its tokens.
use Rattle.std.proofs.Common.{◌≡◌, ℕ, ◌+◌, ◌<◌, nat_lt, Bool, true, false, not, List, [], ◌∷◌, length, refl, ◌∙◌, ap, arith, IsTrue}
use Rattle.std.proofs.lemmas.Bool.{and_parts}
use Rattle.std.proofs.lemmas.Bool.Decides.{nat_tests}
use Rattle.qp_chart.specs.StateTree.{has}
use Rattle.qp_model.specs.declared.record.Rec.{Rec}
use Rattle.qp_model.specs.declared.words.Word.{Word}
use Rattle.qp_model.specs.declared.words.Word.TheVariants as word
use Rattle.qp_model.specs.declared.systems.System.{System}
use Rattle.qp_model.specs.History.{hist, all_items, total}
use Rattle.qp_model.specs.Machine.{Machine, after}
use Rattle.qp_model.specs.References.{Refs, references}
use Rattle.qp_model.specs.FreeBlocks.{free_blocks}
use Rattle.qp_model.specs.Line.{Line, line}
use Rattle.qp_model.specs.Subscribers.{subscribers}
use Rattle.qp_model.specs.TimeEvents.{time_event}
use Rattle.qp_model.specs.Lives.{is_empty}
use Rattle.qp_model.specs.Sites.{ring_of, blocks_of}
use Rattle.qp_model.specs.WordLaw.{Keeps, Words, is_block, is_pool, is_object, is_signal, is_timer}
use Rattle.qp_model.proofs.HistoryLemmas.{length-hist}
use Rattle.qp_model.proofs.MachineLemmas.{Counts, count-after}
use Rattle.qp_model.proofs.LineLemmas.{IsLine, line-counts, line_is}
use Rattle.qp_model.proofs.WordLemmas.{Held as HeldWord}
use Rattle.qp_model.proofs.WordLawLemmas.{references-counts, free_blocks-counts, subscribers-counts, time_event-counts}
use Rattle.qp_model.proofs.LifeLemmas.{free-out}
use Rattle.qp_model.proofs.ReferenceLemmas.{Alive, alive-referred}
use Rattle.qp_calls.specs.Tokens.{Token, Held, stands}
use Rattle.qp_plain_sound.specs.WordStates.{pool_in, life_in, refs_in, line_in, set_in, clock_in}
use Rattle.qp_plain_sound.specs.Sound.{Sound, BlockIn}
use Rattle.qp_plain_sound.proofs.Times.{stands-times, has-times}
use Rattle.qp_plain_sound.proofs.Events.{AreNames, names-are}

-- a word that keeps its law has had as many operations as its state counts
pub count-total : {S : Type 0} (m : Machine S) (w : Word) (lanes : List (List Rec)) → Counts S m → Keeps S m w lanes
    → m.count (after m (hist w (all_items lanes))) ≡ total w (all_items lanes)
count-total m w lanes counts keeps = count-after m counts (hist w (all_items lanes)) keeps.allowed ∙ length-hist w (all_items lanes) keeps.numbers

pub block-pool : (sys : System) (p b : ℕ) → IsTrue (is_block sys p b) → IsTrue (is_pool sys p) × (b < blocks_of sys p) × (0 < p)
unfolding is_block
block-pool sys p b h =
    let pool : is_pool sys p ≡ true = (and_parts (is_pool sys p) (nat_lt b (blocks_of sys p)) h).0 in
    let below : nat_lt b (blocks_of sys p) ≡ true = (and_parts (is_pool sys p) (nat_lt b (blocks_of sys p)) h).1 in
    let some : nat_lt 0 p ≡ true = (and_parts _ _ pool).0 in
    let lt : b < blocks_of sys p = grind (arith, nat_tests) in
    let up : 0 < p = grind (arith, nat_tests) in
    (pool, lt, up)

module _ (sys : System) (lanes : List (List Rec)) (words : Words sys lanes) where
  pub pool-count : (p : ℕ) → IsTrue (is_pool sys p) → (pool_in sys lanes p).count ≡ total (word.Pool p) (all_items lanes)
  unfolding pool_in
  pool-count p h = count-total (free_blocks (blocks_of sys p)) (word.Pool p) lanes (free_blocks-counts (blocks_of sys p)) (words.pools p h)

  pub refs-count : (p b : ℕ) → IsTrue (is_block sys p b) → (refs_in lanes p b).count ≡ total (word.Block p b) (all_items lanes)
  unfolding refs_in
  refs-count p b h = count-total references (word.Block p b) lanes references-counts (words.blocks p b h)

  pub line-count : (a : ℕ) → IsTrue (is_object sys a) → (line_in sys lanes a).f + (line_in sys lanes a).l + (line_in sys lanes a).m ≡ total (word.Queue a) (all_items lanes)
  unfolding line_in
  line-count a h = count-total (line (ring_of sys a)) (word.Queue a) lanes (line-counts (ring_of sys a)) (words.queues a h)

  pub set-count : (s : ℕ) → IsTrue (is_signal sys s) → (set_in lanes s).count ≡ total (word.Signal s) (all_items lanes)
  unfolding set_in
  set-count s h = count-total subscribers (word.Signal s) lanes subscribers-counts (words.signals s h)

  pub clock-count : (t : ℕ) → IsTrue (is_timer sys t) → (clock_in lanes t).count ≡ total (word.Timer t) (all_items lanes)
  unfolding clock_in
  clock-count t h = count-total time_event (word.Timer t) lanes time_event-counts (words.timers t h)

  -- its history is as long
  pub refs-long : (p b : ℕ) → IsTrue (is_block sys p b) → (refs_in lanes p b).count ≡ length (hist (word.Block p b) (all_items lanes))
  unfolding refs_in
  refs-long p b h = count-after references references-counts (hist (word.Block p b) (all_items lanes)) (words.blocks p b h).allowed

  pub names-in : (p b : ℕ) → IsTrue (is_block sys p b) → AreNames (refs_in lanes p b)
  unfolding refs_in
  names-in p b h = names-are (hist (word.Block p b) (all_items lanes)) (words.blocks p b h).allowed

  -- a line's entries are those posted and not yet taken
  pub line-in : (a : ℕ) → IsTrue (is_object sys a) → IsLine (ring_of sys a) (line_in sys lanes a)
  unfolding line_in
  line-in a h = line_is (ring_of sys a) (hist (word.Queue a) (all_items lanes)) (words.queues a h).allowed

  pub held-refs : (p b : ℕ) → IsTrue (is_block sys p b) → HeldWord Refs references (word.Block p b) lanes (refs_in lanes p b)
  unfolding refs_in
  held-refs p b h = record { keeps = words.blocks p b h; state = refl }

  pub held-line : (a : ℕ) → IsTrue (is_object sys a) → HeldWord Line (line (ring_of sys a)) (word.Queue a) lanes (line_in sys lanes a)
  unfolding line_in
  held-line a h = record { keeps = words.queues a h; state = refl }

  -- a block is free exactly where it isn't given out
  pub free-life : (p b : ℕ) → IsTrue (is_block sys p b) → has (pool_in sys lanes p).free b ≡ not (life_in lanes p b).out
  unfolding life_in pool_in
  free-life p b h = free-out (blocks_of sys p) b (hist (word.Pool p) (all_items lanes)) (block-pool sys p b h).1

module _ (sys : System) (lanes : List (List Rec)) (hands : List Token) (old : Sound sys lanes hands) (p b : ℕ) (h : IsTrue (is_block sys p b)) where
  ok : BlockIn sys lanes hands p b
  ok = old.block p b h

  -- a reference in the hands stands
  pub held-stands : (k : ℕ) → stands (Held p b k) hands ≡ true → has (refs_in lanes p b).names k ≡ true
  held-stands k s = let n = stands-times (Held p b k) hands s in has-times (refs_in lanes p b).names k (omega (arith, n, ok.owned k))

  -- a block with a reference is given out
  pub referred-out : (k : ℕ) → has (refs_in lanes p b).names k ≡ true → (life_in lanes p b).out ≡ true
  referred-out k s = go (life_in lanes p b).out refl
    where
      go : (v : Bool) → (life_in lanes p b).out ≡ v → v ≡ true
      go true e = refl
      go false e = let empty = ok.idle e in let wrong = rw empty at s in absurd (cc)

  pub out-not_free : (life_in lanes p b).out ≡ true → has (pool_in sys lanes p).free b ≡ false
  out-not_free out = free-life sys lanes old.words p b h ∙ ap not out

  not_empty : (k : ℕ) (names : List ℕ) → has names k ≡ true → is_empty names ≡ false
  not_empty k [] s = absurd (cc)
  not_empty k (x ∷ xs) s = refl

  pub referred-alive : (k : ℕ) → has (refs_in lanes p b).names k ≡ true → Alive b (hist (word.Pool p) (all_items lanes)) (hist (word.Block p b) (all_items lanes))
  unfolding refs_in pool_in
  referred-alive k s =
      alive-referred (blocks_of sys p) b (hist (word.Pool p) (all_items lanes)) (hist (word.Block p b) (all_items lanes)) (block-pool sys p b h).1
      (out-not_free (referred-out k s)) (not_empty k _ s)
