-- The law of all words when a record is added at the end of a lane that stands among others.
use Rattle.std.proofs.Common.{◌≡◌, ℕ, suc, ◌==◌, Bool, true, false, List, [], ◌∷◌, ◌++◌, refl, subst, IsTrue, ◌⊎◌, inl, inr, None, arith}
use Rattle.std.proofs.lemmas.Bool.Decides.{nat_tests}
use Rattle.qp_model.specs.declared.record.Rec.{Rec}
use Rattle.qp_model.specs.declared.systems.System.{System}
use Rattle.qp_model.specs.declared.words.Word.{Word}
use Rattle.qp_model.specs.declared.words.Word.TheVariants as word
use Rattle.qp_model.specs.declared.bodies.Body.{Body}
use Rattle.qp_model.specs.declared.bodies.Body.TheVariants.{New, Back, Inc, Dec, Sub, Unsub, Arm, Disarm, Rearm, Tick, Fire}
use Rattle.qp_model.specs.Record.{Item, item_of}
use Rattle.qp_model.specs.History.{touch, Touch, Draws, Shows, Neither, same_word, mark_of, hist, all_items}
use Rattle.qp_model.specs.Machine.{Machine}
use Rattle.qp_model.specs.FreeBlocks.{Pool, free_blocks, pool_may, pool_next}
use Rattle.qp_model.specs.References.{Refs, references, refs_may, refs_next}
use Rattle.qp_model.specs.Line.{Line, line}
use Rattle.qp_model.specs.Subscribers.{Subscribers, subscribers, subscribers_may, subscribers_next}
use Rattle.qp_model.specs.TimeEvents.{Clock, time_event, clock_may, clock_next}
use Rattle.qp_model.specs.Lives.{HasLives}
use Rattle.qp_model.specs.Sites.{ring_of, blocks_of}
use Rattle.qp_model.specs.WordLaw.{Keeps, Words, is_pool, is_block, is_object, is_signal, is_timer}
use Rattle.qp_model.proofs.MachineLemmas.{Counts}
use Rattle.qp_model.proofs.WordLemmas.{held-other, hist-stays, mark-none}
use Rattle.qp_model.proofs.LineLemmas.{line-counts}

pool_rises : (blocks : ℕ) (s : Pool) (b : Body) → pool_may blocks s b ≡ true → (pool_next s b).count ≡ suc s.count
pool_rises blocks s (New p n b from sig pars) h = omega arith
pool_rises blocks s (Back p n b to) h = omega arith
pool_rises blocks s _ h = cc

pub free_blocks-counts : (blocks : ℕ) → Counts Pool (free_blocks blocks)
free_blocks-counts blocks = record { begins = refl; rises = λ s i h. pool_rises blocks s i.body h }

refs_rises : (s : Refs) (b : Body) → refs_may s b ≡ true → (refs_next s b).count ≡ suc s.count
refs_rises s (Inc p b r) h = omega arith
refs_rises s (Dec p b d k) h = omega arith
refs_rises s _ h = cc

pub references-counts : Counts Refs references
references-counts = record { begins = refl; rises = λ s i h. refs_rises s i.body h }

subscribers_rises : (s : Subscribers) (o : ℕ) (b : Body) → subscribers_may s o b ≡ true → (subscribers_next s o b).count ≡ suc s.count
subscribers_rises s o (Sub sig n) h = omega arith
subscribers_rises s o (Unsub sig n) h = omega arith
subscribers_rises s o _ h = cc

pub subscribers-counts : Counts Subscribers subscribers
subscribers-counts = record { begins = refl; rises = λ s i h. subscribers_rises s i.of i.body h }

clock_rises : (s : Clock) (b : Body) → clock_may s b ≡ true → (clock_next s b).count ≡ suc s.count
clock_rises s (Arm t n ticks interval) h = omega arith
clock_rises s (Disarm t n former) h = omega arith
clock_rises s (Rearm t n former ticks) h = omega arith
clock_rises s (Tick t n counter) h = omega arith
clock_rises s (Fire t n reload) h = omega arith
clock_rises s _ h = cc

pub time_event-counts : Counts Clock time_event
time_event-counts = record { begins = refl; rises = λ s i h. clock_rises s i.body h }

-- what draws or shows w has no mark on another word
pub mark-elsewhere : (w v : Word) (t : Touch) (n : ℕ) → same_word w v ≡ false → (t ≡ Draws w n) ⊎ (t ≡ Shows w n) → mark_of v t ≡ None
mark-elsewhere w v t n other (inl is) = rw (is, other) refl
mark-elsewhere w v t n other (inr is) = rw (is, other) refl

module _ (sys : System) (before : List (List Rec)) (lane : List Rec) (behind : List (List Rec)) (r : Rec) (i : Item) (is : item_of r ≡ i)
    (old : Words sys (before ++ lane ∷ behind)) where
  -- the record has no mark on the word
  keeps-other : {S : Type 0} (m : Machine S) (w : Word) → Counts S m → Keeps S m w (before ++ lane ∷ behind) → mark_of w (touch i) ≡ None
      → Keeps S m w (before ++ (lane ++ r ∷ []) ∷ behind)
  keeps-other m w counts keeps none = (held-other before lane behind r i is m w _ counts (record { keeps = keeps; state = refl }) none).keeps

  -- the record has no mark on the block's word and its pool's
  lives-unmoved : (p b : ℕ) → mark_of (word.Pool p) (touch i) ≡ None → mark_of (word.Block p b) (touch i) ≡ None
      → HasLives b (hist (word.Pool p) (all_items (before ++ lane ∷ behind))) (hist (word.Block p b) (all_items (before ++ lane ∷ behind)))
      → HasLives b (hist (word.Pool p) (all_items (before ++ (lane ++ r ∷ []) ∷ behind))) (hist (word.Block p b) (all_items (before ++ (lane ++ r ∷ []) ∷ behind)))
  lives-unmoved p b pool block lives =
      rw (
        hist-stays before lane behind r i is (word.Pool p) (mark-none (word.Pool p) (touch i) pool).0,
        hist-stays before lane behind r i is (word.Block p b) (mark-none (word.Block p b) (touch i) block).0,
      )
      lives

  -- a record that has no mark on any word
  pub words-note : touch i ≡ Neither → Words sys (before ++ (lane ++ r ∷ []) ∷ behind)
  words-note neither = record {
    pools = λ p h. keeps-other (free_blocks (blocks_of sys p)) (word.Pool p) (free_blocks-counts (blocks_of sys p)) (old.pools p h) (rw neither refl);
    blocks = λ p b h. keeps-other references (word.Block p b) references-counts (old.blocks p b h) (rw neither refl);
    lives = λ p b h. lives-unmoved p b (rw neither refl) (rw neither refl) (old.lives p b h);
    queues = λ a h. keeps-other (line (ring_of sys a)) (word.Queue a) (line-counts (ring_of sys a)) (old.queues a h) (rw neither refl);
    signals = λ s h. keeps-other subscribers (word.Signal s) subscribers-counts (old.signals s h) (rw neither refl);
    timers = λ t h. keeps-other time_event (word.Timer t) time_event-counts (old.timers t h) (rw neither refl);
  }

  -- a record on the queue of a
  module _ (a n : ℕ) (on : (touch i ≡ Draws (word.Queue a) n) ⊎ (touch i ≡ Shows (word.Queue a) n))
      (new : IsTrue (is_object sys a) → Keeps Line (line (ring_of sys a)) (word.Queue a) (before ++ (lane ++ r ∷ []) ∷ behind)) where
    queue : (c : ℕ) → IsTrue (is_object sys c) → (same : Bool) → (a == c) ≡ same → Keeps Line (line (ring_of sys c)) (word.Queue c) (before ++ (lane ++ r ∷ []) ∷ behind)
    queue c h true e =
        let is_a : a ≡ c = grind (arith, nat_tests) in
        subst (λ d. IsTrue (is_object sys d) → Keeps Line (line (ring_of sys d)) (word.Queue d) (before ++ (lane ++ r ∷ []) ∷ behind)) is_a new h
    queue c h false e =
        keeps-other (line (ring_of sys c)) (word.Queue c) (line-counts (ring_of sys c)) (old.queues c h) (mark-elsewhere (word.Queue a) (word.Queue c) (touch i) n e on)

    elsewhere : (v : Word) → same_word (word.Queue a) v ≡ false → mark_of v (touch i) ≡ None
    elsewhere v other = mark-elsewhere (word.Queue a) v (touch i) n other on

    pub words-queue : Words sys (before ++ (lane ++ r ∷ []) ∷ behind)
    words-queue = record {
      pools = λ p h. keeps-other (free_blocks (blocks_of sys p)) (word.Pool p) (free_blocks-counts (blocks_of sys p)) (old.pools p h) (elsewhere (word.Pool p) refl);
      blocks = λ p b h. keeps-other references (word.Block p b) references-counts (old.blocks p b h) (elsewhere (word.Block p b) refl);
      lives = λ p b h. lives-unmoved p b (elsewhere (word.Pool p) refl) (elsewhere (word.Block p b) refl) (old.lives p b h);
      queues = λ c h. queue c h (a == c) refl;
      signals = λ s h. keeps-other subscribers (word.Signal s) subscribers-counts (old.signals s h) (elsewhere (word.Signal s) refl);
      timers = λ t h. keeps-other time_event (word.Timer t) time_event-counts (old.timers t h) (elsewhere (word.Timer t) refl);
    }

  -- a record on a signal's word
  module _ (a n : ℕ) (on : (touch i ≡ Draws (word.Signal a) n) ⊎ (touch i ≡ Shows (word.Signal a) n))
      (new : IsTrue (is_signal sys a) → Keeps Subscribers subscribers (word.Signal a) (before ++ (lane ++ r ∷ []) ∷ behind)) where
    signal : (c : ℕ) → IsTrue (is_signal sys c) → (same : Bool) → (a == c) ≡ same → Keeps Subscribers subscribers (word.Signal c) (before ++ (lane ++ r ∷ []) ∷ behind)
    signal c h true e =
        let is_a : a ≡ c = grind (arith, nat_tests) in
        subst (λ d. IsTrue (is_signal sys d) → Keeps Subscribers subscribers (word.Signal d) (before ++ (lane ++ r ∷ []) ∷ behind)) is_a new h
    signal c h false e = keeps-other subscribers (word.Signal c) subscribers-counts (old.signals c h) (mark-elsewhere (word.Signal a) (word.Signal c) (touch i) n e on)

    off_signal : (v : Word) → same_word (word.Signal a) v ≡ false → mark_of v (touch i) ≡ None
    off_signal v other = mark-elsewhere (word.Signal a) v (touch i) n other on

    pub words-signal : Words sys (before ++ (lane ++ r ∷ []) ∷ behind)
    words-signal = record {
      pools = λ p h. keeps-other (free_blocks (blocks_of sys p)) (word.Pool p) (free_blocks-counts (blocks_of sys p)) (old.pools p h) (off_signal (word.Pool p) refl);
      blocks = λ p b h. keeps-other references (word.Block p b) references-counts (old.blocks p b h) (off_signal (word.Block p b) refl);
      lives = λ p b h. lives-unmoved p b (off_signal (word.Pool p) refl) (off_signal (word.Block p b) refl) (old.lives p b h);
      queues = λ c h. keeps-other (line (ring_of sys c)) (word.Queue c) (line-counts (ring_of sys c)) (old.queues c h) (off_signal (word.Queue c) refl);
      signals = λ c h. signal c h (a == c) refl;
      timers = λ t h. keeps-other time_event (word.Timer t) time_event-counts (old.timers t h) (off_signal (word.Timer t) refl);
    }

  -- a record on a timer's word
  module _ (a n : ℕ) (on : (touch i ≡ Draws (word.Timer a) n) ⊎ (touch i ≡ Shows (word.Timer a) n))
      (new : IsTrue (is_timer sys a) → Keeps Clock time_event (word.Timer a) (before ++ (lane ++ r ∷ []) ∷ behind)) where
    timer : (c : ℕ) → IsTrue (is_timer sys c) → (same : Bool) → (a == c) ≡ same → Keeps Clock time_event (word.Timer c) (before ++ (lane ++ r ∷ []) ∷ behind)
    timer c h true e =
        let is_a : a ≡ c = grind (arith, nat_tests) in
        subst (λ d. IsTrue (is_timer sys d) → Keeps Clock time_event (word.Timer d) (before ++ (lane ++ r ∷ []) ∷ behind)) is_a new h
    timer c h false e = keeps-other time_event (word.Timer c) time_event-counts (old.timers c h) (mark-elsewhere (word.Timer a) (word.Timer c) (touch i) n e on)

    off_timer : (v : Word) → same_word (word.Timer a) v ≡ false → mark_of v (touch i) ≡ None
    off_timer v other = mark-elsewhere (word.Timer a) v (touch i) n other on

    pub words-timer : Words sys (before ++ (lane ++ r ∷ []) ∷ behind)
    words-timer = record {
      pools = λ p h. keeps-other (free_blocks (blocks_of sys p)) (word.Pool p) (free_blocks-counts (blocks_of sys p)) (old.pools p h) (off_timer (word.Pool p) refl);
      blocks = λ p b h. keeps-other references (word.Block p b) references-counts (old.blocks p b h) (off_timer (word.Block p b) refl);
      lives = λ p b h. lives-unmoved p b (off_timer (word.Pool p) refl) (off_timer (word.Block p b) refl) (old.lives p b h);
      queues = λ c h. keeps-other (line (ring_of sys c)) (word.Queue c) (line-counts (ring_of sys c)) (old.queues c h) (off_timer (word.Queue c) refl);
      signals = λ s h. keeps-other subscribers (word.Signal s) subscribers-counts (old.signals s h) (off_timer (word.Signal s) refl);
      timers = λ c h. timer c h (a == c) refl;
    }

  -- a record on a block's word; the block's lives with it
  module _ (p b n : ℕ) (on : (touch i ≡ Draws (word.Block p b) n) ⊎ (touch i ≡ Shows (word.Block p b) n))
      (new : IsTrue (is_block sys p b) → Keeps Refs references (word.Block p b) (before ++ (lane ++ r ∷ []) ∷ behind))
      (living : IsTrue (is_block sys p b) → HasLives b (hist (word.Pool p) (all_items (before ++ (lane ++ r ∷ []) ∷ behind))) (hist (word.Block p b) (all_items (before ++ (lane ++ r ∷ []) ∷ behind)))) where
    off_block : (v : Word) → same_word (word.Block p b) v ≡ false → mark_of v (touch i) ≡ None
    off_block v other = mark-elsewhere (word.Block p b) v (touch i) n other on

    block : (q c : ℕ) → IsTrue (is_block sys q c) → (pools blocks : Bool) → (p == q) ≡ pools → (b == c) ≡ blocks → Keeps Refs references (word.Block q c) (before ++ (lane ++ r ∷ []) ∷ behind)
    block q c h true true e f =
        let is_p : p ≡ q = grind (arith, nat_tests) in
        let is_b : b ≡ c = grind (arith, nat_tests) in
        subst (λ c. IsTrue (is_block sys q c) → Keeps Refs references (word.Block q c) (before ++ (lane ++ r ∷ []) ∷ behind)) is_b
        (subst (λ q. IsTrue (is_block sys q b) → Keeps Refs references (word.Block q b) (before ++ (lane ++ r ∷ []) ∷ behind)) is_p new) h
    block q c h true false e f = keeps-other references (word.Block q c) references-counts (old.blocks q c h) (off_block (word.Block q c) (rw (e, f) refl))
    block q c h false blocks e f = keeps-other references (word.Block q c) references-counts (old.blocks q c h) (off_block (word.Block q c) (rw e refl))

    life : (q c : ℕ) → IsTrue (is_block sys q c) → (pools blocks : Bool) → (p == q) ≡ pools → (b == c) ≡ blocks
        → HasLives c (hist (word.Pool q) (all_items (before ++ (lane ++ r ∷ []) ∷ behind))) (hist (word.Block q c) (all_items (before ++ (lane ++ r ∷ []) ∷ behind)))
    life q c h true true e f =
        let is_p : p ≡ q = grind (arith, nat_tests) in
        let is_b : b ≡ c = grind (arith, nat_tests) in
        subst (λ c. IsTrue (is_block sys q c) → HasLives c (hist (word.Pool q) (all_items (before ++ (lane ++ r ∷ []) ∷ behind))) (hist (word.Block q c) (all_items (before ++ (lane ++ r ∷ []) ∷ behind)))) is_b
        (subst (λ q. IsTrue (is_block sys q b) → HasLives b (hist (word.Pool q) (all_items (before ++ (lane ++ r ∷ []) ∷ behind))) (hist (word.Block q b) (all_items (before ++ (lane ++ r ∷ []) ∷ behind)))) is_p living) h
    life q c h true false e f = lives-unmoved q c (off_block (word.Pool q) refl) (off_block (word.Block q c) (rw (e, f) refl)) (old.lives q c h)
    life q c h false blocks e f = lives-unmoved q c (off_block (word.Pool q) refl) (off_block (word.Block q c) (rw e refl)) (old.lives q c h)

    pub words-block : Words sys (before ++ (lane ++ r ∷ []) ∷ behind)
    words-block = record {
      pools = λ q h. keeps-other (free_blocks (blocks_of sys q)) (word.Pool q) (free_blocks-counts (blocks_of sys q)) (old.pools q h) (off_block (word.Pool q) refl);
      blocks = λ q c h. block q c h (p == q) (b == c) refl refl;
      lives = λ q c h. life q c h (p == q) (b == c) refl refl;
      queues = λ c h. keeps-other (line (ring_of sys c)) (word.Queue c) (line-counts (ring_of sys c)) (old.queues c h) (off_block (word.Queue c) refl);
      signals = λ s h. keeps-other subscribers (word.Signal s) subscribers-counts (old.signals s h) (off_block (word.Signal s) refl);
      timers = λ t h. keeps-other time_event (word.Timer t) time_event-counts (old.timers t h) (off_block (word.Timer t) refl);
    }

  -- a record on a pool's word; the lives of the pool's blocks with it
  module _ (p n : ℕ) (on : (touch i ≡ Draws (word.Pool p) n) ⊎ (touch i ≡ Shows (word.Pool p) n))
      (new : IsTrue (is_pool sys p) → Keeps Pool (free_blocks (blocks_of sys p)) (word.Pool p) (before ++ (lane ++ r ∷ []) ∷ behind))
      (living : (b : ℕ) → IsTrue (is_block sys p b) → HasLives b (hist (word.Pool p) (all_items (before ++ (lane ++ r ∷ []) ∷ behind))) (hist (word.Block p b) (all_items (before ++ (lane ++ r ∷ []) ∷ behind)))) where
    off_pool : (v : Word) → same_word (word.Pool p) v ≡ false → mark_of v (touch i) ≡ None
    off_pool v other = mark-elsewhere (word.Pool p) v (touch i) n other on

    pool : (q : ℕ) → IsTrue (is_pool sys q) → (same : Bool) → (p == q) ≡ same → Keeps Pool (free_blocks (blocks_of sys q)) (word.Pool q) (before ++ (lane ++ r ∷ []) ∷ behind)
    pool q h true e =
        let is_p : p ≡ q = grind (arith, nat_tests) in
        subst (λ q. IsTrue (is_pool sys q) → Keeps Pool (free_blocks (blocks_of sys q)) (word.Pool q) (before ++ (lane ++ r ∷ []) ∷ behind)) is_p new h
    pool q h false e = keeps-other (free_blocks (blocks_of sys q)) (word.Pool q) (free_blocks-counts (blocks_of sys q)) (old.pools q h) (off_pool (word.Pool q) e)

    pool_life : (q c : ℕ) → IsTrue (is_block sys q c) → (same : Bool) → (p == q) ≡ same
        → HasLives c (hist (word.Pool q) (all_items (before ++ (lane ++ r ∷ []) ∷ behind))) (hist (word.Block q c) (all_items (before ++ (lane ++ r ∷ []) ∷ behind)))
    pool_life q c h true e =
        let is_p : p ≡ q = grind (arith, nat_tests) in
        subst (λ q. (c : ℕ) → IsTrue (is_block sys q c) → HasLives c (hist (word.Pool q) (all_items (before ++ (lane ++ r ∷ []) ∷ behind))) (hist (word.Block q c) (all_items (before ++ (lane ++ r ∷ []) ∷ behind)))) is_p living c h
    pool_life q c h false e = lives-unmoved q c (off_pool (word.Pool q) e) (off_pool (word.Block q c) refl) (old.lives q c h)

    pub words-pool : Words sys (before ++ (lane ++ r ∷ []) ∷ behind)
    words-pool = record {
      pools = λ q h. pool q h (p == q) refl;
      blocks = λ q c h. keeps-other references (word.Block q c) references-counts (old.blocks q c h) (off_pool (word.Block q c) refl);
      lives = λ q c h. pool_life q c h (p == q) refl;
      queues = λ c h. keeps-other (line (ring_of sys c)) (word.Queue c) (line-counts (ring_of sys c)) (old.queues c h) (off_pool (word.Queue c) refl);
      signals = λ s h. keeps-other subscribers (word.Signal s) subscribers-counts (old.signals s h) (off_pool (word.Signal s) refl);
      timers = λ t h. keeps-other time_event (word.Timer t) time_event-counts (old.timers t h) (off_pool (word.Timer t) refl);
    }
