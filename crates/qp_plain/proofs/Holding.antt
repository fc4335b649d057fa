-- The tables of a world after a record more.
use Rattle.std.proofs.Common.{◌≡◌, ◌≢◌, ℕ, zero, suc, ◌+◌, ◌-◌, ◌<◌, ◌≤◌, ◌==◌, nat_lt, nat_le, Bool, true, false, ◌&&◌, List, [], ◌∷◌, length, get_or, slice_set, refl, sym, ◌∙◌, ap, subst, arith, IsTrue, Some}
use Rattle.std.proofs.lemmas.Bool.{and_parts}
use Rattle.std.proofs.lemmas.Bool.Decides.{nat_tests}
use Rattle.std.proofs.lemmas.List.{length-set, get_or-set_same, get_or-set_other}
use Rattle.qp_base.specs.declared.event.Ev.{Ev}
use Rattle.qp_model.specs.declared.words.Word.{Word}
use Rattle.qp_model.specs.declared.words.Word.TheVariants as word
use Rattle.qp_model.specs.declared.systems.System.{System}
use Rattle.qp_model.specs.declared.bodies.Body.{Body}
use Rattle.qp_model.specs.Record.{item_of}
use Rattle.qp_model.specs.History.{Draws, touch_of, drawn_on}
use Rattle.qp_model.specs.FreeBlocks.{Pool}
use Rattle.qp_model.specs.TimeEvents.{Clock}
use Rattle.qp_model.specs.Sites.{ring_of}
use Rattle.qp_model.specs.WordLaw.{is_pool, is_block, is_object, is_signal, is_timer}
use Rattle.qp_calls.specs.Clauses.{event_of}
use Rattle.qp_plain_words.specs.declared.block.BlockWord.{BlockWord}
use Rattle.qp_plain_words.specs.declared.signal.SignalWord.{SignalWord}
use Rattle.qp_plain_words.specs.Queue.{Queue}
use Rattle.qp_plain_sound.specs.Step.{WorldStep, Grown}
use Rattle.qp_plain_sound.specs.Sound.{SoundWorld}
use Rattle.qp_plain_sound.specs.WordStates.{pool_in, refs_in, line_in, set_in, clock_in}
use Rattle.qp_plain_sound.proofs.Standing.{block-pool}
use Rattle.qp_plain.specs.Tables.{PoolsHold, BlocksHold, CellsHold, QueuesHold, SignalsHold, SignalIs, TimersHold, Limits, block_place, event_at, no_pool, free_block, no_queue, no_signal, no_clock}
use Rattle.qp_plain.specs.World.{WorldHolds}
use Rattle.qp_plain.proofs.Growth.{pool-kept, cell-kept, refs-kept, line-kept, set-kept, clock-kept}

-- numbers of words
pub timer-in : (sys : System) (t : ℕ) → IsTrue (is_timer sys t) → (0 < t) × (t ≤ length sys.timers)
timer-in sys t h =
    let p = and_parts (nat_lt 0 t) (nat_le t (length sys.timers)) h in
    let some : nat_lt 0 t ≡ true = p.0 in
    let within : nat_le t (length sys.timers) ≡ true = p.1 in
    let a : 0 < t = grind (arith, nat_tests) in
    let b : t ≤ length sys.timers = grind (arith, nat_tests) in
    (a, b)

pub pool-in : (sys : System) (p : ℕ) → IsTrue (is_pool sys p) → (0 < p) × (p ≤ length sys.pools)
pool-in sys p h =
    let q = and_parts (nat_lt 0 p) (nat_le p (length sys.pools)) h in
    let some : nat_lt 0 p ≡ true = q.0 in
    let within : nat_le p (length sys.pools) ≡ true = q.1 in
    let a : 0 < p = grind (arith, nat_tests) in
    let b : p ≤ length sys.pools = grind (arith, nat_tests) in
    (a, b)

pub signal-in : (sys : System) (s : ℕ) → IsTrue (is_signal sys s) → (4 ≤ s) × (s < length sys.signals + 4)
signal-in sys s h =
    let q = and_parts (nat_le 4 s) (nat_lt s (length sys.signals + 4)) h in
    let some : nat_le 4 s ≡ true = q.0 in
    let within : nat_lt s (length sys.signals + 4) ≡ true = q.1 in
    let a : 4 ≤ s = grind (arith, nat_tests) in
    let b : s < length sys.signals + 4 = grind (arith, nat_tests) in
    (a, b)

-- where a block's word is
pub record Within (p b : ℕ) : Type 0 where
  pub some : 0 < p
  pub pools : p ≤ 15
  pub blocks : b < 32
  pub table : block_place p b < 480

pub block-in : (sys : System) → Limits sys → (p b : ℕ) → IsTrue (is_block sys p b) → Within p b
block-in sys limits p b h =
    let in_pool = block-pool sys p b h in
    let q = pool-in sys p in_pool.0 in
    let small : b < 32 = limits.blocks p b h in
    record { some = q.0; pools = omega (arith, q.1, limits.pools); blocks = small; table = omega (arith, q.0, q.1, limits.pools, small) }

-- an element, whatever stands for those outside
pub any-default : {X : Type 0} (xs : List X) (k : ℕ) (x d : X) → k < length xs → x ≡ get_or xs k x → x ≡ get_or xs k d
any-default [] k x d lt e = absurd (omega (arith, lt))
any-default (y ∷ ys) zero x d lt e = e
any-default (y ∷ ys) (suc k) x d lt e = any-default ys k x d (omega (arith, lt)) e

-- events in places
pub event-set_same : (table : List Ev) (k : ℕ) (e : Ev) → k < length table → event_at (slice_set table k e) k ≡ Some (event_of e)
event-set_same [] k e lt = absurd (omega (arith, lt))
event-set_same (x ∷ xs) zero e lt = refl
event-set_same (x ∷ xs) (suc k) e lt = event-set_same xs k e (omega (arith, lt))

pub event-set_other : (table : List Ev) (k j : ℕ) (e : Ev) → j ≢ k → event_at (slice_set table k e) j ≡ event_at table j
event-set_other [] k j e differ = refl
event-set_other (x ∷ xs) zero zero e differ = absurd (differ refl)
event-set_other (x ∷ xs) zero (suc j) e differ = refl
event-set_other (x ∷ xs) (suc k) zero e differ = refl
event-set_other (x ∷ xs) (suc k) (suc j) e differ = event-set_other xs k j e (λ h. differ (ap suc h))

-- two blocks have two places
pub places-differ : (p b q c : ℕ) → Within p b → Within q c → ((p == q) && (b == c)) ≡ false → block_place q c ≢ block_place p b
places-differ p b q c at to other e = go (p == q) (b == c) refl refl other
  where
    go : (u v : Bool) → (p == q) ≡ u → (b == c) ≡ v → (u && v) ≡ false → ⊥
    go true true f g y = absurd (cc)
    go true false f g y =
        let same : p ≡ q = grind (arith, nat_tests) in
        let differ : b ≢ c = grind (arith, nat_tests) in
        differ (omega (arith, e, same))
    go false v f g y =
        let differ : p ≢ q = grind (arith, nat_tests) in
        differ (omega (arith, e, at.some, at.blocks, to.some, to.blocks))

module _ (s : WorldStep) (o : ℕ) (b : Body) (grown : Grown s.lanes s.order s.at s.rec s.more s.longer) (says : item_of s.rec ≡ record { of = o; body = b }) where
  -- Tables of which no word changes.
  pools-stay : (table : List Pool) → ((p : ℕ) → drawn_on (word.Pool p) (touch_of o b) ≡ false) → PoolsHold s.sys s.lanes table → PoolsHold s.sys s.more table
  pools-stay table off old = record { long = old.long; pool = λ p h. old.pool p h ∙ sym (pool-kept s o b grown says p (off p)) }

  cells-stay : (table : List Ev) → ((p : ℕ) → drawn_on (word.Pool p) (touch_of o b) ≡ false) → CellsHold s.sys s.lanes table → CellsHold s.sys s.more table
  cells-stay table off old = record { long = old.long; event = λ p c h ev is. old.event p c h ev (sym (cell-kept s o b grown says p c (off p)) ∙ is) }

  blocks-stay : (table : List BlockWord) → ((p c : ℕ) → drawn_on (word.Block p c) (touch_of o b) ≡ false) → BlocksHold s.sys s.lanes table → BlocksHold s.sys s.more table
  blocks-stay table off old = record {
    long = old.long;
    ops = λ p c h. old.ops p c h ∙ sym (ap (λ x. x.count) (refs-kept s o b grown says p c (off p c)));
    refs = λ p c h. old.refs p c h ∙ sym (ap (λ x. length x.names) (refs-kept s o b grown says p c (off p c)));
  }

  queues-stay : (table : List Queue) → ((a : ℕ) → drawn_on (word.Queue a) (touch_of o b) ≡ false) → QueuesHold s.sys s.lanes table → QueuesHold s.sys s.more table
  queues-stay table off old = record {
    long = old.long;
    queue = λ a h. old.queue a h ∙ sym (ap (λ l. record { line = l; ring = ring_of s.sys a }) (line-kept s o b grown says a (off a)));
  }

  signals-stay : (table : List SignalWord) → ((g : ℕ) → drawn_on (word.Signal g) (touch_of o b) ≡ false) → SignalsHold s.sys s.lanes table → SignalsHold s.sys s.more table
  signals-stay table off old = record {
    long = old.long;
    signal = λ g h. subst (SignalIs (get_or table (g - 4) no_signal)) (sym (set-kept s o b grown says g (off g))) (old.signal g h);
  }

  timers-stay : (table : List Clock) → ((t : ℕ) → drawn_on (word.Timer t) (touch_of o b) ≡ false) → TimersHold s.sys s.lanes table → TimersHold s.sys s.more table
  timers-stay table off old = record { long = old.long; timer = λ t h. old.timer t h ∙ sym (clock-kept s o b grown says t (off t)) }

  -- Tables of which one word changes.
  pools-change : (table : List Pool) (p k : ℕ) (next : Pool) → IsTrue (is_pool s.sys p) → touch_of o b ≡ Draws (word.Pool p) k → next ≡ pool_in s.sys s.more p
      → PoolsHold s.sys s.lanes table → PoolsHold s.sys s.more (slice_set table (p - 1) next)
  pools-change table p k next h draws is old = record { long = length-set table (p - 1) next ∙ old.long; pool = λ q g. go q g (p == q) refl }
    where
      go : (q : ℕ) → IsTrue (is_pool s.sys q) → (v : Bool) → (p == q) ≡ v → get_or (slice_set table (p - 1) next) (q - 1) no_pool ≡ pool_in s.sys s.more q
      go q g true e =
          let same : p ≡ q = grind (arith, nat_tests) in
          let at = pool-in s.sys p h in
          let lt : p - 1 < length table = omega (arith, at.0, at.1, old.long) in
          ap (λ x. get_or (slice_set table (p - 1) next) (x - 1) no_pool) (sym same) ∙ get_or-set_same table (p - 1) next no_pool lt ∙ is ∙ ap (pool_in s.sys s.more) same
      go q g false e =
          let differ : p ≢ q = grind (arith, nat_tests) in
          let at = pool-in s.sys p h in
          let to = pool-in s.sys q g in
          let apart : q - 1 ≢ p - 1 = omega (arith, at.0, to.0, differ) in
          get_or-set_other table (p - 1) (q - 1) next no_pool apart ∙ old.pool q g ∙ sym (pool-kept s o b grown says q (rw draws e))

  blocks-change : (table : List BlockWord) (p c k : ℕ) (next : BlockWord) → Limits s.sys → IsTrue (is_block s.sys p c) → touch_of o b ≡ Draws (word.Block p c) k
      → next.ops ≡ (refs_in s.more p c).count → next.refs ≡ length (refs_in s.more p c).names
      → BlocksHold s.sys s.lanes table → BlocksHold s.sys s.more (slice_set table (block_place p c) next)
  blocks-change table p c k next limits h draws ops_are refs_are old = record {
    long = length-set table (block_place p c) next ∙ old.long;
    ops = λ q d g. go (λ (w : BlockWord). w.ops) (λ q d. (refs_in s.more q d).count) ops_are (λ q d g other. old.ops q d g ∙ sym (ap (λ x. x.count) (kept q d other))) q d g (p == q) (c == d) refl refl;
    refs = λ q d g. go (λ (w : BlockWord). w.refs) (λ q d. length (refs_in s.more q d).names) refs_are (λ q d g other. old.refs q d g ∙ sym (ap (λ x. length x.names) (kept q d other))) q d g (p == q) (c == d) refl refl;
  }
    where
      kept : (q d : ℕ) → ((p == q) && (c == d)) ≡ false → refs_in s.more q d ≡ refs_in s.lanes q d
      kept q d other = refs-kept s o b grown says q d (rw draws other)

      there : (f : BlockWord → ℕ) (want : ℕ → ℕ → ℕ)
          → ((q d : ℕ) → IsTrue (is_block s.sys q d) → ((p == q) && (c == d)) ≡ false → f (get_or table (block_place q d) free_block) ≡ want q d)
          → (q d : ℕ) → IsTrue (is_block s.sys q d) → ((p == q) && (c == d)) ≡ false → f (get_or (slice_set table (block_place p c) next) (block_place q d) free_block) ≡ want q d
      there f want others q d g other =
          let apart = places-differ p c q d (block-in s.sys limits p c h) (block-in s.sys limits q d g) other in
          ap f (get_or-set_other table (block_place p c) (block_place q d) next free_block apart) ∙ others q d g other

      go : (f : BlockWord → ℕ) (want : ℕ → ℕ → ℕ) → f next ≡ want p c
          → ((q d : ℕ) → IsTrue (is_block s.sys q d) → ((p == q) && (c == d)) ≡ false → f (get_or table (block_place q d) free_block) ≡ want q d)
          → (q d : ℕ) → IsTrue (is_block s.sys q d) → (u v : Bool) → (p == q) ≡ u → (c == d) ≡ v → f (get_or (slice_set table (block_place p c) next) (block_place q d) free_block) ≡ want q d
      go f want here others q d g true true e i =
          let p_is : p ≡ q = grind (arith, nat_tests) in
          let c_is : c ≡ d = grind (arith, nat_tests) in
          let lt : block_place p c < length table = rw old.long (block-in s.sys limits p c h).table in
          ap (λ x. f (get_or (slice_set table (block_place p c) next) x free_block)) (ap (λ x. block_place x d) (sym p_is) ∙ ap (block_place p) (sym c_is))
          ∙ ap f (get_or-set_same table (block_place p c) next free_block lt) ∙ here ∙ ap (λ x. want x c) p_is ∙ ap (want q) c_is
      go f want here others q d g true false e i = there f want others q d g (rw (e, i) refl)
      go f want here others q d g false v e i = there f want others q d g (rw e refl)

  queues-change : (table : List Queue) (a k : ℕ) (next : Queue) → Limits s.sys → IsTrue (is_object s.sys a) → touch_of o b ≡ Draws (word.Queue a) k
      → next ≡ record { line = line_in s.sys s.more a; ring = ring_of s.sys a }
      → QueuesHold s.sys s.lanes table → QueuesHold s.sys s.more (slice_set table a next)
  queues-change table a k next limits h draws is old = record { long = length-set table a next ∙ old.long; queue = λ c g. go c g (a == c) refl }
    where
      go : (c : ℕ) → IsTrue (is_object s.sys c) → (v : Bool) → (a == c) ≡ v → get_or (slice_set table a next) c no_queue ≡ record { line = line_in s.sys s.more c; ring = ring_of s.sys c }
      go c g true e =
          let same : a ≡ c = grind (arith, nat_tests) in
          let at = limits.objects a h in
          let lt : a < length table = omega (arith, at.1, old.long) in
          ap (λ x. get_or (slice_set table a next) x no_queue) (sym same) ∙ get_or-set_same table a next no_queue lt ∙ is
          ∙ ap (λ x. record { line = line_in s.sys s.more x; ring = ring_of s.sys x }) same
      go c g false e =
          let differ : c ≢ a = grind (arith, nat_tests) in
          get_or-set_other table a c next no_queue differ ∙ old.queue c g
          ∙ sym (ap (λ l. record { line = l; ring = ring_of s.sys c }) (line-kept s o b grown says c (rw draws e)))

  signals-change : (table : List SignalWord) (g k : ℕ) (next : SignalWord) → IsTrue (is_signal s.sys g) → touch_of o b ≡ Draws (word.Signal g) k
      → SignalIs next (set_in s.more g) → SignalsHold s.sys s.lanes table → SignalsHold s.sys s.more (slice_set table (g - 4) next)
  signals-change table g k next h draws is old = record { long = length-set table (g - 4) next ∙ old.long; signal = λ c i. go c i (g == c) refl }
    where
      go : (c : ℕ) → IsTrue (is_signal s.sys c) → (v : Bool) → (g == c) ≡ v → SignalIs (get_or (slice_set table (g - 4) next) (c - 4) no_signal) (set_in s.more c)
      go c i true e =
          let same : g ≡ c = grind (arith, nat_tests) in
          let at = signal-in s.sys g h in
          let lt : g - 4 < length table = omega (arith, at.0, at.1, old.long) in
          subst (λ x. SignalIs (get_or (slice_set table (g - 4) next) (x - 4) no_signal) (set_in s.more x)) same
          (subst (λ w. SignalIs w (set_in s.more g)) (sym (get_or-set_same table (g - 4) next no_signal lt)) is)
      go c i false e =
          let differ : g ≢ c = grind (arith, nat_tests) in
          let at = signal-in s.sys g h in
          let to = signal-in s.sys c i in
          let apart : c - 4 ≢ g - 4 = omega (arith, at.0, to.0, differ) in
          subst (λ w. SignalIs w (set_in s.more c)) (sym (get_or-set_other table (g - 4) (c - 4) next no_signal apart))
          (subst (SignalIs (get_or table (c - 4) no_signal)) (sym (set-kept s o b grown says c (rw draws e))) (old.signal c i))

  timers-change : (table : List Clock) (t k : ℕ) (next : Clock) → IsTrue (is_timer s.sys t) → touch_of o b ≡ Draws (word.Timer t) k → next ≡ clock_in s.more t
      → TimersHold s.sys s.lanes table → TimersHold s.sys s.more (slice_set table (t - 1) next)
  timers-change table t k next h draws is old = record { long = length-set table (t - 1) next ∙ old.long; timer = λ u g. go u g (t == u) refl }
    where
      go : (u : ℕ) → IsTrue (is_timer s.sys u) → (v : Bool) → (t == u) ≡ v → get_or (slice_set table (t - 1) next) (u - 1) no_clock ≡ clock_in s.more u
      go u g true e =
          let same : t ≡ u = grind (arith, nat_tests) in
          let at = timer-in s.sys t h in
          let lt : t - 1 < length table = omega (arith, at.0, at.1, old.long) in
          ap (λ x. get_or (slice_set table (t - 1) next) (x - 1) no_clock) (sym same) ∙ get_or-set_same table (t - 1) next no_clock lt ∙ is ∙ ap (clock_in s.more) same
      go u g false e =
          let differ : t ≢ u = grind (arith, nat_tests) in
          let at = timer-in s.sys t h in
          let to = timer-in s.sys u g in
          let apart : u - 1 ≢ t - 1 = omega (arith, at.0, to.0, differ) in
          get_or-set_other table (t - 1) (u - 1) next no_clock apart ∙ old.timer u g ∙ sym (clock-kept s o b grown says u (rw draws e))

  -- All tables.
  module _ (pools : List Pool) (blocks : List BlockWord) (cells : List Ev) (queues : List Queue) (signals : List SignalWord) (timers : List Clock)
      (old : WorldHolds s.sys s.lanes s.order pools blocks cells queues signals timers) (world : SoundWorld s.sys s.more s.longer) where
    pub holds-quiet : ((w : Word) → drawn_on w (touch_of o b) ≡ false) → WorldHolds s.sys s.more s.longer pools blocks cells queues signals timers
    holds-quiet off = record {
      world = world;
      limits = old.limits;
      pools_hold = pools-stay pools (λ p. off (word.Pool p)) old.pools_hold;
      blocks_hold = blocks-stay blocks (λ p c. off (word.Block p c)) old.blocks_hold;
      cells_hold = cells-stay cells (λ p. off (word.Pool p)) old.cells_hold;
      queues_hold = queues-stay queues (λ a. off (word.Queue a)) old.queues_hold;
      signals_hold = signals-stay signals (λ g. off (word.Signal g)) old.signals_hold;
      timers_hold = timers-stay timers (λ t. off (word.Timer t)) old.timers_hold;
    }

    pub holds-pool : (p k : ℕ) (next : Pool) (events : List Ev) → IsTrue (is_pool s.sys p) → touch_of o b ≡ Draws (word.Pool p) k → next ≡ pool_in s.sys s.more p
        → CellsHold s.sys s.more events → WorldHolds s.sys s.more s.longer (slice_set pools (p - 1) next) blocks events queues signals timers
    holds-pool p k next events h draws is held = record {
      world = world;
      limits = old.limits;
      pools_hold = pools-change pools p k next h draws is old.pools_hold;
      blocks_hold = blocks-stay blocks (λ q c. rw draws refl) old.blocks_hold;
      cells_hold = held;
      queues_hold = queues-stay queues (λ a. rw draws refl) old.queues_hold;
      signals_hold = signals-stay signals (λ g. rw draws refl) old.signals_hold;
      timers_hold = timers-stay timers (λ t. rw draws refl) old.timers_hold;
    }

    pub holds-block : (p c k : ℕ) (next : BlockWord) → IsTrue (is_block s.sys p c) → touch_of o b ≡ Draws (word.Block p c) k
        → next.ops ≡ (refs_in s.more p c).count → next.refs ≡ length (refs_in s.more p c).names
        → WorldHolds s.sys s.more s.longer pools (slice_set blocks (block_place p c) next) cells queues signals timers
    holds-block p c k next h draws ops_are refs_are = record {
      world = world;
      limits = old.limits;
      pools_hold = pools-stay pools (λ q. rw draws refl) old.pools_hold;
      blocks_hold = blocks-change blocks p c k next old.limits h draws ops_are refs_are old.blocks_hold;
      cells_hold = cells-stay cells (λ q. rw draws refl) old.cells_hold;
      queues_hold = queues-stay queues (λ a. rw draws refl) old.queues_hold;
      signals_hold = signals-stay signals (λ g. rw draws refl) old.signals_hold;
      timers_hold = timers-stay timers (λ t. rw draws refl) old.timers_hold;
    }

    pub holds-queue : (a k : ℕ) (next : Queue) → IsTrue (is_object s.sys a) → touch_of o b ≡ Draws (word.Queue a) k
        → next ≡ record { line = line_in s.sys s.more a; ring = ring_of s.sys a }
        → WorldHolds s.sys s.more s.longer pools blocks cells (slice_set queues a next) signals timers
    holds-queue a k next h draws is = record {
      world = world;
      limits = old.limits;
      pools_hold = pools-stay pools (λ q. rw draws refl) old.pools_hold;
      blocks_hold = blocks-stay blocks (λ q c. rw draws refl) old.blocks_hold;
      cells_hold = cells-stay cells (λ q. rw draws refl) old.cells_hold;
      queues_hold = queues-change queues a k next old.limits h draws is old.queues_hold;
      signals_hold = signals-stay signals (λ g. rw draws refl) old.signals_hold;
      timers_hold = timers-stay timers (λ t. rw draws refl) old.timers_hold;
    }

    pub holds-signal : (g k : ℕ) (next : SignalWord) → IsTrue (is_signal s.sys g) → touch_of o b ≡ Draws (word.Signal g) k → SignalIs next (set_in s.more g)
        → WorldHolds s.sys s.more s.longer pools blocks cells queues (slice_set signals (g - 4) next) timers
    holds-signal g k next h draws is = record {
      world = world;
      limits = old.limits;
      pools_hold = pools-stay pools (λ q. rw draws refl) old.pools_hold;
      blocks_hold = blocks-stay blocks (λ q c. rw draws refl) old.blocks_hold;
      cells_hold = cells-stay cells (λ q. rw draws refl) old.cells_hold;
      queues_hold = queues-stay queues (λ a. rw draws refl) old.queues_hold;
      signals_hold = signals-change signals g k next h draws is old.signals_hold;
      timers_hold = timers-stay timers (λ t. rw draws refl) old.timers_hold;
    }

    pub holds-timer : (t k : ℕ) (next : Clock) → IsTrue (is_timer s.sys t) → touch_of o b ≡ Draws (word.Timer t) k → next ≡ clock_in s.more t
        → WorldHolds s.sys s.more s.longer pools blocks cells queues signals (slice_set timers (t - 1) next)
    holds-timer t k next h draws is = record {
      world = world;
      limits = old.limits;
      pools_hold = pools-stay pools (λ q. rw draws refl) old.pools_hold;
      blocks_hold = blocks-stay blocks (λ q c. rw draws refl) old.blocks_hold;
      cells_hold = cells-stay cells (λ q. rw draws refl) old.cells_hold;
      queues_hold = queues-stay queues (λ a. rw draws refl) old.queues_hold;
      signals_hold = signals-stay signals (λ g. rw draws refl) old.signals_hold;
      timers_hold = timers-change timers t k next h draws is old.timers_hold;
    }
