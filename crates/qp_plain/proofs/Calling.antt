-- One call of a world: what it reads, and what it leaves.
use Rattle.std.proofs.Common.{◌≡◌, ℕ, zero, suc, ◌+◌, ◌-◌, ◌<◌, ◌==◌, Bool, ◌&&◌, ◌||◌, List, [], ◌∷◌, length, map, get_or, slice_set, refl, sym, ◌∙◌, ap, subst, arith, IsTrue}
use Rattle.std.specs.List.{list_all, list_any}
use Rattle.std.proofs.lemmas.List.{set-get_or, map-set}
use Rattle.qp_model.specs.declared.record.Rec.{Rec}
use Rattle.qp_model.specs.declared.bodies.Body.{Body}
use Rattle.qp_model.specs.Record.{item_of}
use Rattle.qp_model.specs.FreeBlocks.{Pool}
use Rattle.qp_model.specs.TimeEvents.{Clock}
use Rattle.qp_model.specs.Sites.{ring_of}
use Rattle.qp_model.specs.WordLaw.{is_pool, is_block, is_object, is_signal, is_timer}
use Rattle.qp_model.proofs.ListLemmas.{slice_set-twice}
use Rattle.qp_calls.specs.LaneView.{LaneView}
use Rattle.qp_plain_words.specs.declared.block.BlockWord.{BlockWord}
use Rattle.qp_plain_words.specs.declared.signal.SignalWord.{SignalWord}
use Rattle.qp_plain_words.specs.Queue.{Queue}
use Rattle.qp_plain_sound.specs.Step.{WorldStep, Extends, MayCome, behind}
use Rattle.qp_plain_sound.specs.Sound.{SoundWorld}
use Rattle.qp_plain_sound.specs.View.{view_of}
use Rattle.qp_plain_sound.specs.WordStates.{pool_in, refs_in, line_in, set_in, clock_in}
use Rattle.qp_plain_sound.proofs.CallParts.{world-after}
use Rattle.qp_calls_log.specs.declared.log.Log.{Log}
use Rattle.qp_plain.specs.declared.book.Book.{Book}
use Rattle.qp_plain.specs.declared.world.PlainWorld.{PlainWorld}
use Rattle.qp_plain.specs.Book.{BookGains, BookStays, lists_of, logs_of, purse_of, no_purse, purses_of}
use Rattle.qp_plain.specs.Books.{all_logs}
use Rattle.qp_plain.specs.Tables.{SignalIs, block_place, no_pool, free_block, no_queue, no_signal, no_clock}
use Rattle.qp_plain.specs.World.{StopIs, fits_stop, was_handed}
use Rattle.qp_plain.proofs.Holding.{any-default, timer-in, pool-in, signal-in, block-in}

-- the call that adds a record, after which the book is this
abbrev pub step_at : PlainWorld → Book → Rec → WorldStep
step_at w b r = record {
  sys = w.sys.now;
  lanes = lists_of w.book;
  order = w.book.order.items;
  at = w.book.at;
  rec = r;
  more = lists_of b;
  longer = b.order.items;
  spare = w.book.here.spare;
  left = b.here.spare;
  by = w.by;
  stops = w.book.here.stops.list;
  answered = w.book.here.answered.list;
  purses = purses_of w.book;
}

-- the view of the world with this book
abbrev pub view_with : PlainWorld → Book → LaneView
view_with w b = view_of w.sys.now (lists_of b) b.order.items b.at b.here.spare w.by b.here.stops.list b.here.answered.list (purses_of b)

pub extends : (w : PlainWorld) (b : Book) (r : Rec) (o : ℕ) (body : Body) → BookGains r w.book b → b.here.spare + 1 ≡ w.book.here.spare → item_of r ≡ record { of = o; body = body }
    → Extends (step_at w b r) o body
extends w b r o body gains less says = record { world = w.holds.world; grown = gains.grown; says = says; less = less }

pub sound-now : (w : PlainWorld) (b : Book) (r : Rec) (o : ℕ) (body : Body) → BookGains r w.book b → item_of r ≡ record { of = o; body = body } → MayCome (step_at w b r) o body
    → SoundWorld w.sys.now (lists_of b) b.order.items
sound-now w b r o body gains says may = world-after (step_at w b r) o body w.holds.world gains.grown says may

-- the purses of the lanes beside the one chosen
bare-purses : (b : Book) → purses_of b ≡ slice_set (map purse_of b.others.items) b.at no_purse
bare-purses b =
    ap (λ xs. slice_set xs b.at no_purse) (map-set purse_of b.others.items b.at b.here)
    ∙ slice_set-twice (map purse_of b.others.items) b.at (purse_of b.here) no_purse

pub purses-same : (old new : Book) → new.others.items ≡ old.others.items → new.at ≡ old.at → purses_of new ≡ purses_of old
purses-same old new others at =
    bare-purses new
    ∙ ap (λ xs. slice_set (map purse_of xs) new.at no_purse) others
    ∙ ap (λ k. slice_set (map purse_of old.others.items) k no_purse) at
    ∙ sym (bare-purses old)

pub view-now : (w : PlainWorld) (b : Book) (r : Rec) → BookStays w.book b → behind (step_at w b r) ≡ view_with w b
view-now w b r stays =
    ap (λ x. view_of w.sys.now (lists_of b) b.order.items x b.here.spare w.by w.book.here.stops.list w.book.here.answered.list (purses_of w.book)) (sym stays.at)
    ∙ ap (λ x. view_of w.sys.now (lists_of b) b.order.items b.at b.here.spare w.by x w.book.here.answered.list (purses_of w.book)) (sym stays.stops)
    ∙ ap (λ x. view_of w.sys.now (lists_of b) b.order.items b.at b.here.spare w.by b.here.stops.list x (purses_of w.book)) (sym stays.answered)
    ∙ ap (λ x. view_of w.sys.now (lists_of b) b.order.items b.at b.here.spare w.by b.here.stops.list b.here.answered.list x) (sym (purses-same w.book b stays.others stays.at))

-- The stop word.
all-set : {X : Type 0} (p : X → Bool) (xs : List X) (k : ℕ) (x y : X) → p y ≡ p x → list_all p (slice_set xs k y) ≡ list_all p (slice_set xs k x)
all-set p [] k x y e = refl
all-set p (z ∷ zs) zero x y e = ap (λ b. b && list_all p zs) e
all-set p (z ∷ zs) (suc k) x y e = ap (λ b. p z && b) (all-set p zs k x y e)

any-set : {X : Type 0} (p : X → Bool) (xs : List X) (k : ℕ) (x y : X) → p y ≡ p x → list_any p (slice_set xs k y) ≡ list_any p (slice_set xs k x)
any-set p [] k x y e = refl
any-set p (z ∷ zs) zero x y e = ap (λ b. b || list_any p zs) e
any-set p (z ∷ zs) (suc k) x y e = ap (λ b. p z || b) (any-set p zs k x y e)

fits-same : (code : ℕ) (g h : Log) → h.stops.list ≡ g.stops.list → h.answered.list ≡ g.answered.list → fits_stop code h ≡ fits_stop code g
fits-same code g h s a = rw (s, a) refl

handed-same : (code : ℕ) (g h : Log) → h.stops.list ≡ g.stops.list → was_handed code h ≡ was_handed code g
handed-same code g h s = rw s refl

pub stop-stays : (code : ℕ) (old new : Book) → BookStays old new → StopIs code (logs_of old) → StopIs code (logs_of new)
stop-stays code old new stays is =
    let same : logs_of new ≡ all_logs old.others.items old.at new.here =
    ap (λ xs. all_logs xs new.at new.here) stays.others ∙ ap (λ k. all_logs old.others.items k new.here) stays.at in
    record {
      few = is.few;
      fits = ap (list_all (fits_stop code)) same ∙ all-set (fits_stop code) old.others.items old.at old.here new.here (fits-same code old.here new.here stays.stops stays.answered) ∙ is.fits;
      handed =
          ap (λ xs. (code == 0) || list_any (was_handed code) xs) same
          ∙ ap (λ v. (code == 0) || v) (any-set (was_handed code) old.others.items old.at old.here new.here (handed-same code old.here new.here stays.stops)) ∙ is.handed;
    }

-- What is read in the tables.
pub queue-at : (w : PlainWorld) (a k : ℕ) (q : Queue) → IsTrue (is_object w.sys.now a) → k ≡ a → q ≡ get_or w.queues.items k q
    → q ≡ record { line = line_in w.sys.now (lists_of w.book) a; ring = ring_of w.sys.now a }
queue-at w a k q h at e =
    let few = w.holds.limits.objects a h in
    let lt : k < length w.queues.items = omega (arith, few.1, at, w.holds.queues_hold.long) in
    any-default w.queues.items k q no_queue lt e ∙ ap (λ x. get_or w.queues.items x no_queue) at ∙ w.holds.queues_hold.queue a h

pub timer-at : (w : PlainWorld) (t k : ℕ) (q : Clock) → IsTrue (is_timer w.sys.now t) → k ≡ t → q ≡ get_or w.timers.items (k - 1) q
    → q ≡ clock_in (lists_of w.book) t
timer-at w t k q h at e =
    let few = timer-in w.sys.now t h in
    let lt : k - 1 < length w.timers.items = omega (arith, few.0, few.1, at, w.holds.timers_hold.long) in
    any-default w.timers.items (k - 1) q no_clock lt e ∙ ap (λ x. get_or w.timers.items (x - 1) no_clock) at ∙ w.holds.timers_hold.timer t h

pub pool-at : (w : PlainWorld) (p k : ℕ) (q : Pool) → IsTrue (is_pool w.sys.now p) → k ≡ p → q ≡ get_or w.pools.items (k - 1) q
    → q ≡ pool_in w.sys.now (lists_of w.book) p
pool-at w p k q h at e =
    let few = pool-in w.sys.now p h in
    let lt : k - 1 < length w.pools.items = omega (arith, few.0, few.1, at, w.holds.pools_hold.long) in
    any-default w.pools.items (k - 1) q no_pool lt e ∙ ap (λ x. get_or w.pools.items (x - 1) no_pool) at ∙ w.holds.pools_hold.pool p h

pub signal-at : (w : PlainWorld) (g k : ℕ) (q : SignalWord) → IsTrue (is_signal w.sys.now g) → k ≡ g → q ≡ get_or w.signals.items (k - 4) q
    → SignalIs q (set_in (lists_of w.book) g)
signal-at w g k q h at e =
    let few = signal-in w.sys.now g h in
    let lt : k - 4 < length w.signals.items = omega (arith, few.0, few.1, at, w.holds.signals_hold.long) in
    let is = any-default w.signals.items (k - 4) q no_signal lt e ∙ ap (λ x. get_or w.signals.items (x - 4) no_signal) at in
    subst (λ x. SignalIs x (set_in (lists_of w.book) g)) (sym is) (w.holds.signals_hold.signal g h)

pub record BlockIs (w : PlainWorld) (p b : ℕ) (q : BlockWord) : Type 0 where
  pub ops : q.ops ≡ (refs_in (lists_of w.book) p b).count
  pub refs : q.refs ≡ length (refs_in (lists_of w.book) p b).names

pub block-at : (w : PlainWorld) (p b k : ℕ) (q : BlockWord) → IsTrue (is_block w.sys.now p b) → k ≡ block_place p b → q ≡ get_or w.blocks.items k q → BlockIs w p b q
block-at w p b k q h at e =
    let there = block-in w.sys.now w.holds.limits p b h in
    let lt : k < length w.blocks.items = omega (arith, there.table, at, w.holds.blocks_hold.long) in
    let is = any-default w.blocks.items k q free_block lt e ∙ ap (λ x. get_or w.blocks.items x free_block) at in
    record { ops = ap (λ x. x.ops) is ∙ w.holds.blocks_hold.ops p b h; refs = ap (λ x. x.refs) is ∙ w.holds.blocks_hold.refs p b h }

-- an element that is lent and not changed
pub lent-same : {X : Type 0} (xs : List X) (k : ℕ) (x : X) → x ≡ get_or xs k x → slice_set xs k x ≡ xs
lent-same xs k x e = ap (slice_set xs k) e ∙ set-get_or xs k x
