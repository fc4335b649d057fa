-- What a world holds after each kind of call.
use Rattle.std.proofs.Common.{◌≡◌, ℕ, suc, ◌+◌, ◌-◌, ◌<◌, ◌≤◌, ◌==◌, Bool, true, false, ◌&&◌, List, length, slice_set, refl, sym, ◌∙◌, ap, subst, arith, IsTrue, Some, None}
use Rattle.std.proofs.lemmas.Bool.Decides.{nat_tests}
use Rattle.std.proofs.lemmas.List.{length-set}
use Rattle.qp_base.specs.declared.event.Ev.{Ev}
use Rattle.qp_model.specs.declared.record.Rec.{Rec}
use Rattle.qp_model.specs.declared.words.Word.{Word}
use Rattle.qp_model.specs.declared.words.Word.TheVariants as word
use Rattle.qp_model.specs.declared.bodies.Body.{Body}
use Rattle.qp_model.specs.declared.bodies.Body.TheVariants.{New, Back}
use Rattle.qp_model.specs.Record.{item_of}
use Rattle.qp_model.specs.Told.{Event}
use Rattle.qp_model.specs.History.{Draws, touch_of, drawn_on}
use Rattle.qp_model.specs.FreeBlocks.{Pool, pool_next}
use Rattle.qp_model.specs.References.{refs_next}
use Rattle.qp_model.specs.Line.{line_next}
use Rattle.qp_model.specs.Subscribers.{subscribers_next}
use Rattle.qp_model.specs.TimeEvents.{Clock, clock_next}
use Rattle.qp_model.specs.Sites.{ring_of}
use Rattle.qp_model.specs.WordLaw.{Words, is_pool, is_block, is_object, is_signal, is_timer}
use Rattle.qp_calls.specs.LaneView.{LaneView}
use Rattle.qp_calls.specs.Clauses.{FewTries, event_of}
use Rattle.qp_plain_words.specs.declared.block.BlockWord.{BlockWord}
use Rattle.qp_plain_words.specs.declared.signal.SignalWord.{SignalWord}
use Rattle.qp_plain_words.specs.Queue.{Queue}
use Rattle.qp_plain_sound.specs.Step.{MayCome, behind}
use Rattle.qp_plain_sound.specs.Sound.{SoundWorld}
use Rattle.qp_plain_sound.specs.WordStates.{pool_in, refs_in, line_in, set_in, clock_in, cell_in, cell_next}
use Rattle.qp_plain.specs.declared.book.Book.{Book}
use Rattle.qp_plain.specs.declared.world.PlainWorld.{PlainWorld}
use Rattle.qp_plain.specs.Book.{BookGains, lists_of}
use Rattle.qp_plain.specs.Tables.{CellsHold, SignalIs, block_place, event_at}
use Rattle.qp_plain.specs.World.{WorldHolds}
use Rattle.qp_plain.proofs.Growth.{pool-next, cell-now, cell-kept, refs-next, line-next, set-next, clock-next}
use Rattle.qp_plain.proofs.Holding.{holds-quiet, holds-pool, holds-block, holds-queue, holds-signal, holds-timer, block-in, event-set_same, event-set_other, places-differ}
use Rattle.qp_plain.proofs.Calling.{step_at, view_with, sound-now, view-now}

-- Tries.
pub tries-drawn : (v : Word) (steps after : ℕ) (old new : LaneView) → after ≡ steps + 1 → old.mark v < new.mark v → FewTries v 1 steps after old new
tries-drawn v steps after old new one up = record { up = omega (arith, one); few = omega (arith, one, up) }

pub tries-shown : (v : Word) (steps after : ℕ) (old new : LaneView) → after ≡ steps + 1 → old.mark v ≤ new.mark v → FewTries v 0 steps after old new
tries-shown v steps after old new one up = record { up = omega (arith, one); few = omega (arith, one, up) }

module _ (w : PlainWorld) (b : Book) (r : Rec) (gains : BookGains r w.book b) where
  -- what a clause says of the view behind the call, it says of the world's
  pub now-seen : (P : LaneView → Type 0) → P (behind (step_at w b r)) → P (view_with w b)
  now-seen P h = subst P (view-now w b r gains.stays) h

  words : Words w.sys.now (lists_of w.book)
  words = w.holds.world.sound.words

  abbrev Holds : List Pool → List BlockWord → List Ev → List Queue → List SignalWord → List Clock → Type 0
  Holds pools blocks cells queues signals timers = WorldHolds w.sys.now (lists_of b) b.order.items pools blocks cells queues signals timers

  module _ (o : ℕ) (body : Body) (says : item_of r ≡ record { of = o; body = body }) (may : MayCome (step_at w b r) o body) where
    world : SoundWorld w.sys.now (lists_of b) b.order.items
    world = sound-now w b r o body gains says may

    -- no word changes
    pub quiet : ((v : Word) → drawn_on v (touch_of o body) ≡ false) → Holds w.pools.items w.blocks.items w.cells.items w.queues.items w.signals.items w.timers.items
    quiet off = holds-quiet (step_at w b r) o body gains.grown says w.pools.items w.blocks.items w.cells.items w.queues.items w.signals.items w.timers.items w.holds world off

    pub timer-moves : (t n : ℕ) (next : Clock) → IsTrue (is_timer w.sys.now t) → touch_of o body ≡ Draws (word.Timer t) (suc n) → n ≡ (clock_in (lists_of w.book) t).count
        → next ≡ clock_next (clock_in (lists_of w.book) t) body
        → Holds w.pools.items w.blocks.items w.cells.items w.queues.items w.signals.items (slice_set w.timers.items (t - 1) next)
    timer-moves t n next h draws count is =
        holds-timer (step_at w b r) o body gains.grown says w.pools.items w.blocks.items w.cells.items w.queues.items w.signals.items w.timers.items w.holds world t (suc n) next h draws
        (is ∙ sym (clock-next (step_at w b r) o body gains.grown says words t h (draws ∙ ap (λ x. Draws (word.Timer t) (suc x)) count)))

    pub signal-moves : (g n : ℕ) (next : SignalWord) → IsTrue (is_signal w.sys.now g) → touch_of o body ≡ Draws (word.Signal g) (suc n) → n ≡ (set_in (lists_of w.book) g).count
        → SignalIs next (subscribers_next (set_in (lists_of w.book) g) o body)
        → Holds w.pools.items w.blocks.items w.cells.items w.queues.items (slice_set w.signals.items (g - 4) next) w.timers.items
    signal-moves g n next h draws count is =
        holds-signal (step_at w b r) o body gains.grown says w.pools.items w.blocks.items w.cells.items w.queues.items w.signals.items w.timers.items w.holds world g (suc n) next h draws
        (subst (SignalIs next) (sym (set-next (step_at w b r) o body gains.grown says words g h (draws ∙ ap (λ x. Draws (word.Signal g) (suc x)) count))) is)

    pub queue-moves : (a n : ℕ) (next : Queue) → IsTrue (is_object w.sys.now a) → touch_of o body ≡ Draws (word.Queue a) n
        → n ≡ suc ((line_in w.sys.now (lists_of w.book) a).f + (line_in w.sys.now (lists_of w.book) a).l + (line_in w.sys.now (lists_of w.book) a).m)
        → next ≡ record { line = line_next (line_in w.sys.now (lists_of w.book) a) body; ring = ring_of w.sys.now a }
        → Holds w.pools.items w.blocks.items w.cells.items (slice_set w.queues.items a next) w.signals.items w.timers.items
    queue-moves a n next h draws count is =
        holds-queue (step_at w b r) o body gains.grown says w.pools.items w.blocks.items w.cells.items w.queues.items w.signals.items w.timers.items w.holds world a n next h draws
        (is ∙ sym (ap (λ l. record { line = l; ring = ring_of w.sys.now a }) (line-next (step_at w b r) o body gains.grown says words a h (draws ∙ ap (Draws (word.Queue a)) count))))

    pub block-moves : (p c n : ℕ) (next : BlockWord) → IsTrue (is_block w.sys.now p c) → touch_of o body ≡ Draws (word.Block p c) (suc n) → n ≡ (refs_in (lists_of w.book) p c).count
        → next.ops ≡ (refs_next (refs_in (lists_of w.book) p c) body).count → next.refs ≡ length (refs_next (refs_in (lists_of w.book) p c) body).names
        → Holds w.pools.items (slice_set w.blocks.items (block_place p c) next) w.cells.items w.queues.items w.signals.items w.timers.items
    block-moves p c n next h draws count ops refs =
        let is = refs-next (step_at w b r) o body gains.grown says words p c h (draws ∙ ap (λ x. Draws (word.Block p c) (suc x)) count) in
        holds-block (step_at w b r) o body gains.grown says w.pools.items w.blocks.items w.cells.items w.queues.items w.signals.items w.timers.items w.holds world p c (suc n) next h draws
        (ops ∙ sym (ap (λ x. x.count) is)) (refs ∙ sym (ap (λ x. length x.names) is))

    pub pool-moves : (p n : ℕ) (next : Pool) (events : List Ev) → IsTrue (is_pool w.sys.now p) → touch_of o body ≡ Draws (word.Pool p) (suc n)
        → n ≡ (pool_in w.sys.now (lists_of w.book) p).count → next ≡ pool_next (pool_in w.sys.now (lists_of w.book) p) body → CellsHold w.sys.now (lists_of b) events
        → Holds (slice_set w.pools.items (p - 1) next) w.blocks.items events w.queues.items w.signals.items w.timers.items
    pool-moves p n next events h draws count is held =
        holds-pool (step_at w b r) o body gains.grown says w.pools.items w.blocks.items w.cells.items w.queues.items w.signals.items w.timers.items w.holds world p (suc n) next events h draws
        (is ∙ sym (pool-next (step_at w b r) o body gains.grown says words p h (draws ∙ ap (λ x. Draws (word.Pool p) (suc x)) count))) held

  -- The events in the blocks, where one is given out.
  pub cells-give : (o p n k from sig : ℕ) (pars : List ℕ) (e : Ev) → item_of r ≡ record { of = o; body = New p n k from sig pars } → IsTrue (is_pool w.sys.now p) → IsTrue (is_block w.sys.now p k)
      → n ≡ (pool_in w.sys.now (lists_of w.book) p).count → event_of e ≡ record { sig = sig; pars = pars }
      → CellsHold w.sys.now (lists_of b) (slice_set w.cells.items (block_place p k) e)
  cells-give o p n k from sig pars e says h at count is = record {
    long = length-set w.cells.items (block_place p k) e ∙ w.holds.cells_hold.long;
    event = λ q d g ev there. go q d g ev there (p == q) (k == d) refl refl;
  }
    where
      body : Body
      body = New p n k from sig pars

      now : (d : ℕ) → cell_in (lists_of b) p d ≡ cell_next d (cell_in (lists_of w.book) p d) (New p n k from sig pars)
      now d = cell-now (step_at w b r) o (New p n k from sig pars) gains.grown says words p d h (ap (λ x. Draws (word.Pool p) (suc x)) count)

      other : (q d : ℕ) → IsTrue (is_block w.sys.now q d) → ((p == q) && (k == d)) ≡ false → (ev : Event) → cell_in (lists_of w.book) q d ≡ Some ev
          → event_at (slice_set w.cells.items (block_place p k) e) (block_place q d) ≡ Some ev
      other q d g apart ev was =
          event-set_other w.cells.items (block_place p k) (block_place q d) e
          (places-differ p k q d (block-in w.sys.now w.holds.limits p k at) (block-in w.sys.now w.holds.limits q d g) apart)
          ∙ w.holds.cells_hold.event q d g ev was

      self : (k == k) ≡ true
      self = grind (arith, nat_tests)

      go : (q d : ℕ) → IsTrue (is_block w.sys.now q d) → (ev : Event) → cell_in (lists_of b) q d ≡ Some ev → (u v : Bool) → (p == q) ≡ u → (k == d) ≡ v
          → event_at (slice_set w.cells.items (block_place p k) e) (block_place q d) ≡ Some ev
      go q d g ev there true true f i =
          let p_is : p ≡ q = grind (arith, nat_tests) in
          let k_is : k ≡ d = grind (arith, nat_tests) in
          let lt : block_place p k < length w.cells.items = rw w.holds.cells_hold.long (block-in w.sys.now w.holds.limits p k at).table in
          let new : cell_in (lists_of b) p k ≡ Some (event_of e) = now k ∙ rw (self, is) refl in
          let same : cell_in (lists_of b) p k ≡ Some ev = ap (λ x. cell_in (lists_of b) x k) p_is ∙ ap (cell_in (lists_of b) q) k_is ∙ there in
          ap (λ x. event_at (slice_set w.cells.items (block_place p k) e) x) (ap (λ x. block_place x d) (sym p_is) ∙ ap (block_place p) (sym k_is))
          ∙ event-set_same w.cells.items (block_place p k) e lt ∙ sym new ∙ same
      go q d g ev there true false f i =
          let p_is : p ≡ q = grind (arith, nat_tests) in
          let still : cell_in (lists_of b) p d ≡ cell_in (lists_of w.book) p d = now d ∙ rw i refl in
          other q d g (rw (f, i) refl) ev (ap (λ x. cell_in (lists_of w.book) x d) (sym p_is) ∙ sym still ∙ ap (λ x. cell_in (lists_of b) x d) p_is ∙ there)
      go q d g ev there false v f i =
          other q d g (rw f refl) ev (sym (cell-kept (step_at w b r) o (New p n k from sig pars) gains.grown says q d (rw f refl)) ∙ there)

  -- and where one comes back
  pub cells-back : (o p n k to : ℕ) → item_of r ≡ record { of = o; body = Back p n k to } → IsTrue (is_pool w.sys.now p) → n ≡ (pool_in w.sys.now (lists_of w.book) p).count
      → CellsHold w.sys.now (lists_of b) w.cells.items
  cells-back o p n k to says h count = record {
    long = w.holds.cells_hold.long;
    event = λ q d g ev there. go q d g ev there (p == q) (k == d) refl refl;
  }
    where
      now : (d : ℕ) → cell_in (lists_of b) p d ≡ cell_next d (cell_in (lists_of w.book) p d) (Back p n k to)
      now d = cell-now (step_at w b r) o (Back p n k to) gains.grown says words p d h (ap (λ x. Draws (word.Pool p) (suc x)) count)

      go : (q d : ℕ) → IsTrue (is_block w.sys.now q d) → (ev : Event) → cell_in (lists_of b) q d ≡ Some ev → (u v : Bool) → (p == q) ≡ u → (k == d) ≡ v
          → event_at w.cells.items (block_place q d) ≡ Some ev
      go q d g ev there true true f i =
          let p_is : p ≡ q = grind (arith, nat_tests) in
          let none : cell_in (lists_of b) p d ≡ None = now d ∙ rw i refl in
          let wrong : None ≡ Some ev = sym none ∙ ap (λ x. cell_in (lists_of b) x d) p_is ∙ there in
          absurd (cc)
      go q d g ev there true false f i =
          let p_is : p ≡ q = grind (arith, nat_tests) in
          let still : cell_in (lists_of b) p d ≡ cell_in (lists_of w.book) p d = now d ∙ rw i refl in
          w.holds.cells_hold.event q d g ev (ap (λ x. cell_in (lists_of w.book) x d) (sym p_is) ∙ sym still ∙ ap (λ x. cell_in (lists_of b) x d) p_is ∙ there)
      go q d g ev there false v f i =
          w.holds.cells_hold.event q d g ev (sym (cell-kept (step_at w b r) o (Back p n k to) gains.grown says q d (rw f refl)) ∙ there)
