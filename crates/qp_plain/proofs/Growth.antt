-- What the words hold after a record more.
use Rattle.std.proofs.Common.{◌≡◌, ℕ, suc, ◌+◌, true, false, List, [], ◌∷◌, ◌++◌, take, drop, refl, sym, ◌∙◌, ap, subst, IsTrue, None}
use Rattle.qp_model.specs.declared.words.Word.{Word}
use Rattle.qp_model.specs.declared.words.Word.TheVariants as word
use Rattle.qp_model.specs.declared.bodies.Body.{Body}
use Rattle.qp_model.specs.Record.{Item, item_of}
use Rattle.qp_model.specs.History.{Touch, Draws, touch_of, drawn_on, drawn_as, hist, total, is_numbered, all_items, lane_items}
use Rattle.qp_model.specs.Machine.{Machine, after}
use Rattle.qp_model.specs.FreeBlocks.{free_blocks, pool_next}
use Rattle.qp_model.specs.References.{references, refs_next}
use Rattle.qp_model.specs.Line.{line, line_next}
use Rattle.qp_model.specs.Subscribers.{subscribers, subscribers_next}
use Rattle.qp_model.specs.TimeEvents.{time_event, clock_next}
use Rattle.qp_model.specs.Sites.{ring_of, blocks_of}
use Rattle.qp_model.specs.WordLaw.{Keeps, Words, is_pool, is_block, is_object, is_signal, is_timer}
use Rattle.qp_model.proofs.HistoryLemmas.{hist-draws, same_word-refl}
use Rattle.qp_model.proofs.MachineLemmas.{Counts, after-append}
use Rattle.qp_model.proofs.LineLemmas.{line-counts, same_number}
use Rattle.qp_model.proofs.WordLemmas.{all_items-split, all_items-grown, hist-stays}
use Rattle.qp_model.proofs.WordLawLemmas.{references-counts, free_blocks-counts, subscribers-counts, time_event-counts}
use Rattle.qp_plain_sound.specs.Log.{lane_recs}
use Rattle.qp_plain_sound.specs.Step.{WorldStep, Grown}
use Rattle.qp_plain_sound.specs.WordStates.{pool_in, refs_in, line_in, set_in, clock_in, cell_in, cell_after, cell_next}
use Rattle.qp_plain_sound.proofs.Logs.{lanes-split, lanes-grown}
use Rattle.qp_plain_sound.proofs.Standing.{count-total}
use Rattle.qp_plain_sound.proofs.Events.{cell-append}

drawn-as : (w : Word) (n : ℕ) (t : Touch) → t ≡ Draws w (suc n) → drawn_as w n t ≡ true
drawn-as w n t is = rw (is, same_word-refl w, same_number (suc n)) refl

module _ (s : WorldStep) (o : ℕ) (b : Body) (grown : Grown s.lanes s.order s.at s.rec s.more s.longer) (says : item_of s.rec ≡ record { of = o; body = b }) where
  abbrev this : Item
  this = record { of = o; body = b }

  old-is : s.lanes ≡ take s.at s.lanes ++ lane_recs s.lanes s.at ∷ drop (suc s.at) s.lanes
  old-is = lanes-split s.lanes s.at grown.within

  new-is : s.more ≡ take s.at s.lanes ++ (lane_recs s.lanes s.at ++ s.rec ∷ []) ∷ drop (suc s.at) s.lanes
  new-is = grown.lanes_are ∙ lanes-grown s.lanes s.at (lane_recs s.lanes s.at ++ s.rec ∷ []) grown.within

  -- the history of another word
  pub hist-kept : (w : Word) → drawn_on w (touch_of o b) ≡ false → hist w (all_items s.more) ≡ hist w (all_items s.lanes)
  hist-kept w off =
      ap (λ ls. hist w (all_items ls)) new-is
      ∙ hist-stays (take s.at s.lanes) (lane_recs s.lanes s.at) (drop (suc s.at) s.lanes) s.rec this says w off
      ∙ sym (ap (λ ls. hist w (all_items ls)) old-is)

  abbrev xs : List Item
  xs = all_items (take s.at s.lanes) ++ lane_items (lane_recs s.lanes s.at)

  abbrev ys : List Item
  ys = all_items (drop (suc s.at) s.lanes)

  items-old : all_items s.lanes ≡ xs ++ ys
  items-old = ap all_items old-is ∙ all_items-split (take s.at s.lanes) (lane_recs s.lanes s.at) (drop (suc s.at) s.lanes)

  items-new : all_items s.more ≡ xs ++ this ∷ ys
  items-new = ap all_items new-is ∙ all_items-grown (take s.at s.lanes) (lane_recs s.lanes s.at) (drop (suc s.at) s.lanes) s.rec this says

  -- and of the word of which it draws the next number
  hist-gains : (w : Word) → is_numbered w (all_items s.lanes) ≡ true → touch_of o b ≡ Draws w (suc (total w (all_items s.lanes)))
      → hist w (all_items s.more) ≡ hist w (all_items s.lanes) ++ this ∷ []
  hist-gains w numbers draws =
      ap (hist w) items-new
      ∙ hist-draws w xs this ys (subst (λ z. is_numbered w z ≡ true) items-old numbers)
      (subst (λ z. drawn_as w (total w z) (touch_of o b) ≡ true) items-old (drawn-as w (total w (all_items s.lanes)) (touch_of o b) draws))
      ∙ sym (ap (λ z. hist w z ++ this ∷ []) items-old)

  counted : {S : Type 0} (m : Machine S) (w : Word) → Counts S m → Keeps S m w s.lanes → touch_of o b ≡ Draws w (suc (m.count (after m (hist w (all_items s.lanes)))))
      → touch_of o b ≡ Draws w (suc (total w (all_items s.lanes)))
  counted m w counts keeps draws = draws ∙ ap (λ n. Draws w (suc n)) (count-total m w s.lanes counts keeps)

  grows : {S : Type 0} (m : Machine S) (w : Word) → Counts S m → Keeps S m w s.lanes → touch_of o b ≡ Draws w (suc (m.count (after m (hist w (all_items s.lanes)))))
      → after m (hist w (all_items s.more)) ≡ m.next (after m (hist w (all_items s.lanes))) this
  grows m w counts keeps draws =
      ap (after m) (hist-gains w keeps.numbers (counted m w counts keeps draws)) ∙ after-append m (hist w (all_items s.lanes)) this

  -- What each kind of word holds where another one is drawn.
  pub pool-kept : (p : ℕ) → drawn_on (word.Pool p) (touch_of o b) ≡ false → pool_in s.sys s.more p ≡ pool_in s.sys s.lanes p
  unfolding pool_in
  pool-kept p off = ap (after (free_blocks (blocks_of s.sys p))) (hist-kept (word.Pool p) off)

  pub cell-kept : (p c : ℕ) → drawn_on (word.Pool p) (touch_of o b) ≡ false → cell_in s.more p c ≡ cell_in s.lanes p c
  unfolding cell_in
  cell-kept p c off = ap (cell_after c None) (hist-kept (word.Pool p) off)

  pub refs-kept : (p c : ℕ) → drawn_on (word.Block p c) (touch_of o b) ≡ false → refs_in s.more p c ≡ refs_in s.lanes p c
  unfolding refs_in
  refs-kept p c off = ap (after references) (hist-kept (word.Block p c) off)

  pub line-kept : (a : ℕ) → drawn_on (word.Queue a) (touch_of o b) ≡ false → line_in s.sys s.more a ≡ line_in s.sys s.lanes a
  unfolding line_in
  line-kept a off = ap (after (line (ring_of s.sys a))) (hist-kept (word.Queue a) off)

  pub set-kept : (g : ℕ) → drawn_on (word.Signal g) (touch_of o b) ≡ false → set_in s.more g ≡ set_in s.lanes g
  unfolding set_in
  set-kept g off = ap (after subscribers) (hist-kept (word.Signal g) off)

  pub clock-kept : (t : ℕ) → drawn_on (word.Timer t) (touch_of o b) ≡ false → clock_in s.more t ≡ clock_in s.lanes t
  unfolding clock_in
  clock-kept t off = ap (after time_event) (hist-kept (word.Timer t) off)

  -- And where it is drawn itself.
  module _ (words : Words s.sys s.lanes) where
    pub pool-next : (p : ℕ) → IsTrue (is_pool s.sys p) → touch_of o b ≡ Draws (word.Pool p) (suc (pool_in s.sys s.lanes p).count) → pool_in s.sys s.more p ≡ pool_next (pool_in s.sys s.lanes p) b
    unfolding pool_in
    pool-next p h draws = grows (free_blocks (blocks_of s.sys p)) (word.Pool p) (free_blocks-counts (blocks_of s.sys p)) (words.pools p h) draws

    pub cell-now : (p c : ℕ) → IsTrue (is_pool s.sys p) → touch_of o b ≡ Draws (word.Pool p) (suc (pool_in s.sys s.lanes p).count) → cell_in s.more p c ≡ cell_next c (cell_in s.lanes p c) b
    unfolding cell_in pool_in
    cell-now p c h draws =
        ap (cell_after c None) (hist-gains (word.Pool p) (words.pools p h).numbers (counted (free_blocks (blocks_of s.sys p)) (word.Pool p) (free_blocks-counts (blocks_of s.sys p)) (words.pools p h) draws))
        ∙ cell-append c None (hist (word.Pool p) (all_items s.lanes)) this

    pub refs-next : (p c : ℕ) → IsTrue (is_block s.sys p c) → touch_of o b ≡ Draws (word.Block p c) (suc (refs_in s.lanes p c).count) → refs_in s.more p c ≡ refs_next (refs_in s.lanes p c) b
    unfolding refs_in
    refs-next p c h draws = grows references (word.Block p c) references-counts (words.blocks p c h) draws

    pub line-next : (a : ℕ) → IsTrue (is_object s.sys a) → touch_of o b ≡ Draws (word.Queue a) (suc ((line_in s.sys s.lanes a).f + (line_in s.sys s.lanes a).l + (line_in s.sys s.lanes a).m))
        → line_in s.sys s.more a ≡ line_next (line_in s.sys s.lanes a) b
    unfolding line_in
    line-next a h draws = grows (line (ring_of s.sys a)) (word.Queue a) (line-counts (ring_of s.sys a)) (words.queues a h) draws

    pub set-next : (g : ℕ) → IsTrue (is_signal s.sys g) → touch_of o b ≡ Draws (word.Signal g) (suc (set_in s.lanes g).count) → set_in s.more g ≡ subscribers_next (set_in s.lanes g) o b
    unfolding set_in
    set-next g h draws = grows subscribers (word.Signal g) subscribers-counts (words.signals g h) draws

    pub clock-next : (t : ℕ) → IsTrue (is_timer s.sys t) → touch_of o b ≡ Draws (word.Timer t) (suc (clock_in s.lanes t).count) → clock_in s.more t ≡ clock_next (clock_in s.lanes t) b
    unfolding clock_in
    clock-next t h draws = grows time_event (word.Timer t) time_event-counts (words.timers t h) draws
