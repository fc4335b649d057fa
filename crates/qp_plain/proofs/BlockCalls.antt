-- Calls on blocks and pools.
use Rattle.std.proofs.Common.{◌≡◌, ◌≢◌, ℕ, zero, suc, ◌+◌, ◌-◌, ◌<◌, ◌≤◌, true, false, List, length, slice_set, refl, sym, ◌∙◌, ap, subst, arith, IsTrue, IsFalse, Option, Some, None, ◌⊎◌, inl, inr}
use Rattle.std.specs.Option.{unwrap_or}
use Rattle.qp_base.specs.declared.event.Ev.{Ev}
use Rattle.qp_chart.specs.StateTree.{has}
use Rattle.qp_model.specs.declared.record.Rec.{Rec}
use Rattle.qp_model.specs.declared.words.Word.{Word}
use Rattle.qp_model.specs.declared.bodies.Body.TheVariants.{New, Inc, Dec, Back}
use Rattle.qp_model.specs.Record.{item_of}
use Rattle.qp_model.specs.Told.{Event}
use Rattle.qp_model.specs.Lists.{is_first, with_number, without_all}
use Rattle.qp_model.specs.History.{drawn_on, touch_of}
use Rattle.qp_model.specs.FreeBlocks.{Pool}
use Rattle.qp_model.specs.WordLaw.{is_pool, is_block}
use Rattle.qp_calls.specs.declared.tokens.Fresh.{Fresh}
use Rattle.qp_calls.specs.declared.answers.Give.TheVariants as give
use Rattle.qp_calls.specs.declared.answers.Dec.TheVariants as dec
use Rattle.qp_calls.specs.Tokens.{Hold, Held, Loose, stands}
use Rattle.qp_calls.specs.Clauses.{GivesBlock, Makes, MakesMore, LetsGo, GoesBack, StandsHold, StandsFresh, event_of, shortage_of}
use Rattle.qp_plain_words.specs.declared.block.BlockWord.{BlockWord}
use Rattle.qp_plain_sound.specs.May.{May}
use Rattle.qp_plain_sound.specs.Sound.{hands_in, is_event}
use Rattle.qp_plain_sound.specs.WordStates.{pool_in, refs_in}
use Rattle.qp_plain_sound.proofs.CallBlocks.{give-done, give-refused, first-done, inc-done, dec-keeps, dec-last, back-done}
use Rattle.qp_plain_sound.proofs.FreeLemmas.{length-without_one}
use Rattle.qp_plain_sound.proofs.Standing.{block-pool, out-not_free}
use Rattle.qp_plain_sound.proofs.Times.{stands-times}
use Rattle.qp_plain.specs.declared.book.Book.{Book}
use Rattle.qp_plain.specs.declared.world.PlainWorld.{PlainWorld}
use Rattle.qp_plain.specs.Book.{BookGains, lists_of}
use Rattle.qp_plain.specs.Tables.{block_place}
use Rattle.qp_plain.specs.World.{WorldHolds}
use Rattle.qp_plain.specs.WorldView.{world_view}
use Rattle.qp_plain.proofs.Calling.{step_at, view_with, extends, BlockIs}
use Rattle.qp_plain.proofs.Mays.{fresh-block, fresh-stands, shortage-may}
use Rattle.qp_plain.proofs.Turns.{now-seen, quiet, block-moves, pool-moves, cells-give, cells-back}
use Rattle.qp_plain_sound.proofs.Standing as standing

-- References.
module _ (w : PlainWorld) (b : Book) (r : Rec) (gains : BookGains r w.book b) (p c n : ℕ) (q : BlockWord) (h : IsTrue (is_block w.sys.now p c)) (q_is : BlockIs w p c q) (n_is : n ≡ q.ops) where
  abbrev With : List BlockWord → Type 0
  With blocks = WorldHolds w.sys.now (lists_of b) b.order.items w.pools.items blocks w.cells.items w.queues.items w.signals.items w.timers.items

  refs_count : n ≡ (refs_in (lists_of w.book) p c).count
  refs_count = n_is ∙ q_is.ops

  made : (next : BlockWord) → item_of r ≡ record { of = w.by; body = Inc p c n } → (IsTrue (stands (Loose p c false) (hands_in w.sys.now (lists_of w.book) w.book.order.items))
      ⊎ ((k : ℕ) × IsTrue (stands (Held p c k) (hands_in w.sys.now (lists_of w.book) w.book.order.items))))
      → next ≡ record { ops = q.ops + 1; refs = q.refs + 1 } → With (slice_set w.blocks.items (block_place p c) next)
  unfolding May
  made next says token is =
      let more : next.refs ≡ suc (length (refs_in (lists_of w.book) p c).names) = ap (λ x. x.refs) is ∙ up q.refs ∙ ap suc q_is.refs in
      block-moves w b r gains w.by (Inc p c n) says (record { block = h; number = refs_count; token = token }) p c n next h refl refs_count
      (ap (λ x. x.ops) is ∙ ap (λ x. x + 1) q_is.ops) more
    where
      up : (x : ℕ) → x + 1 ≡ suc x
      up x = omega arith

  pub first-holds : (f : Fresh) (next : BlockWord) → p ≡ f.pool → c ≡ f.block → StandsFresh f (world_view w) → IsFalse f.used → item_of r ≡ record { of = w.by; body = Inc p c n }
      → next ≡ record { ops = q.ops + 1; refs = q.refs + 1 } → With (slice_set w.blocks.items (block_place p c) next)
  first-holds f next p_is c_is stand unused says is =
      let loose = fresh-stands w f stand in
      made next says (inl (subst (λ x. IsTrue (stands (Loose x c false) (hands_in w.sys.now (lists_of w.book) w.book.order.items))) (sym p_is)
      (subst (λ x. IsTrue (stands (Loose f.pool x false) (hands_in w.sys.now (lists_of w.book) w.book.order.items))) (sym c_is)
      (subst (λ u. IsTrue (stands (Loose f.pool f.block u) (hands_in w.sys.now (lists_of w.book) w.book.order.items))) unused loose)))) is

  pub inc-holds : (k : ℕ) (next : BlockWord) → IsTrue (stands (Held p c k) (hands_in w.sys.now (lists_of w.book) w.book.order.items)) → item_of r ≡ record { of = w.by; body = Inc p c n }
      → next ≡ record { ops = q.ops + 1; refs = q.refs + 1 } → With (slice_set w.blocks.items (block_place p c) next)
  inc-holds k next held says is = made next says (inr (k, held)) is

  pub dec-holds : (k : ℕ) (next : BlockWord) → IsTrue (stands (Held p c k) (hands_in w.sys.now (lists_of w.book) w.book.order.items)) → item_of r ≡ record { of = w.by; body = Dec p c n k }
      → next.ops ≡ q.ops + 1 → next.refs + 1 ≡ q.refs → With (slice_set w.blocks.items (block_place p c) next)
  unfolding May
  dec-holds k next held says ops refs =
      let there = standing.held-stands w.sys.now (lists_of w.book) (hands_in w.sys.now (lists_of w.book) w.book.order.items) w.holds.world.sound p c h k held in
      let less = length-without_one (refs_in (lists_of w.book) p c).names k there in
      block-moves w b r gains w.by (Dec p c n k) says (record { block = h; number = refs_count; token = held }) p c n next h refl refs_count
      (ops ∙ ap (λ x. x + 1) q_is.ops) (omega (arith, refs, less, q_is.refs))

-- What the calls on references answer.
module _ (w : PlainWorld) (b : Book) (r : Rec) (gains : BookGains r w.book b) (less : b.here.spare + 1 ≡ w.book.here.spare) where
  pub first-it : (f : Fresh) (q : BlockWord) (n : ℕ) → BlockIs w f.pool f.block q → n ≡ q.ops → item_of r ≡ record { of = w.by; body = Inc f.pool f.block n } → StandsFresh f (world_view w) → IsFalse f.used
      → Makes f.pool f.block 1 (world_view w) (view_with w b) (record { pool = f.pool; block = f.block; name = n })
  first-it f q n q_is n_is says stand unused =
      now-seen w b r gains (λ v. Makes f.pool f.block 1 (world_view w) v (record { pool = f.pool; block = f.block; name = n }))
      (first-done (step_at w b r) f n (extends w b r w.by (Inc f.pool f.block n) gains less says) stand unused (n_is ∙ q_is.ops))

  pub inc-it : (h : Hold) (q : BlockWord) (n : ℕ) → BlockIs w h.pool h.block q → n ≡ q.ops → item_of r ≡ record { of = w.by; body = Inc h.pool h.block n } → StandsHold h (world_view w)
      → MakesMore h (world_view w) (view_with w b) (record { pool = h.pool; block = h.block; name = n })
  inc-it h q n q_is n_is says stand =
      now-seen w b r gains (λ v. MakesMore h (world_view w) v (record { pool = h.pool; block = h.block; name = n }))
      (inc-done (step_at w b r) h n (extends w b r w.by (Inc h.pool h.block n) gains less says) stand (n_is ∙ q_is.ops))

  pub dec-last-it : (h : Hold) (q : BlockWord) (n left : ℕ) → BlockIs w h.pool h.block q → n ≡ q.ops → left + 1 ≡ q.refs → left ≡ 0 → item_of r ≡ record { of = w.by; body = Dec h.pool h.block n h.name }
      → StandsHold h (world_view w) → LetsGo h (world_view w) (view_with w b) (dec.Last (record { pool = h.pool; block = h.block; used = true }))
  dec-last-it h q n left q_is n_is one none says stand =
      now-seen w b r gains (λ v. LetsGo h (world_view w) v (dec.Last (record { pool = h.pool; block = h.block; used = true })))
      (dec-last (step_at w b r) h n (extends w b r w.by (Dec h.pool h.block n h.name) gains less says) stand (n_is ∙ q_is.ops) (omega (arith, one, none, q_is.refs)))

  pub dec-kept-it : (h : Hold) (q : BlockWord) (n left : ℕ) → BlockIs w h.pool h.block q → n ≡ q.ops → left + 1 ≡ q.refs → left ≢ 0 → item_of r ≡ record { of = w.by; body = Dec h.pool h.block n h.name }
      → StandsHold h (world_view w) → LetsGo h (world_view w) (view_with w b) dec.Kept
  dec-kept-it h q n left q_is n_is one some says stand = go left one some
    where
      go : (k : ℕ) → k + 1 ≡ q.refs → k ≢ 0 → LetsGo h (world_view w) (view_with w b) dec.Kept
      go zero e differ = absurd (differ refl)
      go (suc k) e differ =
          now-seen w b r gains (λ v. LetsGo h (world_view w) v dec.Kept)
          (dec-keeps (step_at w b r) h n k (extends w b r w.by (Dec h.pool h.block n h.name) gains less says) stand (n_is ∙ q_is.ops) (omega (arith, e, q_is.refs)))

-- A block comes back.
module _ (w : PlainWorld) (b : Book) (r : Rec) (gains : BookGains r w.book b) (f : Fresh) (n to : ℕ) (q : Pool) (q_is : q ≡ pool_in w.sys.now (lists_of w.book) f.pool) (n_is : n ≡ q.count)
    (to_is : to ≡ (refs_in (lists_of w.book) f.pool f.block).count) (stand : StandsFresh f (world_view w)) (used : IsTrue f.used) (says : item_of r ≡ record { of = w.by; body = Back f.pool n f.block to }) where
  its_block : IsTrue (is_block w.sys.now f.pool f.block)
  its_block = fresh-block w f stand

  loose : IsTrue (stands (Loose f.pool f.block true) (hands_in w.sys.now (lists_of w.book) w.book.order.items))
  loose = subst (λ u. IsTrue (stands (Loose f.pool f.block u) (hands_in w.sys.now (lists_of w.book) w.book.order.items))) used (fresh-stands w f stand)

  back_count : n ≡ (pool_in w.sys.now (lists_of w.book) f.pool).count
  back_count = n_is ∙ ap (λ x. x.count) q_is

  pub back-holds : (next : Pool) → next ≡ record { count = q.count + 1; free = with_number f.block q.free }
      → WorldHolds w.sys.now (lists_of b) b.order.items (slice_set w.pools.items (f.pool - 1) next) w.blocks.items w.cells.items w.queues.items w.signals.items w.timers.items
  unfolding May
  back-holds next is =
      let pool = (block-pool w.sys.now f.pool f.block its_block).0 in
      pool-moves w b r gains w.by (Back f.pool n f.block to) says (record { block = its_block; number = back_count; until = to_is; token = loose }) f.pool n next w.cells.items pool refl back_count
      (is ∙ ap (λ (x : Pool). record { count = x.count + 1; free = with_number f.block x.free }) q_is) (cells-back w b r gains w.by f.pool n f.block to says pool back_count)

  pub back-it : b.here.spare + 1 ≡ w.book.here.spare → GoesBack f (world_view w) (view_with w b)
  back-it less =
      now-seen w b r gains (λ v. GoesBack f (world_view w) v)
      (back-done (step_at w b r) f n to (extends w b r w.by (Back f.pool n f.block to) gains less says) stand used back_count to_is)

-- a block in the hands isn't free
pub not-free : (w : PlainWorld) (f : Fresh) → StandsFresh f (world_view w) → IsTrue f.used → has (pool_in w.sys.now (lists_of w.book) f.pool).free f.block ≡ false
not-free w f stand used =
    let block = fresh-block w f stand in
    let loose = subst (λ u. IsTrue (stands (Loose f.pool f.block u) (hands_in w.sys.now (lists_of w.book) w.book.order.items))) used (fresh-stands w f stand) in
    let some = stands-times (Loose f.pool f.block true) (hands_in w.sys.now (lists_of w.book) w.book.order.items) loose in
    let out = ((w.holds.world.sound.block f.pool f.block block).used_is some).1 in
    out-not_free w.sys.now (lists_of w.book) (hands_in w.sys.now (lists_of w.book) w.book.order.items) w.holds.world.sound f.pool f.block block out

-- A block is given out.
module _ (w : PlainWorld) (b : Book) (r : Rec) (gains : BookGains r w.book b) (p n : ℕ) (q : Pool) (h : IsTrue (is_pool w.sys.now p)) (q_is : q ≡ pool_in w.sys.now (lists_of w.book) p) (n_is : n ≡ q.count) where
  number_is : n ≡ (pool_in w.sys.now (lists_of w.book) p).count
  number_is = n_is ∙ ap (λ x. x.count) q_is

  pub short-holds : (free : ℕ) (reserve : Option ℕ) → free ≡ length q.free → free ≤ unwrap_or reserve 0 → item_of r ≡ record { of = w.by; body = shortage_of reserve p n free }
      → WorldHolds w.sys.now (lists_of b) b.order.items w.pools.items w.blocks.items w.cells.items w.queues.items w.signals.items w.timers.items
  short-holds free reserve free_is few says =
      quiet w b r gains w.by (shortage_of reserve p n free) says
      (shortage-may w b r p n free reserve (record { pool = h; number = number_is; free_blocks = free_is ∙ ap (λ x. length x.free) q_is }) few) (λ v. off v reserve)
    where
      off : (v : Word) (k : Option ℕ) → drawn_on v (touch_of w.by (shortage_of k p n free)) ≡ false
      off v (Some k) = refl
      off v None = refl

  pub give-holds : (k from sig : ℕ) (pars : List ℕ) (e : Ev) (next : Pool) → IsTrue (is_block w.sys.now p k) → is_first k q.free ≡ true → from ≡ (refs_in (lists_of w.book) p k).count
      → IsTrue (is_event w.sys.now (record { sig = sig; pars = pars })) → event_of e ≡ record { sig = sig; pars = pars } → item_of r ≡ record { of = w.by; body = New p n k from sig pars }
      → next ≡ record { count = q.count + 1; free = without_all k q.free }
      → WorldHolds w.sys.now (lists_of b) b.order.items (slice_set w.pools.items (p - 1) next) w.blocks.items (slice_set w.cells.items (block_place p k) e) w.queues.items w.signals.items w.timers.items
  unfolding May
  give-holds k from sig pars e next block first since event stored says is =
      pool-moves w b r gains w.by (New p n k from sig pars) says
      (record { block = block; number = number_is; lowest = subst (λ x. is_first k x.free ≡ true) q_is first; since = since; event = event }) p n next (slice_set w.cells.items (block_place p k) e) h refl number_is
      (is ∙ ap (λ (x : Pool). record { count = x.count + 1; free = without_all k x.free }) q_is) (cells-give w b r gains w.by p n k from sig pars e says h block number_is stored)

  module _ (less : b.here.spare + 1 ≡ w.book.here.spare) where
    pub give-short : (free : ℕ) (reserve : Option ℕ) (ev : Event) → free ≡ length q.free → free ≤ unwrap_or reserve 0 → item_of r ≡ record { of = w.by; body = shortage_of reserve p n free }
        → GivesBlock p reserve ev (world_view w) (view_with w b) (give.Short n free)
    give-short free reserve ev free_is few says =
        now-seen w b r gains (λ v. GivesBlock p reserve ev (world_view w) v (give.Short n free))
        (give-refused (step_at w b r) p n free ev reserve (extends w b r w.by (shortage_of reserve p n free) gains less says)
        (record { pool = h; number = number_is; free_blocks = free_is ∙ ap (λ x. length x.free) q_is }) few)

    pub give-it : (k from : ℕ) (ev : Event) (reserve : Option ℕ) → IsTrue (is_block w.sys.now p k) → is_first k q.free ≡ true → from ≡ (refs_in (lists_of w.book) p k).count
        → IsTrue (is_event w.sys.now ev) → unwrap_or reserve 0 < length q.free → item_of r ≡ record { of = w.by; body = New p n k from ev.sig ev.pars }
        → GivesBlock p reserve ev (world_view w) (view_with w b) (give.Given (record { pool = p; block = k; used = false }))
    give-it k from ev reserve block first since event enough says =
        now-seen w b r gains (λ v. GivesBlock p reserve ev (world_view w) v (give.Given (record { pool = p; block = k; used = false })))
        (give-done (step_at w b r) p n k from ev reserve (extends w b r w.by (New p n k from ev.sig ev.pars) gains less says)
        (record { block = block; number = number_is; lowest = subst (λ x. is_first k x.free ≡ true) q_is first; since = since; event = event })
        (subst (λ x. unwrap_or reserve 0 < length x.free) q_is enough))

-- a reference that stands in the hands is one of its block's
pub refs-some : (w : PlainWorld) (p c : ℕ) (q : BlockWord) → IsTrue (is_block w.sys.now p c) → BlockIs w p c q → (k : ℕ)
    → IsTrue (stands (Held p c k) (hands_in w.sys.now (lists_of w.book) w.book.order.items)) → 0 < q.refs
refs-some w p c q h is k held =
    let there = standing.held-stands w.sys.now (lists_of w.book) (hands_in w.sys.now (lists_of w.book) w.book.order.items) w.holds.world.sound p c h k held in
    let less = length-without_one (refs_in (lists_of w.book) p c).names k there in
    omega (arith, less, is.refs)
