-- The events in the blocks, and which blocks a pool has.
use Rattle.std.proofs.Common.{◌≡◌, ℕ, zero, suc, ◌<◌, ◌==◌, nat_lt, nat_le, Bool, true, List, [], ◌∷◌, length, get_or, sym, ◌∙◌, ap, subst, arith, IsTrue, Some}
use Rattle.std.specs.List.{list_all}
use Rattle.std.proofs.lemmas.Bool.{and_from, and_parts, le-leb, lt-ltb}
use Rattle.std.proofs.lemmas.Bool.Decides.{nat_tests}
use Rattle.std.proofs.lemmas.Option.{same_Some}
use Rattle.qp_base.specs.declared.event.Ev.{Ev}
use Rattle.qp_model.specs.declared.words.Word.TheVariants as word
use Rattle.qp_model.specs.declared.bodies.Body.{Body}
use Rattle.qp_model.specs.declared.bodies.Body.TheVariants.{New, Back}
use Rattle.qp_model.specs.Record.{Item, entry}
use Rattle.qp_model.specs.Told.{Event}
use Rattle.qp_model.specs.Lists.{is_first}
use Rattle.qp_model.specs.History.{hist, all_items}
use Rattle.qp_model.specs.Machine.{after, after_from, is_allowed, allowed_from}
use Rattle.qp_model.specs.FreeBlocks.{Pool, free_blocks, pool_may, pool_next}
use Rattle.qp_model.specs.Sites.{blocks_of}
use Rattle.qp_model.specs.WordLaw.{is_pool, is_block}
use Rattle.qp_model.proofs.ListLemmas.{all-with, all-without, all-counted}
use Rattle.qp_calls.specs.Tokens.{Hold}
use Rattle.qp_calls.specs.Clauses.{StandsHold, IsEvent, FitsPool, event_of}
use Rattle.qp_plain_sound.specs.Sound.{is_event}
use Rattle.qp_plain_sound.specs.View.{view_of}
use Rattle.qp_plain_sound.specs.WordStates.{pool_in}
use Rattle.qp_plain_sound.proofs.CallEvents.{held-event, event-read, event-to}
use Rattle.qp_plain.specs.declared.world.PlainWorld.{PlainWorld}
use Rattle.qp_plain.specs.Book.{lists_of, purses_of}
use Rattle.qp_plain.specs.Tables.{event_at, block_place}
use Rattle.qp_plain.specs.WorldView.{world_view}
use Rattle.qp_plain.proofs.Holding.{block-in}
use Rattle.qp_plain.proofs.Mays.{held-block}

read-at : (table : List Ev) (k : ℕ) (e : Ev) → k < length table → e ≡ get_or table k e → event_at table k ≡ Some (event_of e)
read-at [] k e lt is = absurd (omega (arith, lt))
read-at (x ∷ xs) zero e lt is = ap (λ y. Some (event_of y)) (sym is)
read-at (x ∷ xs) (suc k) e lt is = read-at xs k e (omega (arith, lt)) is

-- the event of a reference in the hands stands in its block's place
pub event-here : (w : PlainWorld) (h : Hold) (k : ℕ) (e : Ev) → StandsHold h (world_view w) → k ≡ block_place h.pool h.block → e ≡ get_or w.cells.items k e
    → ((world_view w).event (entry h.pool h.block h.name) ≡ event_of e) × IsEvent w.sys.now (event_of e)
event-here w h k e stand at is =
    let block = held-block w h stand in
    let its = held-event w.sys.now (lists_of w.book) w.book.order.items w.book.at w.book.here.spare w.by w.book.here.stops.list w.book.here.answered.list (purses_of w.book) h w.holds.world stand in
    let read = event-read w.sys.now (lists_of w.book) w.book.order.items w.book.at w.book.here.spare w.by w.book.here.stops.list w.book.here.answered.list (purses_of w.book) h its.0 w.holds.world stand its.1 in
    let there = w.holds.cells_hold.event h.pool h.block block its.0 its.1 in
    let lt : k < length w.cells.items = let t = block-in w.sys.now w.holds.limits h.pool h.block block in omega (arith, t.table, at, w.holds.cells_hold.long) in
    let same : its.0 ≡ event_of e = same_Some its.0 (event_of e) (sym there ∙ ap (event_at w.cells.items) (sym at) ∙ read-at w.cells.items k e lt is) in
    (read.0 ∙ same, subst (IsEvent w.sys.now) same read.1)

free-step : (blocks : ℕ) (s : Pool) (b : Body) → list_all (λ x. nat_lt x blocks) s.free ≡ true → pool_may blocks s b ≡ true → list_all (λ x. nat_lt x blocks) (pool_next s b).free ≡ true
free-step blocks s (New p n b from sig pars) h may = all-without (λ x. nat_lt x blocks) b s.free h
free-step blocks s (Back p n b to) h may = all-with (λ x. nat_lt x blocks) b s.free h (and_parts _ _ (and_parts _ _ may).0).1
free-step blocks s _ h may = h

free-from : (blocks : ℕ) (s : Pool) (history : List Item) → list_all (λ x. nat_lt x blocks) s.free ≡ true → allowed_from (free_blocks blocks) s history ≡ true
    → list_all (λ x. nat_lt x blocks) (after_from (free_blocks blocks) s history).free ≡ true
unfolding after_from allowed_from
free-from blocks s [] h may = h
free-from blocks s (i ∷ is) h may = free-from blocks (pool_next s i.body) is (free-step blocks s i.body h (and_parts _ _ may).0) (and_parts _ _ may).1

free-all : (blocks : ℕ) (history : List Item) → is_allowed (free_blocks blocks) history ≡ true → list_all (λ x. nat_lt x blocks) (after (free_blocks blocks) history).free ≡ true
unfolding after is_allowed
free-all blocks history may = free-from blocks ((free_blocks blocks).first) history (all-counted blocks 0 blocks (omega arith)) may

first-in : (p : ℕ → Bool) (b : ℕ) (xs : List ℕ) → list_all p xs ≡ true → is_first b xs ≡ true → p b ≡ true
first-in p b [] all h = absurd (cc)
first-in p b (x ∷ xs) all h = let same : x ≡ b = number x b h in ap p (sym same) ∙ (and_parts _ _ all).0
  where
    number : (x y : ℕ) → (x == y) ≡ true → x ≡ y
    number x y e = grind (arith, nat_tests)

pub free-block : (w : PlainWorld) (p b : ℕ) (q : Pool) → IsTrue (is_pool w.sys.now p) → q ≡ pool_in w.sys.now (lists_of w.book) p → is_first b q.free ≡ true → IsTrue (is_block w.sys.now p b)
unfolding pool_in is_block
free-block w p b q h is first =
    let all = free-all (blocks_of w.sys.now p) (hist (word.Pool p) (all_items (lists_of w.book))) (w.holds.world.sound.words.pools p h).allowed in
    let here : nat_lt b (blocks_of w.sys.now p) ≡ true = first-in (λ x. nat_lt x (blocks_of w.sys.now p)) b _ all (ap (λ x. is_first b x.free) (sym is) ∙ first) in
    and_from _ _ h here

-- a pool that an event fits is one of the system
pub pool-fits : (w : PlainWorld) (p : ℕ) (ev : Event) → FitsPool (world_view w).sys p ev → IsTrue (is_pool w.sys.now p) × IsTrue (is_event w.sys.now ev)
unfolding view_of
pool-fits w p ev h =
    let some : nat_lt 0 p ≡ true = lt-ltb 0 p h.some in
    let within : nat_le p (length w.sys.now.pools) ≡ true = le-leb p (length w.sys.now.pools) h.there in
    (and_from _ _ some within, event-to w.sys.now ev h.event)
