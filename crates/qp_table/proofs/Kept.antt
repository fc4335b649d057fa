-- What a step on one word leaves: the other words, and the queues.
use Rattle.std.proofs.Common.{◌≡◌, ℕ, ◌+◌, ◌<◌, ◌≤◌, ◌≢◌, List, [], false, length, set, get_or, refl, sym, ap, subst, ◌∙◌, ⊎_elim, arith, length-set, get_or-set_same, get_or-set_other, IsTrue}
use mathlib.Core.Option.{some}
use lib.ListN.{get_elem?}
use Rattle.qp_model.specs.declared.bodies.Entry.{Entry}
use Rattle.qp_model.specs.declared.systems.System.{System}
use Rattle.qp_model.specs.FreeBlocks.{Pool}
use Rattle.qp_model.specs.References.{Refs}
use Rattle.qp_model.specs.Line.{Line}
use Rattle.qp_model.specs.Sites.{ring_of}
use Rattle.qp_model.specs.WordLaw.{is_pool, is_block, is_object}
use Rattle.qp_table.specs.Counting.{many}
use Rattle.qp_table.specs.Now.{Now, with_refs, with_line, with_given}
use Rattle.qp_table.specs.Rule.{event_word_at, is_fill, fills_with, HasEvent, Tells, Beside, Events, is_lifo, is_take_of, records, Served, pool_at, block_at, queue_at, cell_at, Fitting, pool_value, refs_value, line_value, Shows, InLine, Items, is_item, is_place, is_serve, QueueCells, Serves, Queues}
use Rattle.qp_table.specs.declared.view.SeatLog.{SeatLog}
use Rattle.qp_table.specs.declared.view.Serve.{Serve}
use Rattle.qp_table.specs.declared.view.View.{View}
use Rattle.qp_table.proofs.Counting.{each-map, total-set}
use Rattle.qp_table.proofs.Growing.{at-each, two-each}
use Rattle.qp_table.proofs.Views.{Quiet, quiet-same, fits-set}

module _ (sys : System) (fitting : Fitting sys) (words : List ℕ) (now : Now) (shows : Shows sys words now) where
  wide : (w : ℕ) (n : ℕ) → length (set words w n) ≡ 21128
  wide w n = length-set words w n ∙ shows.wide

  pub shows-block : (p b n : ℕ) (s : Refs) → IsTrue (is_block sys p b) → n ≡ refs_value s → Shows sys (set words (block_at p b) n) (with_refs now p b s)
  shows-block p b n s block is = let z = fitting.pools p b block in let wd = shows.wide in record {
    wide = wide (block_at p b) n;
    pools = λ q h. get_or-set_other words (block_at p b) (pool_at q) n 0 (λ e. let y = fitting.small q h in let y0 = y.0 in let z0 = z.0 in absurd (omega arith)) ∙ shows.pools q h;
    blocks = λ q c h. two-each (λ q c x. IsTrue (is_block sys q c) → get_or (set words (block_at p b) n) (block_at q c) 0 ≡ refs_value x) p b s now.refs
        (λ _. get_or-set_same words (block_at p b) n 0 (let z1 = z.1 in let z2 = z.2 in omega arith) ∙ is)
        (λ q c ne k. get_or-set_other words (block_at p b) (block_at q c) n 0 (λ e. let y = fitting.pools q c k in let y1 = y.1 in let y2 = y.2 in let z1 = z.1 in let z2 = z.2 in ⊎_elim (λ no. no (omega arith)) (λ no. no (omega arith)) ne) ∙ shows.blocks q c k) q c h;
    queues = λ a h. get_or-set_other words (block_at p b) (queue_at a) n 0 (λ e. let z1 = z.1 in let z2 = z.2 in absurd (omega arith)) ∙ shows.queues a h;
  }

  pub shows-pool : (p b e n : ℕ) (s : Pool) (t : List ℕ) → IsTrue (is_pool sys p) → n ≡ pool_value s → Shows sys (set words (pool_at p) n) (with_given now p s b e t)
  shows-pool p b e n s t pool is = let z = fitting.small p pool in let wd = shows.wide in record {
    wide = wide (pool_at p) n;
    pools = at-each (λ q x. IsTrue (is_pool sys q) → get_or (set words (pool_at p) n) (pool_at q) 0 ≡ pool_value x) p s now.pool
        (λ _. get_or-set_same words (pool_at p) n 0 (let z0 = z.0 in omega arith) ∙ is)
        (λ q ne k. get_or-set_other words (pool_at p) (pool_at q) n 0 (λ e. ne (omega arith)) ∙ shows.pools q k);
    blocks = λ q c h. get_or-set_other words (pool_at p) (block_at q c) n 0 (λ x. let z0 = z.0 in absurd (omega arith)) ∙ shows.blocks q c h;
    queues = λ a h. get_or-set_other words (pool_at p) (queue_at a) n 0 (λ x. let z0 = z.0 in absurd (omega arith)) ∙ shows.queues a h;
  }

  pub shows-queue : (a n : ℕ) (s : Line) → IsTrue (is_object sys a) → n ≡ line_value s → Shows sys (set words (queue_at a) n) (with_line now a s)
  shows-queue a n s object is = let z = fitting.objects a object in let wd = shows.wide in record {
    wide = wide (queue_at a) n;
    pools = λ q h. get_or-set_other words (queue_at a) (pool_at q) n 0 (λ e. let y = fitting.small q h in let y0 = y.0 in absurd (omega arith)) ∙ shows.pools q h;
    blocks = λ q c h. get_or-set_other words (queue_at a) (block_at q c) n 0 (λ e. let y = fitting.pools q c h in let y1 = y.1 in let y2 = y.2 in absurd (omega arith)) ∙ shows.blocks q c h;
    queues = at-each (λ d x. IsTrue (is_object sys d) → get_or (set words (queue_at a) n) (queue_at d) 0 ≡ line_value x) a s now.line
        (λ _. get_or-set_same words (queue_at a) n 0 (let z0 = z.0 in omega arith) ∙ is)
        (λ d ne k. get_or-set_other words (queue_at a) (queue_at d) n 0 (λ e. ne (omega arith)) ∙ shows.queues d k);
  }

  -- a word without a number
  pub shows-else : (w n : ℕ) → 4488 ≤ w → Shows sys (set words w n) now
  shows-else w n high = record {
    wide = wide w n;
    pools = λ q h. get_or-set_other words w (pool_at q) n 0 (λ e. let y = fitting.small q h in let y0 = y.0 in absurd (omega arith)) ∙ shows.pools q h;
    blocks = λ q c h. get_or-set_other words w (block_at q c) n 0 (λ e. let y = fitting.pools q c h in let y1 = y.1 in let y2 = y.2 in absurd (omega arith)) ∙ shows.blocks q c h;
    queues = λ a h. get_or-set_other words w (queue_at a) n 0 (λ e. let y = fitting.objects a h in let y0 = y.0 in absurd (omega arith)) ∙ shows.queues a h;
  }

-- a queue whose cells stay
pub queue-same : (sys : System) (n : ℕ) (words after : List ℕ) (a : ℕ) (s : Line) (items : List InLine) → ((j : ℕ) → j < 256 → get_or after (cell_at a j) 0 ≡ get_or words (cell_at a j) 0) → QueueCells sys n words a s items → QueueCells sys n after a s items
queue-same sys n words after a s items stay q = let c = q.some_cell in record {
  some_cell = q.some_cell;
  same = q.same;
  run = q.run;
  short = q.short;
  cells = λ j l. stay j (let c1 = c.1 in omega arith) ∙ q.cells j l;
  first = q.first;
  staged = q.staged;
  bounded = q.bounded;
  counted = q.counted;
}

-- what a lane serves, after a step that changes no line
pub served-moved : (now next : Now) (old new : List SeatLog) → ((a : ℕ) → next.line a ≡ now.line a) → ((a : ℕ) → records (is_lifo a) new ≡ records (is_lifo a) old) → ((a : ℕ) → records (is_take_of a) new ≡ records (is_take_of a) old)
    → (x : Serve) → Served now old x → Served next new x
served-moved now next old new same lifos takes x e = record {
  lifos = ap (λ (t : Line). t.l) (same x.object) ∙ e.lifos;
  takes = ap (λ (t : Line). t.m) (same x.object) ∙ e.takes;
  few = e.few;
  lifos_are = e.lifos_are ∙ sym (lifos x.object);
  takes_are = e.takes_are ∙ sym (takes x.object);
}

pub serves-kept : (now next : Now) (v u : View) → ((a : ℕ) → next.line a ≡ now.line a) → u.serves ≡ v.serves → u.takes ≡ v.takes → Quiet v u → Serves now v → Serves next u
serves-kept now next v u same serves takes quiet s = record {
  counts = rw serves (each-map (Served now v.logs) (Served next u.logs) (served-moved now next v.logs u.logs same quiet.lifos quiet.takes) v.serves s.counts);
  within = rw serves (let w = s.within in let l = quiet.longer in omega arith);
  others = λ a no. let o = s.others a (rw (sym serves) no) in (quiet.lifos a ∙ o.0, quiet.takes a ∙ o.1);
  taking = λ a. rw (serves, takes) (s.taking a);
}

module _ (sys : System) (words after : List ℕ) (views : List View) (now next : Now) (items items' : Items) (id : ℕ) (v u : View) (at_id : get_elem? views id ≡ some v) (queues : Queues sys words views now items) where
  pub queues-set : ((a : ℕ) → IsTrue (is_object sys a) → QueueCells sys (ring_of sys a + 1) after a (next.line a) (items' a))
      → ((a : ℕ) → is_object sys a ≡ false → (items' a ≡ []) × ((next.line a).entries ≡ []))
      → ((a j : ℕ) (e : Entry) → many (is_place a j e) u.claims + many (is_item 0 j e) (items a) ≡ many (is_place a j e) v.claims + many (is_item 0 j e) (items' a))
      → ((a j : ℕ) (e : Entry) → many (is_place a j e) u.takes + many (is_item 2 j e) (items a) ≡ many (is_place a j e) v.takes + many (is_item 2 j e) (items' a))
      → ((a : ℕ) → many (is_serve a) u.serves ≡ many (is_serve a) v.serves) → Serves next u
      → ((j : ℕ) (z : View) → j ≢ id → get_elem? views j ≡ some z → Serves now z → Serves next z) → Queues sys after (set views id u) next items'
  queues-set each no_object claims takes serves mine others = record {
    queue = each;
    none = no_object;
    claims = λ a j e. let f = total-set (λ (z : View). many (is_place a j e) z.claims) views id v u at_id in let p = claims a j e in let t = queues.claims a j e in omega arith;
    takes = λ a j e. let f = total-set (λ (z : View). many (is_place a j e) z.takes) views id v u at_id in let p = takes a j e in let t = queues.takes a j e in omega arith;
    serves = λ a. let f = total-set (λ (z : View). many (is_serve a) z.serves) views id v u at_id in let s = serves a in let t = queues.serves a in omega arith;
    home = fits-set (Serves now) (Serves next) views id u others mine queues.home;
  }

-- a step that leaves all queues as they are
pub queues-kept : (sys : System) (words after : List ℕ) (views : List View) (now next : Now) (items : Items) (id : ℕ) (v u : View) → get_elem? views id ≡ some v → Queues sys words views now items
    → ((a j : ℕ) → IsTrue (is_object sys a) → j < 256 → get_or after (cell_at a j) 0 ≡ get_or words (cell_at a j) 0) → ((a : ℕ) → next.line a ≡ now.line a)
    → u.claims ≡ v.claims → u.takes ≡ v.takes → u.serves ≡ v.serves → Quiet v u → Queues sys after (set views id u) next items
queues-kept sys words after views now next items id v u at_id queues stay same claims takes serves quiet =
    queues-set sys words after views now next items items id v u at_id queues
    (λ a h. subst (λ (s : Line). QueueCells sys (ring_of sys a + 1) after a s (items a)) (sym (same a)) (queue-same sys (ring_of sys a + 1) words after a (now.line a) (items a) (λ j l. stay a j h l) (queues.queue a h)))
    (λ a no. let x = queues.none a no in (x.0, ap (λ (s : Line). s.entries) (same a) ∙ x.1))
    (λ a j e. rw claims refl) (λ a j e. rw takes refl) (λ a. ap (many (is_serve a)) serves)
    (serves-kept now next v u same serves takes quiet (queues.home id v at_id))
    (λ j z ne there s. serves-kept now next z z same refl refl (quiet-same z z refl) s)

-- what stands beside fresh blocks, where their contents stay
pub beside-moved : (now next : Now) (v : View) → ((p b : ℕ) → next.content p b ≡ now.content p b) → Beside now v → Beside next v
beside-moved now next v same o = record {
  fills = o.fills;
  gives = o.gives;
  told = each-map (Tells now) (Tells next) (λ g e. e ∙ sym (same g.pool g.block)) v.gives o.told;
}

-- a step that leaves the event words and what is to be written
pub events-kept : (sys : System) (words after : List ℕ) (views : List View) (now next : Now) (id : ℕ) (v u : View) → get_elem? views id ≡ some v → Events sys words views now
    → ((w : ℕ) → 12936 ≤ w → get_or after w 0 ≡ get_or words w 0) → ((p b : ℕ) → next.content p b ≡ now.content p b) → u.fills ≡ v.fills → Beside next u → Events sys after (set views id u) next
events-kept sys words after views now next id v u at_id events stay same fills mine = record {
  few = λ p b h. rw same (events.few p b h);
  word = λ p b j h l none_left. let t = total-set (λ (z : View). many (is_fill p b j) z.fills) views id v u at_id in let e = ap (many (is_fill p b j)) fills in
      stay (event_word_at p b j) (omega arith) ∙ (events.word p b j h (subst (λ (c : List ℕ). j < length c) (same p b) l) (omega arith) ∙ ap (λ (c : List ℕ). get_or c j 0) (sym (same p b)));
  right = λ p b j n ne. let t = total-set (λ (z : View). many (fills_with p b j n) z.fills) views id v u at_id in let e = ap (many (fills_with p b j n)) fills in let r = events.right p b j n (λ q. ne (q ∙ ap (λ (c : List ℕ). get_or c j 0) (sym (same p b)))) in omega arith;
  beside = fits-set (Beside now) (Beside next) views id u (λ j z ne there o. beside-moved now next z same o) mine events.beside;
  event = λ p b h. subst (HasEvent sys) (sym (same p b)) (events.event p b h);
}

-- where the blocks that the lane has fresh stay too
pub events-same : (sys : System) (words after : List ℕ) (views : List View) (now next : Now) (id : ℕ) (v u : View) → get_elem? views id ≡ some v → Events sys words views now
    → ((w : ℕ) → 12936 ≤ w → get_or after w 0 ≡ get_or words w 0) → ((p b : ℕ) → next.content p b ≡ now.content p b) → u.fills ≡ v.fills → u.gives ≡ v.gives → u.fresh ≡ v.fresh → Events sys after (set views id u) next
events-same sys words after views now next id v u at_id events stay same fills gives fresh =
    let o = beside-moved now next v same (events.beside id v at_id) in
    events-kept sys words after views now next id v u at_id events stay same fills
    (record { fills = λ p b. rw (fills, fresh) (o.fills p b); gives = λ p b. rw (gives, fresh) (o.gives p b); told = rw gives o.told })
