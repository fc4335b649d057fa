-- A look at a word keeps the rule, with a record of what it shows or with none.
use Rattle.std.proofs.Common.{◌≡◌, ℕ, ◌+◌, ◌-◌, ◌/◌, ◌%◌, ◌<◌, ◌≤◌, List, [], ◌∷◌, ◌++◌, Bool, true, false, not, cond, length, set, get_or, refl, sym, ap, subst, ◌∙◌, arith, IsTrue, Some, true≢false}
use mathlib.Core.Option.{some}
use lib.ListN.{get_elem?}
use Rattle.qp_model.specs.declared.record.Rec.{Rec}
use Rattle.qp_model.specs.declared.bodies.Body.TheVariants.{Short, NoBlock, Nil, Seen as seen_body, Full, NoEntry, NoLifo}
use Rattle.qp_model.specs.declared.systems.System.{System}
use Rattle.qp_model.specs.Record.{Item, item_of, body_of, body_at}
use Rattle.qp_model.specs.declared.words.Word.{Word}
use Rattle.qp_model.specs.History.{drawn_on, touch, hist, all_items}
use Rattle.qp_model.specs.Sites.{ring_of, blocks_of}
use Rattle.qp_model.specs.WordLaw.{is_pool, is_block, is_object}
use Rattle.qp_model.specs.declared.words.Word.TheVariants as word
use Rattle.qp_model.specs.Machine.{after}
use Rattle.qp_model.specs.FreeBlocks.{Pool, free_blocks}
use Rattle.qp_model.specs.Lives.{life_of}
use Rattle.qp_chart.specs.StateTree.{has}
use Rattle.qp_model.proofs.LifeLemmas.{free-out}
use Rattle.qp_table.proofs.Bounds.{refs-named}
use Rattle.qp_table.proofs.Counting.{each-snoc}
use Rattle.qp_table.proofs.Steps.{pool-of}
use Rattle.qp_table.specs.Counting.{Each, sum_over, many}
use Rattle.qp_table.specs.Now.{Now, LeavesWords}
use Rattle.qp_table.specs.Rule.{pool_at, block_at, queue_at, lifo_on, took_on, gives_of, is_ref, Tells, Tokens, event_of_content, IsKnown, Holds}
use Rattle.qp_table.specs.After.{rec_of, ref, learned, glanced, noted, reading, give_read, read_from, HasRoom}
use Rattle.qp_table.specs.declared.view.SeatLog.{SeatLog}
use Rattle.qp_table.specs.declared.view.PendingGive.{PendingGive}
use Rattle.qp_table.specs.declared.view.View.{View}
use Rattle.qp_table.proofs.Records.{short-leaves, no_block-leaves, seen-leaves, nil-leaves, full-leaves, no_entry-leaves, no_lifo-leaves}
use Rattle.qp_table.proofs.Views.{quiet-same, quiet-noted, seen-looked, seen-kept}
use Rattle.qp_table.proofs.Tokens.{tokens-set, begun-kept, worn-kept, held-stands, standing, above-at}
use Rattle.qp_table.proofs.Kept.{events-kept, events-same, queues-kept}
use Rattle.qp_table.proofs.Step.{Lane, lane, leaves-here, shown-step, plain-step}
use Rattle.qp_table.proofs.Marks.{line-shows}
use Rattle.qp_table.proofs.Growth.{grows-none, tracks-first}

pub short-says : (o p n free reserve : ℕ) → item_of (rec_of 16 o (p ∷ n ∷ free ∷ reserve ∷ [])) ≡ record { of = o; body = Short p n free reserve }
unfolding item_of body_of body_at
short-says o p n free reserve = refl

pub no_block-says : (o p n : ℕ) → item_of (rec_of 42 o (2 ∷ p ∷ n ∷ 0 ∷ [])) ≡ record { of = o; body = NoBlock p n 0 }
unfolding item_of body_of body_at
no_block-says o p n = refl

pub seen-says : (p f l m : ℕ) → item_of (rec_of 7 0 (p ∷ f ∷ l ∷ m ∷ [])) ≡ record { of = 0; body = seen_body p f l m }
unfolding item_of body_of body_at
seen-says p f l m = refl

pub nil-says : (a f l m : ℕ) → item_of (rec_of 6 a (f ∷ l ∷ m ∷ [])) ≡ record { of = a; body = Nil f l m }
unfolding item_of body_of body_at
nil-says a f l m = refl

pub full-says : (o a f l m margin : ℕ) → item_of (rec_of 22 o (a ∷ f ∷ l ∷ m ∷ margin ∷ [])) ≡ record { of = o; body = Full a f l m margin }
unfolding item_of body_of body_at
full-says o a f l m margin = refl

pub no_entry-says : (o a f l m : ℕ) → item_of (rec_of 42 o (1 ∷ a ∷ f ∷ l ∷ m ∷ [])) ≡ record { of = o; body = NoEntry a f l m }
unfolding item_of body_of body_at
no_entry-says o a f l m = refl

pub no_lifo-says : (o a f l m : ℕ) → item_of (rec_of 42 o (5 ∷ a ∷ f ∷ l ∷ m ∷ [])) ≡ record { of = o; body = NoLifo a f l m }
unfolding item_of body_of body_at
no_lifo-says o a f l m = refl

-- a read of a life's beginning changes no block and no event
reading-cons : (q c : ℕ) (t : Bool) (g : PendingGive) → cond {A = ℕ} (gives_of q c (give_read t g)) 1 0 ≡ cond (gives_of q c g) 1 0
reading-cons q c t g = refl

reading-many : (p b q c : ℕ) (gs : List PendingGive) → many (gives_of q c) (reading p b gs) ≡ many (gives_of q c) gs
reading-many p b q c [] = refl
reading-many p b q c (g ∷ gs) = let r = reading-many p b q c gs in let h = reading-cons q c (gives_of p b g) g in omega arith

reading-told : (p b : ℕ) (now : Now) (gs : List PendingGive) → Each (Tells now) gs → Each (Tells now) (reading p b gs)
reading-told p b now [] e = tt
reading-told p b now (g ∷ gs) e = (e.0, reading-told p b now gs e.1)

module _ (sys : System) (words : List ℕ) (views : List View) (holds : Holds sys words views) (id : ℕ) (v : View) (at_id : get_elem? views id ≡ some v) where
  abbrev now : Now
  now = holds.now

  tokens-same : (u : View) → u.fresh ≡ v.fresh → u.used ≡ v.used → u.hands ≡ v.hands → Tokens sys (set views id u) now
  tokens-same u fresh used hands = tokens-set sys views now now id v u at_id holds.tokens (λ p b. rw (fresh, used) refl) (λ p b k l. rw hands refl)
      (begun-kept sys views now now id v u at_id holds.tokens fresh (λ p b. refl) (λ p b. refl))
      (worn-kept sys views now now id v u at_id holds.tokens used (λ p b. refl) (λ p b. refl))
      holds.tokens.named

  -- A look without a record, by any view
  pub looks : (w : ℕ) → w < 4488 → Holds sys words (set views id (glanced v w (get_or words w 0)))
  looks w low = let u : View = glanced v w (get_or words w 0) in
      plain-step sys words words views holds id v u at_id holds.items holds.shows (tokens-same u refl refl refl)
      (events-same sys words words views now now id v u at_id holds.events (λ y h. refl) (λ p b. refl) refl refl refl)
      (queues-kept sys words words views now now holds.items id v u at_id holds.queues (λ a j h l. refl) (λ a. refl) refl refl refl (quiet-same v u refl))
      refl refl (λ nothing. let i = holds.idle id v at_id nothing in record { fresh = i.fresh; used = i.used; hands = i.hands; gives = i.gives; fills = i.fills; claims = i.claims; takes = i.takes })
      (seen-looked words words views holds.was id v u w (get_or words w 0) holds.seen at_id low (λ x l. refl) refl refl) (holds.contents id v at_id)

  -- Who holds a reference learns the event of its life, which is the block's content
  pub learns : (p b k : ℕ) → IsTrue (is_block sys p b) → 0 < many (is_ref p b k) v.hands → Holds sys words (set views id (learned v (ref p b k) (now.content p b)))
  learns p b k block mine = let u : View = learned v (ref p b k) (now.content p b) in
      let z = holds.fitting.pools p b block in let there = held-stands sys views now id v at_id holds.tokens p b k z.0 mine in let alone = standing sys views now id v at_id holds.tokens p b k there in
      let inside = pool-of sys p b block in
      plain-step sys words words views holds id v u at_id holds.items holds.shows (tokens-same u refl refl refl)
      (events-same sys words words views now now id v u at_id holds.events (λ y h. refl) (λ q c. refl) refl refl refl)
      (queues-kept sys words words views now now holds.items id v u at_id holds.queues (λ a j h l. refl) (λ a. refl) refl refl refl (quiet-same v u refl))
      refl refl (λ nothing. let i = holds.idle id v at_id nothing in record { fresh = i.fresh; used = i.used; hands = i.hands; gives = i.gives; fills = i.fills; claims = i.claims; takes = i.takes })
      (seen-kept words words views holds.was id v u holds.seen at_id (λ x l. refl) refl)
      (each-snoc (IsKnown sys holds.lanes now) v.contents (record { entry = ref p b k; event = now.content p b }) (holds.contents id v at_id)
      (record {
        static = λ none_there. let zero_pool = z.0 in absurd (omega arith);
        block = λ pos. block;
        made = λ pos. refs-named sys holds.lanes now holds.leaves holds.logs.count holds.logs.room p b k block there;
        given = λ pos. tracks-first b k (hist (word.Pool p) (all_items holds.lanes)) (out-is inside.0 inside.1 alone.1)
            (let e = holds.leaves.edge p b block in let a = above-at (now.edge p b) k (now.refs p b).names (holds.tokens.named p b) there in omega arith)
            ∙ ap (λ (c : List ℕ). Some (event_of_content c)) (holds.leaves.content p b block);
      }))
    where
      not-case : (x f : Bool) → f ≡ not x → f ≡ false → x ≡ true
      not-case true f e n = refl
      not-case false f e n = let y : true ≡ false = sym e ∙ n in absurd (true≢false y)

      out-is : is_pool sys p ≡ true → b < blocks_of sys p → has (now.pool p).free b ≡ false → (after (life_of b) (hist (word.Pool p) (all_items holds.lanes))).out ≡ true
      out-is pool below taken = not-case (after (life_of b) (hist (word.Pool p) (all_items holds.lanes))).out (has (after (free_blocks (blocks_of sys p)) (hist (word.Pool p) (all_items holds.lanes))).free b)
          (free-out (blocks_of sys p) b (hist (word.Pool p) (all_items holds.lanes)) below) (ap (λ (t : Pool). has t.free b) (holds.leaves.pool p pool) ∙ taken)

  -- A look at a block's word: where its give is under way in this view, the beginning of its life is read
  pub looks_from : (p b : ℕ) → block_at p b < 4488 → Holds sys words (set views id (read_from v (block_at p b) (get_or words (block_at p b) 0) p b))
  looks_from p b low = let u : View = read_from v (block_at p b) (get_or words (block_at p b) 0) p b in let o = holds.events.beside id v at_id in
      plain-step sys words words views holds id v u at_id holds.items holds.shows (tokens-same u refl refl refl)
      (events-kept sys words words views now now id v u at_id holds.events (λ y h. refl) (λ q c. refl) refl
      (record { fills = o.fills; gives = λ q c. rw (reading-many p b q c v.gives) (o.gives q c); told = reading-told p b now v.gives o.told }))
      (queues-kept sys words words views now now holds.items id v u at_id holds.queues (λ a j h l. refl) (λ a. refl) refl refl refl (quiet-same v u refl))
      refl refl (λ nothing. let i = holds.idle id v at_id nothing in record { fresh = i.fresh; used = i.used; hands = i.hands; gives = ap (reading p b) i.gives; fills = i.fills; claims = i.claims; takes = i.takes })
      (seen-looked words words views holds.was id v u (block_at p b) (get_or words (block_at p b) 0) holds.seen at_id low (λ x l. refl) refl refl) (holds.contents id v at_id)

  module _ (own : HasRoom v) where
    few : length own.own.recs ≤ 1000000
    few = let r : sum_over (λ (g : SeatLog). length g.recs) (own.own ∷ own.others) < 1000001 = subst (λ (ls : List SeatLog). sum_over (λ (g : SeatLog). length g.recs) ls < 1000001) own.is own.room in omega arith

    abbrev at_lane : Lane holds.lanes own.own
    at_lane = lane sys words views holds id v at_id own.own own.others own.is few

    leaves : LeavesWords sys (at_lane.before ++ own.own.recs ∷ at_lane.behind) now
    leaves = leaves-here sys words views holds id v at_id own.own own.others own.is few

    -- with a record of what the word shows
    shows : (w : ℕ) (r : Rec) (i : Item) → item_of r ≡ i → ((a : ℕ) → lifo_on a i.of i.body ≡ false) → ((a : ℕ) → took_on a i.of i.body ≡ false) → ((y : Word) → drawn_on y (touch i) ≡ false) → w < 4488 → LeavesWords sys (at_lane.before ++ (own.own.recs ++ r ∷ []) ∷ at_lane.behind) now → Holds sys words (set views id (noted v w (get_or words w 0) r))
    shows w r i is no_lifo no_take undrawn low more = let u : View = noted v w (get_or words w 0) r in
        shown-step sys words views holds id v at_id own.own own.others own.is few w r u more (tokens-same u refl refl refl)
        (events-same sys words words views now now id v u at_id holds.events (λ y h. refl) (λ p b. refl) refl refl refl)
        (queues-kept sys words words views now now holds.items id v u at_id holds.queues (λ a j h l. refl) (λ a. refl) refl refl refl (quiet-noted r i v u is no_lifo no_take refl))
        low refl refl refl refl i (grows-none sys at_lane.before own.own.recs at_lane.behind now leaves r i is undrawn)

    module _ (p : ℕ) (pool : IsTrue (is_pool sys p)) where
      low : pool_at p < 4488
      low = let z = (holds.fitting.small p pool).0 in omega arith

      -- At most the reserve is free; the record states the free blocks
      pub shows-short : (o reserve : ℕ) (r : Rec) → item_of r ≡ record { of = o; body = Short p (now.pool p).count (length (now.pool p).free) reserve } → length (now.pool p).free ≤ reserve → Holds sys words (set views id (noted v (pool_at p) (get_or words (pool_at p) 0) r))
      shows-short o reserve r says few_free = shows (pool_at p) r _ says (λ a. refl) (λ a. refl) (λ y. refl) low (short-leaves sys at_lane.before own.own.recs at_lane.behind now leaves r p pool o reserve says few_free)

      pub shows-no_block : (o : ℕ) (r : Rec) → item_of r ≡ record { of = o; body = NoBlock p (now.pool p).count 0 } → length (now.pool p).free ≡ 0 → Holds sys words (set views id (noted v (pool_at p) (get_or words (pool_at p) 0) r))
      shows-no_block o r says none_free = shows (pool_at p) r _ says (λ a. refl) (λ a. refl) (λ y. refl) low (no_block-leaves sys at_lane.before own.own.recs at_lane.behind now leaves r p pool o says none_free)

    module _ (a : ℕ) (object : IsTrue (is_object sys a)) where
      abbrev w : ℕ
      w = get_or words (queue_at a) 0

      high : queue_at a < 4488
      high = let z = (holds.fitting.objects a object).0 in omega arith

      abbrev f : ℕ
      f = w % 2097152

      abbrev l : ℕ
      l = w / 2097152 % 2097152

      abbrev m : ℕ
      m = w / 4398046511104

      pub shows-seen : (o : ℕ) (r : Rec) → item_of r ≡ record { of = o; body = seen_body a f l m } → Holds sys words (set views id (noted v (queue_at a) w r))
      shows-seen o r says = let s = line-shows sys words views holds a object in let s0 = s.0 in let s1 = s.1 in let s2 = s.2 in
          shows (queue_at a) r _ says (λ b. refl) (λ b. refl) (λ y. refl) high (seen-leaves sys at_lane.before own.own.recs at_lane.behind now leaves r a object o (says ∙ (λ i. record { of = o; body = seen_body a (s0 i) (s1 i) (s2 i) })))

      pub shows-nil : (r : Rec) → item_of r ≡ record { of = a; body = Nil f l m } → f + l ≡ m → Holds sys words (set views id (noted v (queue_at a) w r))
      shows-nil r says empty = let s = line-shows sys words views holds a object in let s0 = s.0 in let s1 = s.1 in let s2 = s.2 in
          shows (queue_at a) r _ says (λ b. refl) (λ b. refl) (λ y. refl) high (nil-leaves sys at_lane.before own.own.recs at_lane.behind now leaves r a object (says ∙ (λ i. record { of = a; body = Nil (s0 i) (s1 i) (s2 i) })) (omega arith))

      -- At most the margin is free
      pub shows-full : (o margin : ℕ) (r : Rec) → item_of r ≡ record { of = o; body = Full a f l m margin } → ring_of sys a + 1 - (f + l - m) ≤ margin → Holds sys words (set views id (noted v (queue_at a) w r))
      shows-full o margin r says few_free = let s = line-shows sys words views holds a object in let s0 = s.0 in let s1 = s.1 in let s2 = s.2 in
          shows (queue_at a) r _ says (λ b. refl) (λ b. refl) (λ y. refl) high (full-leaves sys at_lane.before own.own.recs at_lane.behind now leaves r a object o margin (says ∙ (λ i. record { of = o; body = Full a (s0 i) (s1 i) (s2 i) margin })) (omega arith))

      pub shows-no_entry : (o : ℕ) (r : Rec) → item_of r ≡ record { of = o; body = NoEntry a f l m } → f + l - m ≡ ring_of sys a + 1 → Holds sys words (set views id (noted v (queue_at a) w r))
      shows-no_entry o r says full = let s = line-shows sys words views holds a object in let s0 = s.0 in let s1 = s.1 in let s2 = s.2 in
          shows (queue_at a) r _ says (λ b. refl) (λ b. refl) (λ y. refl) high (no_entry-leaves sys at_lane.before own.own.recs at_lane.behind now leaves r a object o (says ∙ (λ i. record { of = o; body = NoEntry a (s0 i) (s1 i) (s2 i) })) (omega arith))

      pub shows-no_lifo : (o : ℕ) (r : Rec) → item_of r ≡ record { of = o; body = NoLifo a f l m } → f + l - m ≡ ring_of sys a + 1 → Holds sys words (set views id (noted v (queue_at a) w r))
      shows-no_lifo o r says full = let s = line-shows sys words views holds a object in let s0 = s.0 in let s1 = s.1 in let s2 = s.2 in
          shows (queue_at a) r _ says (λ b. refl) (λ b. refl) (λ y. refl) high (no_lifo-leaves sys at_lane.before own.own.recs at_lane.behind now leaves r a object o (says ∙ (λ i. record { of = o; body = NoLifo a (s0 i) (s1 i) (s2 i) })) (omega arith))
