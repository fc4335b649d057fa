-- Each kind of step on a block or a pool keeps the rule, from any state that meets it.
use Rattle.std.proofs.Common.{◌≡◌, ℕ, suc, ◌+◌, ◌-◌, ◌*◌, ◌/◌, ◌^◌, ◌<◌, ◌≤◌, nat_lt, List, [], ◌∷◌, ◌++◌, Bool, true, false, cond, length, set, get_or, refl, sym, ap, subst, ◌∙◌, arith, eqb, true≢false, IsTrue, get_or-set_other, take_all}
use Rattle.std.proofs.lemmas.Bool.{and_parts}
use Rattle.std.proofs.lemmas.Bool.Decides.{nat_tests}
use mathlib.Core.Option.{some}
use lib.ListN.{get_elem?}
use Rattle.qp_chart.specs.StateTree.{has}
use Rattle.qp_model.specs.declared.record.Rec.{Rec}
use Rattle.qp_model.specs.declared.bodies.Body.{Body}
use Rattle.qp_model.specs.declared.bodies.Body.TheVariants.{New, Inc, Dec, Back}
use Rattle.qp_model.specs.declared.systems.System.{System}
use Rattle.qp_model.specs.declared.words.Word.TheVariants as word
use Rattle.qp_model.specs.Record.{Item, item_of, body_of, body_at}
use Rattle.qp_model.specs.History.{Draws, hist, touch, all_items}
use Rattle.qp_model.specs.Machine.{after}
use Rattle.qp_model.specs.FreeBlocks.{Pool}
use Rattle.qp_model.specs.References.{Refs, references}
use Rattle.qp_model.specs.Lives.{is_empty, refs_at}
use Rattle.qp_model.specs.Lists.{without_one, without_all, with_number, is_first}
use Rattle.qp_model.specs.Sites.{blocks_of}
use Rattle.qp_model.specs.WordLaw.{is_pool, is_block}
use Rattle.qp_model.proofs.LifeLemmas.{edge-within}
use Rattle.qp_table.specs.Counting.{Each, sum_over, many, without}
use Rattle.qp_table.specs.Now.{Now, with_refs, LeavesWords}
use Rattle.qp_table.specs.Rule.{pool_at, block_at, cell_at, fills_of, gives_of, is_spot, is_spot_at, is_ref, lives, refs_value, bits_value, IsContent, Tells, Beside, Tokens, Holds}
use Rattle.qp_table.specs.After.{rec_of, spot, ref, logged, began, doubled, reference_dropped, gave, put_back, HasRoom}
use Rattle.qp_table.specs.declared.view.SeatLog.{SeatLog}
use Rattle.qp_table.specs.declared.view.PendingGive.{PendingGive}
use Rattle.qp_table.specs.declared.view.View.{View}
use Rattle.qp_table.proofs.Growing.{inc-leaves, dec-leaves, block-count}
use Rattle.qp_table.proofs.Records.{alive-begun, alive-standing, new-leaves, back-leaves}
use Rattle.qp_table.proofs.Bounds.{pool-ascends, pool-count, refs-count, bits-on, bits-off, map-small}
use Rattle.qp_table.proofs.Contents.{gave-events, two-same}
use Rattle.qp_table.proofs.Tokens.{b2n, spot-same, spot-self, spot-else, at-some, each-two, fresh-alone, used-alone, standing, held-stands, dec-length, many-has}
use Rattle.qp_table.proofs.Counting.{total-at, many-without}
use Rattle.qp_table.proofs.Kept.{events-kept, events-same, shows-block, shows-pool, queues-kept}
use Rattle.qp_table.proofs.Views.{Quiet, quiet-noted}
use Rattle.qp_table.proofs.Step.{Lane, lane, leaves-here, drawn-step}
use Rattle.qp_table.proofs.Marks.{low-mark}
use Rattle.qp_table.proofs.Growth.{grows-block, grows-pool, new-still, back-still}
use Rattle.qp_table.proofs.Sums.{began-tokens, doubled-tokens, dropped-tokens, gave-tokens, back-tokens}

-- what the records say
pub inc-says : (o p b k : ℕ) → item_of (rec_of 17 o (p ∷ b ∷ k ∷ [])) ≡ record { of = o; body = Inc p b k }
unfolding item_of body_of body_at
inc-says o p b k = refl

pub dec-says : (o p b k r : ℕ) → item_of (rec_of 18 o (p ∷ b ∷ k ∷ r ∷ [])) ≡ record { of = o; body = Dec p b k r }
unfolding item_of body_of body_at
dec-says o p b k r = refl

pub new-says : (o p k b from sig : ℕ) (pars : List ℕ) → item_of (rec_of 15 o (p ∷ k ∷ b ∷ from ∷ sig ∷ pars)) ≡ record { of = o; body = New p k b from sig pars }
unfolding item_of body_of body_at
new-says o p k b from sig pars = refl

pub back-says : (o p k b to : ℕ) → item_of (rec_of 19 o (p ∷ k ∷ b ∷ to ∷ [])) ≡ record { of = o; body = Back p k b to }
unfolding item_of body_of body_at
back-says o p k b to = refl

pub pool-of : (sys : System) (p b : ℕ) → is_block sys p b ≡ true → (is_pool sys p ≡ true) × (b < blocks_of sys p)
unfolding is_block
pool-of sys p b h = let t = and_parts (is_pool sys p) (nat_lt b (blocks_of sys p)) h in let z : nat_lt b (blocks_of sys p) ≡ true = t.1 in let lt : b < blocks_of sys p = grind (arith, nat_tests) in (t.0, lt)

none-empty : (xs : List ℕ) → lives xs ≡ 0 → is_empty xs ≡ true
none-empty [] e = refl
none-empty (x ∷ xs) e = absurd (omega arith)

none-at : (h : List Item) (s : Refs) → after references h ≡ s → is_empty s.names ≡ true → is_empty (refs_at (length h) h) ≡ true
unfolding refs_at
none-at h s is empty = ap (λ t. is_empty (after references t).names) (take_all (length h) h (omega arith)) ∙ (ap (λ (s : Refs). is_empty s.names) is ∙ empty)

-- what a record says, with an equal number
abbrev item : ℕ → Body → Item
item o x = record { of = o; body = x }

inc-item : (o p b k n : ℕ) → k ≡ n → item o (Inc p b k) ≡ item o (Inc p b n)
inc-item o p b k n e = λ i. item o (Inc p b (e i))

dec-item : (o p b k n j : ℕ) → k ≡ n → item o (Dec p b k j) ≡ item o (Dec p b n j)
dec-item o p b k n j e = λ i. item o (Dec p b (e i) j)

new-item : (o p k n b from sig : ℕ) (pars : List ℕ) → k ≡ n → item o (New p k b from sig pars) ≡ item o (New p n b from sig pars)
new-item o p k n b from sig pars e = λ i. item o (New p (e i) b from sig pars)

back-item : (o p k n b to : ℕ) → k ≡ n → item o (Back p k b to) ≡ item o (Back p n b to)
back-item o p k n b to e = λ i. item o (Back p (e i) b to)

module _ {A : Type 0} where
  each-without-cons : (t : A → Bool) (P : A → Type 0) (b : Bool) (x : A) (xs : List A) → P x × Each P xs → Each P (without t xs) → Each P (cond b xs (x ∷ without t xs))
  each-without-cons t P true x xs e h = e.1
  each-without-cons t P false x xs e h = (e.0, h)

  each-without : (t : A → Bool) (P : A → Type 0) (xs : List A) → Each P xs → Each P (without t xs)
  each-without t P [] e = tt
  each-without t P (x ∷ xs) e = each-without-cons t P (t x) x xs e (each-without t P xs e.1)

  without-cons : (p q : A → Bool) (t : Bool) (x : A) (xs : List A) → many q (without p xs) ≤ many q xs → many q (cond t xs (x ∷ without p xs)) ≤ b2n (q x) + many q xs
  without-cons p q true x xs h = omega arith
  without-cons p q false x xs h = omega arith

  without-le : (p q : A → Bool) (xs : List A) → many q (without p xs) ≤ many q xs
  without-le p q [] = omega arith
  without-le p q (x ∷ xs) = without-cons p q (p x) x xs (without-le p q xs)

-- the give is gone with its block
fewer-gives : (p b : ℕ) (gs : List PendingGive) → many (gives_of p b) (without (gives_of p b) gs) ≤ many (gives_of p b) gs - 1
fewer-gives p b [] = omega arith
fewer-gives p b (g ∷ gs) = go (gives_of p b g) refl (fewer-gives p b gs)
  where
    go : (t : Bool) → gives_of p b g ≡ t → many (gives_of p b) (without (gives_of p b) gs) ≤ many (gives_of p b) gs - 1 → many (gives_of p b) (cond t gs (g ∷ without (gives_of p b) gs)) ≤ cond {A = ℕ} t 1 0 + many (gives_of p b) gs - 1
    go true e r = omega arith
    go false e r = let z = ap b2n e in omega arith

module _ (sys : System) (words : List ℕ) (views : List View) (holds : Holds sys words views) (id : ℕ) (v : View) (at_id : get_elem? views id ≡ some v) (own : HasRoom v) (o p b : ℕ) where
  abbrev now : Now
  now = holds.now

  few : length own.own.recs ≤ 1000000
  few = let r : sum_over (λ (g : SeatLog). length g.recs) (own.own ∷ own.others) < 1000001 = subst (λ (ls : List SeatLog). sum_over (λ (g : SeatLog). length g.recs) ls < 1000001) own.is own.room in omega arith

  abbrev at_lane : Lane holds.lanes own.own
  at_lane = lane sys words views holds id v at_id own.own own.others own.is few

  abbrev refs : Refs
  refs = now.refs p b

  -- the block's word
  abbrev x : ℕ
  x = get_or words (block_at p b) 0

  module _ (block : IsTrue (is_block sys p b)) where
    pub in-pool : (is_pool sys p ≡ true) × (b < blocks_of sys p)
    in-pool = pool-of sys p b block

    pub x-is : (x ≡ refs.count * 4294967296 + length refs.names) × (refs.count ≤ 49000049) × (length refs.names ≤ refs.count)
    x-is = let r = refs-count sys holds.lanes now holds.leaves holds.logs.count holds.logs.room p b block in (holds.shows.blocks p b block, r.0, r.1)

    pub x-count : x / 4294967296 ≡ refs.count
    x-count = let e = x-is in let e0 = e.0 in let e1 = e.1 in let e2 = e.2 in omega arith

    low : block_at p b < 4224
    low = let z = holds.fitting.pools p b block in let z1 = z.1 in let z2 = z.2 in omega arith

    leaves : LeavesWords sys (at_lane.before ++ own.own.recs ∷ at_lane.behind) now
    leaves = leaves-here sys words views holds id v at_id own.own own.others own.is few

    -- a step on the block's word, after which it holds s
    block-step : (n : ℕ) (r : Rec) (s : Refs) (u : View) → LeavesWords sys (at_lane.before ++ (own.own.recs ++ r ∷ []) ∷ at_lane.behind) (with_refs now p b s) → Tokens sys (set views id u) (with_refs now p b s)
        → Beside now u → u.fills ≡ v.fills → n ≡ refs_value s → s.count ≡ refs.count + 1 → length s.names ≤ length refs.names + 1
        → u.logs ≡ logged r v.logs → u.lane_numbers ≡ v.lane_numbers → u.seen ≡ v.seen ++ record { word = block_at p b; value = n } ∷ [] → u.claims ≡ v.claims → u.takes ≡ v.takes → u.serves ≡ v.serves → Quiet v u → u.contents ≡ v.contents → (i : Item) → item_of r ≡ i → touch i ≡ Draws (word.Block p b) (suc refs.count)
        → Holds sys (set words (block_at p b) n) (set views id u)
    block-step n r s u more tokens beside fills is count names logs rest seen claims takes serves quiet contents i says on =
        let e = x-is in let e0 = e.0 in let e1 = e.1 in let e2 = e.2 in let l = low in
        drawn-step sys words views holds id v at_id own.own own.others own.is few (block_at p b) n r (with_refs now p b s) holds.items u more
        (shows-block sys holds.fitting words now holds.shows p b n s block is)
        tokens
        (events-kept sys words (set words (block_at p b) n) views now (with_refs now p b s) id v u at_id holds.events (λ y h. get_or-set_other words (block_at p b) y n 0 (λ z. absurd (omega arith))) (λ q c. refl) fills
        (record { fills = beside.fills; gives = beside.gives; told = beside.told }))
        (queues-kept sys words (set words (block_at p b) n) views now (with_refs now p b s) holds.items id v u at_id holds.queues
        (λ a j h lt. get_or-set_other words (block_at p b) (cell_at a j) n 0 (λ z. absurd (omega arith))) (λ a. refl) claims takes serves quiet)
        (omega arith) (let old = low-mark (block_at p b) x l in let new = low-mark (block_at p b) n l in omega arith) logs rest seen contents i
        (grows-block sys at_lane.before own.own.recs at_lane.behind now leaves r i says p b s block on (omega arith))

    -- the life's edge lies within the block's operations
    within : now.edge p b ≤ refs.count
    within = let w = edge-within b (hist (word.Pool p) (all_items holds.lanes)) (hist (word.Block p b) (all_items holds.lanes)) (holds.leaves.law.lives p b block) in
        let a = holds.leaves.edge p b block in let c = block-count sys at_lane.before own.own.recs at_lane.behind now leaves (rec_of 0 0 []) p b block in let d : length (hist (word.Block p b) (all_items holds.lanes)) ≡ refs.count = ap (λ l. length (hist (word.Block p b) (all_items l))) at_lane.is ∙ c in omega arith

    -- The first reference to a block
    pub begins : (n : ℕ) (r : Rec) → item_of r ≡ record { of = o; body = Inc p b (x / 4294967296) } → 0 < many (is_spot p b) v.fresh → many (fills_of p b) v.fills ≡ 0 → n ≡ x + 4294967297
        → Holds sys (set words (block_at p b) n) (set views id (began v (block_at p b) n r p b (x / 4294967296)))
    begins n r says mine written new =
        let u : View = began v (block_at p b) n r p b (x / 4294967296) in
        let alone = fresh-alone sys views now id v at_id holds.tokens p b mine in
        let at = at-some p b v.fresh mine in let life = holds.tokens.begun p b at.0 (let t = total-at (λ (z : View). many (is_spot_at p b at.0) z.fresh) views id v at_id in let a1 = at.1 in omega arith) in
        let e = x-is in let e0 = e.0 in let k = x-count in let z = holds.fitting.pools p b block in let o = holds.events.beside id v at_id in
        let less : (q c : ℕ) → many (is_spot q c) u.fresh + b2n (is_spot q c (spot p b 0)) ≡ many (is_spot q c) v.fresh = (λ q c. many-without (is_spot p b) (is_spot q c) (is_spot q c (spot p b 0)) (λ x e. spot-same p b 0 q c x e) v.fresh mine) in
        block-step n r (record { count = refs.count + 1; names = refs.count ∷ refs.names }) u
        (inc-leaves sys at_lane.before own.own.recs at_lane.behind now leaves r p b block _ (says ∙ inc-item _ p b (x / 4294967296) refs.count k) (alive-begun sys at_lane.before own.own.recs at_lane.behind now leaves p b block in-pool.0 in-pool.1 alone.1 (life.0 ∙ sym life.1)))
        (began-tokens sys views now id v u at_id holds.tokens p b z.0 mine refl refl (ap (λ y. v.hands ++ ref p b y ∷ []) k))
        (record {
          fills = each-two (λ q c. many (fills_of q c) v.fills ≤ 9 * many (is_spot q c) u.fresh) p b (omega arith) (λ q c ne. let f = o.fills q c in let m = less q c in let y = ap b2n (spot-else p b 0 q c ne) in omega arith);
          gives = each-two (λ q c. many (gives_of q c) u.gives ≤ many (is_spot q c) u.fresh) p b
              (let g = o.gives p b in let m = less p b in let s = ap b2n (spot-self p b 0) in let f = fewer-gives p b v.gives in let one = alone.4 in let t = total-at (λ (z : View). many (is_spot p b) z.fresh) views id v at_id in omega arith)
              (λ q c ne. let g = o.gives q c in let m = less q c in let y = ap b2n (spot-else p b 0 q c ne) in let f = without-le (gives_of p b) (gives_of q c) v.gives in omega arith);
          told = each-without (gives_of p b) (Tells now) v.gives o.told;
        })
        refl (omega arith) refl (omega arith) refl refl refl refl refl refl (quiet-noted r _ v u says (λ a. refl) (λ a. refl) refl) refl _ says (ap (λ y. Draws (word.Block p b) (suc y)) k)

    -- Another reference
    pub doubles : (j n : ℕ) (r : Rec) → item_of r ≡ record { of = o; body = Inc p b (x / 4294967296) } → 0 < many (is_ref p b j) v.hands → n ≡ x + 4294967297
        → Holds sys (set words (block_at p b) n) (set views id (doubled v (block_at p b) n r p b (x / 4294967296)))
    doubles j n r says mine new =
        let u : View = doubled v (block_at p b) n r p b (x / 4294967296) in
        let z = holds.fitting.pools p b block in let there = held-stands sys views now id v at_id holds.tokens p b j z.0 mine in let alone = standing sys views now id v at_id holds.tokens p b j there in
        let e = x-is in let e0 = e.0 in let k = x-count in let beside = holds.events.beside id v at_id in
        block-step n r (record { count = refs.count + 1; names = refs.count ∷ refs.names }) u
        (inc-leaves sys at_lane.before own.own.recs at_lane.behind now leaves r p b block _ (says ∙ inc-item _ p b (x / 4294967296) refs.count k) (alive-standing sys at_lane.before own.own.recs at_lane.behind now leaves p b block in-pool.0 in-pool.1 alone.1 alone.2))
        (doubled-tokens sys views now id v u at_id holds.tokens p b j z.0 mine within refl refl (ap (λ y. v.hands ++ ref p b y ∷ []) k))
        (record { fills = beside.fills; gives = beside.gives; told = beside.told }) refl (omega arith) refl (omega arith) refl refl refl refl refl refl (quiet-noted r _ v u says (λ a. refl) (λ a. refl) refl) refl _ says (ap (λ y. Draws (word.Block p b) (suc y)) k)

    -- A reference is dropped
    pub drops : (j n : ℕ) (r : Rec) → item_of r ≡ record { of = o; body = Dec p b (x / 4294967296) j } → 0 < many (is_ref p b j) v.hands → n ≡ x + 4294967295
        → Holds sys (set words (block_at p b) n) (set views id (reference_dropped v (block_at p b) n r p b j))
    drops j n r says mine new =
        let u : View = reference_dropped v (block_at p b) n r p b j in
        let z = holds.fitting.pools p b block in let there = held-stands sys views now id v at_id holds.tokens p b j z.0 mine in let alone = standing sys views now id v at_id holds.tokens p b j there in
        let e = x-is in let e0 = e.0 in let e1 = e.1 in let e2 = e.2 in let k = x-count in let one = dec-length j refs.names there in let beside = holds.events.beside id v at_id in
        block-step n r (record { count = refs.count + 1; names = without_one j refs.names }) u
        (dec-leaves sys at_lane.before own.own.recs at_lane.behind now leaves r p b block _ j (says ∙ dec-item _ p b (x / 4294967296) refs.count j k) (alive-standing sys at_lane.before own.own.recs at_lane.behind now leaves p b block in-pool.0 in-pool.1 alone.1 alone.2) (many-has j refs.names there))
        (dropped-tokens sys views now id v u at_id holds.tokens p b j n z.0 mine (omega arith) (omega arith) within refl refl refl)
        (record { fills = beside.fills; gives = beside.gives; told = beside.told }) refl (omega arith) refl (omega arith) refl refl refl refl refl refl (quiet-noted r _ v u says (λ a. refl) (λ a. refl) refl) refl _ says (ap (λ y. Draws (word.Block p b) (suc y)) k)

    -- how large the block's word is
    pub block-below : x < 49000050 * 4294967296
    block-below = let e = x-is in let e0 = e.0 in let e1 = e.1 in let e2 = e.2 in omega arith

    -- the pool's word
    abbrev y : ℕ
    y = get_or words (pool_at p) 0

    abbrev pool : Pool
    pool = now.pool p

    pub y-is : (y ≡ pool.count * 4294967296 + bits_value pool.free) × (pool.count ≤ 49000049) × (bits_value pool.free < 4294967296)
    y-is = let a = pool-ascends sys holds.lanes now holds.leaves holds.logs.count holds.logs.room p in-pool.0 in
        (holds.shows.pools p in-pool.0, pool-count sys holds.lanes now holds.leaves holds.logs.count holds.logs.room p in-pool.0, map-small (blocks_of sys p) pool.free (holds.fitting.small p in-pool.0).1 a)

    hist-length : length (hist (word.Block p b) (all_items (at_lane.before ++ own.own.recs ∷ at_lane.behind))) ≡ refs.count
    hist-length = block-count sys at_lane.before own.own.recs at_lane.behind now leaves (rec_of 0 0 []) p b block

    -- The lowest free block is given out
    pub gives : (n sig : ℕ) (pars : List ℕ) (r : Rec) → item_of r ≡ record { of = o; body = New p (y / 4294967296) b refs.count sig pars } → IsContent sys sig pars → length pars ≤ 8 → is_first b pool.free ≡ true → n + 2 ^ b ≡ y + 4294967296
        → Holds sys (set words (pool_at p) n) (set views id (gave v (pool_at p) n r p b refs.count (sig ∷ pars)))
    gives n sig pars r says content short first new =
        let u : View = gave v (pool_at p) n r p b refs.count (sig ∷ pars) in
        let e = y-is in let e0 = e.0 in let e1 = e.1 in let e2 = e.2 in let k : y / 4294967296 ≡ pool.count = omega arith in
        let a = pool-ascends sys holds.lanes now holds.leaves holds.logs.count holds.logs.room p in-pool.0 in
        let off = bits-off b (blocks_of sys p) pool.free first a in
        let s : Pool = record { count = pool.count + 1; free = without_all b pool.free } in
        let z = holds.fitting.small p in-pool.0 in let z0 = z.0 in
        drawn-step sys words views holds id v at_id own.own own.others own.is few (pool_at p) n r _ holds.items u
        (new-leaves sys at_lane.before own.own.recs at_lane.behind now leaves r p in-pool.0 _ b refs.count sig pars (says ∙ new-item _ p (y / 4294967296) pool.count b refs.count sig pars k) first (sym hist-length))
        (shows-pool sys holds.fitting words now holds.shows p b refs.count n s _ in-pool.0 (omega arith))
        (gave-tokens sys views now id v u at_id holds.tokens p b (sig ∷ pars) block (first-has pool.free first) refl refl refl)
        (gave-events sys words (set words (pool_at p) n) views now id v u at_id holds.tokens holds.events p b refs.count s sig pars content short (first-has pool.free first) block refs.count (λ y h. get_or-set_other words (pool_at p) y n 0 (λ q. absurd (omega arith))) refl refl refl)
        (queues-kept sys words (set words (pool_at p) n) views now _ holds.items id v u at_id holds.queues (λ c j h lt. get_or-set_other words (pool_at p) (cell_at c j) n 0 (λ q. absurd (omega arith))) (λ c. refl) refl refl refl (quiet-noted r _ v u says (λ a. refl) (λ a. refl) refl))
        (omega arith) (let old = low-mark (pool_at p) y (omega arith) in let fresh = low-mark (pool_at p) n (omega arith) in omega arith) refl refl refl refl _
        (grows-pool sys at_lane.before own.own.recs at_lane.behind now leaves r _ says p _ in-pool.0 (ap (λ z. Draws (word.Pool p) (suc z)) k) (λ q c. omega arith)
        (λ c j e l. new-still p (y / 4294967296) b refs.count sig pars c j e (λ same. subst (λ z. j < (now.refs p z).count) (sym same) l)))
      where
        first-has : (xs : List ℕ) → is_first b xs ≡ true → has xs b ≡ true
        first-has [] e = absurd (true≢false (sym e))
        first-has (q ∷ xs) e = rw e refl

    -- A used block comes back
    pub puts_back : (n : ℕ) (r : Rec) → item_of r ≡ record { of = o; body = Back p (y / 4294967296) b refs.count } → 0 < many (is_spot p b) v.used → n ≡ y + 4294967296 + 2 ^ b
        → Holds sys (set words (pool_at p) n) (set views id (put_back v (pool_at p) n r p b))
    puts_back n r says mine new =
        let u : View = put_back v (pool_at p) n r p b in
        let alone = used-alone sys views now id v at_id holds.tokens p b mine in
        let at = at-some p b v.used mine in let worn = holds.tokens.worn p b at.0 (let t = total-at (λ (z : View). many (is_spot_at p b at.0) z.used) views id v at_id in let a1 = at.1 in omega arith) in let w0 = worn.0 in let w1 = worn.1 in
        let e = y-is in let e0 = e.0 in let e1 = e.1 in let e2 = e.2 in let k : y / 4294967296 ≡ pool.count = omega arith in
        let on = bits-on b 0 (blocks_of sys p) pool.free alone.1 in
        let s : Pool = record { count = pool.count + 1; free = with_number b pool.free } in
        let z = holds.fitting.small p in-pool.0 in let z0 = z.0 in
        let h = hist (word.Block p b) (all_items (at_lane.before ++ own.own.recs ∷ at_lane.behind)) in
        drawn-step sys words views holds id v at_id own.own own.others own.is few (pool_at p) n r _ holds.items u
        (back-leaves sys at_lane.before own.own.recs at_lane.behind now leaves r p in-pool.0 _ b refs.count (says ∙ back-item _ p (y / 4294967296) pool.count b refs.count k) in-pool.1 alone.1 (sym hist-length)
        (let ed = leaves.edge p b block in let hl = hist-length in omega arith)
        (none-at h refs (leaves.refs p b block) (none-empty refs.names alone.2)))
        (shows-pool sys holds.fitting words now holds.shows p b refs.count n s _ in-pool.0 (omega arith))
        (back-tokens sys views now id v u at_id holds.tokens p b refs.count (now.content p b) mine refl refl refl)
        (events-same sys words (set words (pool_at p) n) views now _ id v u at_id holds.events (λ y h. get_or-set_other words (pool_at p) y n 0 (λ q. absurd (omega arith))) (two-same p b now.content) refl refl refl)
        (queues-kept sys words (set words (pool_at p) n) views now _ holds.items id v u at_id holds.queues (λ c j h lt. get_or-set_other words (pool_at p) (cell_at c j) n 0 (λ q. absurd (omega arith))) (λ c. refl) refl refl refl (quiet-noted r _ v u says (λ a. refl) (λ a. refl) refl))
        (omega arith) (let old = low-mark (pool_at p) y (omega arith) in let fresh = low-mark (pool_at p) n (omega arith) in omega arith) refl refl refl refl _
        (grows-pool sys at_lane.before own.own.recs at_lane.behind now leaves r _ says p _ in-pool.0 (ap (λ z. Draws (word.Pool p) (suc z)) k) (λ q c. omega arith)
        (λ c j e l. back-still p (y / 4294967296) b refs.count c j e (λ same. subst (λ z. j < (now.refs p z).count) (sym same) l)))

-- where a reference stands, the counter isn't 0
pub dec-counts : (k : ℕ) (xs : List ℕ) → 0 < many (λ r. eqb r k) xs → 0 < length xs
dec-counts k [] h = absurd (omega arith)
dec-counts k (x ∷ xs) h = omega arith
