-- Each step on a pool or a block keeps the rule where it is allowed.
use Rattle.std.proofs.Common.{◌≡◌, ℕ, zero, suc, ◌+◌, ◌-◌, ◌*◌, ◌/◌, ◌%◌, ◌^◌, ◌<◌, ◌≤◌, ◌==◌, nat_lt, nat_le, List, [], ◌∷◌, ◌++◌, Bool, true, false, not, cond, ◌&&◌, ◌||◌, length, set, get_or, refl, sym, ap, subst, ◌∙◌, arith, eqb, eq-eqb, ne_eqb, eqb-true, mod-eq_of_lt, pow-suc, pow_mono, append-nil}
use Rattle.std.proofs.lemmas.Bool.{and_parts}
use Rattle.std.proofs.lemmas.Bool.Decides.{nat_tests}
use Rattle.std.specs.List.{list_any}
use mathlib.Core.Option.{some}
use lib.ListN.{get_elem?}
use Rattle.qp_model.specs.declared.systems.System.{System}
use Rattle.qp_model.specs.declared.bodies.Entry.{Entry}
use Rattle.qp_model.specs.Lists.{is_first}
use Rattle.qp_model.specs.Record.{Item}
use Rattle.qp_model.specs.declared.record.Rec.{Rec}
use Rattle.qp_model.specs.declared.bodies.Body.TheVariants.{Back, New}
use Rattle.qp_model.specs.Sites.{blocks_of}
use Rattle.qp_model.specs.WordLaw.{is_pool, is_block}
use Rattle.qp_table.specs.Counting.{Each, sum_over, many, without}
use Rattle.qp_table.specs.Rule.{pool_at, block_at, event_word_at, bits_value, is_ref, is_spot, gives_of, fills_of, IsContent, Tells, Holds}
use Rattle.qp_model.specs.Parts.{params_of}
use Rattle.qp_table.specs.After.{spot, ref, reference_dropped, began, doubled, gave, filled, put_back}
use Rattle.qp_table.specs.declared.view.Glance.{Glance}
use Rattle.qp_table.specs.declared.view.Spot.{Spot}
use Rattle.qp_table.specs.declared.view.PendingGive.{PendingGive}
use Rattle.qp_table.specs.declared.view.Fill.{Fill}
use Rattle.qp_table.specs.declared.view.View.{View}
use Rattle.qp_table.proofs.Tokens.{fresh-alone}
use Rattle.qp_table.proofs.Bounds.{Ascends, pool-ascends, pool-count, map-small, bits-off}
use Rattle.qp_table.proofs.Steps.{pool-of, begins, doubles, drops, gives, puts_back, block-below, x-count, y-is}
use Rattle.qp_table.proofs.Contents.{fills_in}
use Rattle.qp_core_steps.specs.Seats.{as_view, seat_may_act, may_add, glance, noting}
use Rattle.qp_core_steps.specs.Blocks.{added, number_of_word, low_in, lowest, bit_of, block_size, fits, has_left, may_give, SeatGives, with_give, asks_for, may_fill, Fills, is_ref_to, is_give_over, has_ready, may_make, with_ref, SeatMakes, may_drop, without_ref, SeatDrops, may_back, Backs}
use Rattle.qp_table.specs.Asked.{is_unfinished}
use Rattle.qp_core_steps.specs.Keeps.{StepKeeps}
use Rattle.qp_core_steps.specs.declared.seats.Seat.{Seat}
use Rattle.qp_core_steps.proofs.ListLemmas.{any-many, none-many}
use Rattle.qp_core_steps.proofs.Standing.{has-room}
use Rattle.qp_table.proofs.Meeting.{both}

-- the parts of a test
pub adds : (lanes : ℕ) (x : Seat) (t : Bool) → (may_add lanes x && t) ≡ true → ((nat_lt x.number lanes ≡ true) × (nat_lt (sum_over (λ g. length g.recs) x.logs) 1000001 ≡ true)) × (t ≡ true)
adds lanes x t h = let a = and_parts (may_add lanes x) t h in let b = and_parts (nat_lt x.number lanes) (nat_lt (sum_over (λ g. length g.recs) x.logs) 1000001) a.0 in ((b.0, b.1), a.1)

pub adds-two : (lanes : ℕ) (x : Seat) (t u : Bool) → ((may_add lanes x && t) && u) ≡ true → ((nat_lt x.number lanes ≡ true) × (nat_lt (sum_over (λ g. length g.recs) x.logs) 1000001 ≡ true)) × (t ≡ true) × (u ≡ true)
adds-two lanes x t u h = let a = and_parts (may_add lanes x && t) u h in let b = adds lanes x t a.0 in (b.0, b.1, a.1)

bit-is : (b : ℕ) → b < 32 → bit_of b ≡ 2 ^ b
bit-is b l = let t : nat_lt b 64 ≡ true = grind (arith, nat_tests) in rw t refl

if-list : (b : Bool) (xs : List Spot) (s : Spot) → cond b (xs ++ s ∷ []) xs ≡ xs ++ cond b (s ∷ []) []
if-list true xs s = refl
if-list false xs s = sym (append-nil xs)

-- Maps of blocks: the numbers one lower, the lowest bit, and how many there are
unfoldable pub down : List ℕ → List ℕ
down [] = []
down (x ∷ xs) = (x - 1) ∷ down xs

pub down-ascends : (lo n : ℕ) (xs : List ℕ) → Ascends (suc lo) (suc n) xs → Ascends lo n (down xs)
unfolding down
down-ascends lo n [] a = omega arith
down-ascends lo n (x ∷ xs) a = let l = a.0 in let h = a.1 in let e : suc (x - 1) ≡ x + 1 - 1 = omega arith in
    (omega arith, omega arith, let f : x + 1 ≡ suc (x - 1 + 1) = omega arith in down-ascends (x - 1 + 1) n xs (subst (λ z. Ascends z (suc n) xs) f a.2))

pub down-length : (xs : List ℕ) → length (down xs) ≡ length xs
unfolding down
down-length [] = refl
down-length (x ∷ xs) = ap suc (down-length xs)

pub down-bits : (lo n : ℕ) (xs : List ℕ) → Ascends (suc lo) n xs → bits_value xs ≡ bits_value (down xs) * 2
unfolding down
down-bits lo n [] a = refl
down-bits lo n (x ∷ xs) a = let l = a.0 in let r = down-bits x n xs (let f : x + 1 ≡ suc x = omega arith in subst (λ z. Ascends z n xs) f a.2) in
    let p : 2 ^ x ≡ 2 ^ (x - 1) * 2 = (let e : x ≡ suc (x - 1) = omega arith in ap (λ z. 2 ^ z) e ∙ pow-suc 2 (x - 1)) in omega arith

odd-first : (k m : ℕ) → m % 2 ≡ 1 → lowest (suc k) m ≡ 0
odd-first k m e = rw (eq-eqb (m % 2) 1 e) refl

even-next : (k m : ℕ) → m % 2 ≡ 0 → lowest (suc k) m ≡ suc (lowest k (m / 2))
even-next k m e = rw (ne_eqb (m % 2) 1 (λ h. absurd (omega arith))) refl

-- the lowest bit of a map is its first block
pub lowest-first : (k n : ℕ) (xs : List ℕ) → Ascends 0 n xs → n ≤ k → 0 < bits_value xs → is_first (lowest k (bits_value xs)) xs ≡ true
unfolding down
lowest-first k n [] a le pos = absurd (omega arith)
lowest-first zero n (x ∷ xs) a le pos = absurd (let h = a.1 in omega arith)
lowest-first (suc k) n (zero ∷ xs) a le pos =
    let d = down-bits 0 n xs a.2 in let one : 2 ^ 0 ≡ 1 = refl in
    eq-eqb 0 (lowest (suc k) (bits_value (zero ∷ xs))) (sym (odd-first k (bits_value (zero ∷ xs)) (omega arith)))
lowest-first (suc k) n (suc y ∷ xs) a le pos =
    let h = a.1 in let up : Ascends 1 n (suc y ∷ xs) = (omega arith, a.1, a.2) in
    let d = down-bits 0 n (suc y ∷ xs) up in
    let e : suc (n - 1) ≡ n = omega arith in
    let lower : Ascends 0 (n - 1) (down (suc y ∷ xs)) = down-ascends 0 (n - 1) (suc y ∷ xs) (subst (λ z. Ascends 1 z (suc y ∷ xs)) (sym e) up) in
    let r = lowest-first k (n - 1) (down (suc y ∷ xs)) lower (omega arith) (omega arith) in
    let half : bits_value (suc y ∷ xs) / 2 ≡ bits_value (down (suc y ∷ xs)) = omega arith in
    let step = even-next k (bits_value (suc y ∷ xs)) (omega arith) in
    let first : suc y - 1 ≡ lowest k (bits_value (down (suc y ∷ xs))) = eqb-true (suc y - 1) (lowest k (bits_value (down (suc y ∷ xs)))) r in
    eq-eqb (suc y) (lowest (suc k) (bits_value (suc y ∷ xs))) (let f : suc y ≡ suc (suc y - 1) = omega arith in f ∙ (ap suc (first ∙ ap (lowest k) (sym half)) ∙ sym step))

abbrev back_item : ℕ → ℕ → ℕ → ℕ → ℕ → Item
back_item o p n b to = record { of = o; body = Back p n b to }

back-to : (o p n b to k : ℕ) → to ≡ k → back_item o p n b to ≡ back_item o p n b k
back-to o p n b to k e = λ i. back_item o p n b (e i)

abbrev new_item : ℕ → ℕ → ℕ → ℕ → ℕ → ℕ → List ℕ → Item
new_item o p n b from sig pars = record { of = o; body = New p n b from sig pars }

new-from : (o p n b from k sig : ℕ) (pars : List ℕ) → from ≡ k → new_item o p n b from sig pars ≡ new_item o p n b k sig pars
new-from o p n b from k sig pars e = λ i. new_item o p n b (e i) sig pars

-- a finished give has no word left to be written
done-left : (fills : List Fill) (p b : ℕ) (g : PendingGive) → is_give_over fills p b g ≡ true → many (fills_of p b) fills ≡ 0
done-left fills p b g e =
    let a = and_parts (gives_of p b g) (not (is_unfinished fills g)) e in
    let c = and_parts (eqb g.pool p) (eqb g.block b) a.0 in
    let n : has_left fills g ≡ false = unfinished g.read (has_left fills g) a.1 in
    subst (λ (z : ℕ × ℕ). many (fills_of z.0 z.1) fills ≡ 0) (λ i. (eqb-true g.pool p c.0 i, eqb-true g.block b c.1 i)) (none-many (fills_of g.pool g.block) fills n)
  where
    unfinished : (r l : Bool) → not (not r || l) ≡ true → l ≡ false
    unfinished true true h = cc
    unfinished true false h = refl
    unfinished false l h = cc

pub done-none : (fills : List Fill) (p b : ℕ) (gs : List PendingGive) → list_any (is_give_over fills p b) gs ≡ true → many (fills_of p b) fills ≡ 0
done-none fills p b [] e = cc
done-none fills p b (g ∷ gs) e = go (is_give_over fills p b g) refl (done-none fills p b gs) e
  where
    go : (c : Bool) → is_give_over fills p b g ≡ c → (list_any (is_give_over fills p b) gs ≡ true → many (fills_of p b) fills ≡ 0) → (c || list_any (is_give_over fills p b) gs) ≡ true → many (fills_of p b) fills ≡ 0
    go true here rest h = done-left fills p b g here
    go false here rest h = rest h

-- a seat with a reference to the block in hand, by its name
name-cons : (p b : ℕ) (y : Entry) (ys : List Entry) (c : Bool) → is_ref_to p b y ≡ c → (list_any (is_ref_to p b) ys ≡ true → (k : ℕ) × (0 < many (is_ref p b k) ys)) → (c || list_any (is_ref_to p b) ys) ≡ true → (k : ℕ) × (0 < many (is_ref p b k) (y ∷ ys))
name-cons p b y ys true here rest h = (y.name, (let one : cond {A = ℕ} (is_ref p b y.name y) 1 0 ≡ 1 = (λ i. cond {A = ℕ} (here i && eq-eqb y.name y.name refl i) 1 0) in omega arith))
name-cons p b y ys false here rest h = let r = rest h in (r.0, let r1 = r.1 in omega arith)

some-name : (p b : ℕ) (hands : List Entry) → list_any (is_ref_to p b) hands ≡ true → (k : ℕ) × (0 < many (is_ref p b k) hands)
some-name p b [] e = cc
some-name p b (y ∷ ys) e = name-cons p b y ys (is_ref_to p b y) refl (some-name p b ys) e

-- the seat with another reference, and with the first
with-more : (x : Seat) (r : Rec) (g : Glance) (p b k : ℕ) → list_any (is_ref_to p b) x.hands ≡ true → with_ref x r g p b k ≡ record (noting r g x) { hands = x.hands ++ ref p b k ∷ [] }
with-more x r g p b k here = rw here refl

with-first : (x : Seat) (r : Rec) (g : Glance) (p b k : ℕ) → list_any (is_ref_to p b) x.hands ≡ false → with_ref x r g p b k ≡ record (noting r g x) { fresh = without (is_spot p b) x.fresh; gives = without (gives_of p b) x.gives; hands = x.hands ++ ref p b k ∷ [] }
with-first x r g p b k here = rw here refl

module _ (sys : System) (lanes : ℕ) (words : List ℕ) (x : Seat) (own : nat_lt x.number lanes ≡ true → 0 < length x.logs) (words' : List ℕ) (x' : Seat) where
  -- the step's own lemma gives the rule for equal words and an equal view
  along : (views : List View) (id : ℕ) (ws : List ℕ) (u : View) → ws ≡ words' → u ≡ as_view x' → Holds sys ws (set views id u) → Holds sys words' (set views id (as_view x'))
  along views id ws u e f h = subst (λ (z : List ℕ × View). Holds sys z.0 (set views id z.1)) (λ i. (e i, f i)) h

  pub drop-keeps : (p b k : ℕ) → may_drop sys lanes x p b k ≡ true → SeatDrops words x p b k words' x' → StepKeeps sys words x words' x'
  drop-keeps p b k may made views id holds at_id =
      let t = adds-two lanes x (is_block sys p b) (list_any (is_ref p b k) x.hands) may in
      let q : (is_block sys p b ≡ true) × (list_any (is_ref p b k) x.hands ≡ true) = (t.1, t.2) in
      let room = has-room lanes x own t.0 in
      let w : ℕ = get_or words (block_at p b) 0 in
      let n : ℕ = get_or words (block_at p b) 0 + 4294967295 in
      let m : n ≡ added w 4294967295 = sym (mod-eq_of_lt (let l = block-below sys words views holds id (as_view x) at_id room x.by p b q.0 in omega arith)) in
      let u : View = reference_dropped (as_view x) (block_at p b) n made.0 p b k in
      let e : u ≡ as_view (without_ref x n made.0 p b k) = (λ i. record u { used = if-list (eqb (n % 4294967296) 0) x.used (spot p b (n / 4294967296)) i }) in
      along views id (set words (block_at p b) n) u (ap (set words (block_at p b)) m ∙ sym made.2) (e ∙ ((λ i. as_view (without_ref x (m i) made.0 p b k)) ∙ (λ i. as_view (sym made.3 i))))
      (drops sys words views holds id (as_view x) at_id room x.by p b q.0 k n made.0 made.1 (any-many (is_ref p b k) x.hands q.1) refl)

  pub back-keeps : (p b : ℕ) → may_back sys lanes x p b ≡ true → Backs words x p b words' x' → StepKeeps sys words x words' x'
  back-keeps p b may made views id holds at_id =
      let t = adds-two lanes x (is_block sys p b) (list_any (is_spot p b) x.used) may in
      let q : (is_block sys p b ≡ true) × (list_any (is_spot p b) x.used ≡ true) = (t.1, t.2) in
      let room = has-room lanes x own t.0 in let v : View = as_view x in
      let w : ℕ = get_or words (pool_at p) 0 in
      let n : ℕ = get_or words (pool_at p) 0 + 4294967296 + 2 ^ b in
      let y = y-is sys words views holds id v at_id room x.by p b q.0 in let y0 = y.0 in let y1 = y.1 in let y2 = y.2 in
      let z = holds.fitting.pools p b q.0 in let z2 = z.2 in let up : 2 ^ b ≤ 2 ^ 31 = pow_mono {j = 31} (omega arith) in
      let bit = bit-is b z2 in let m : n ≡ added w (4294967296 + bit_of b) = (let a : w + (4294967296 + bit_of b) ≡ n = omega arith in sym (mod-eq_of_lt (omega arith) ∙ a)) in
      let c = x-count sys words views holds id v at_id room x.by p b q.0 in
      let u : View = put_back v (pool_at p) n made.0 p b in
      along views id (set words (pool_at p) n) u (ap (set words (pool_at p)) m ∙ sym made.2) ((λ i. as_view (record (noting made.0 (glance (pool_at p) (m i)) x) { used = without (is_spot p b) x.used })) ∙ (λ i. as_view (sym made.3 i)))
      (puts_back sys words views holds id v at_id room x.by p b q.0 n made.0 (made.1 ∙ back-to x.by p (number_of_word w) b (number_of_word (get_or words (block_at p b) 0)) (holds.now.refs p b).count c) (any-many (is_spot p b) x.used q.1) refl)

  pub make-keeps : (p b : ℕ) → may_make sys lanes x p b ≡ true → SeatMakes words x p b words' x' → StepKeeps sys words x words' x'
  make-keeps p b may made views id holds at_id =
      let t = adds-two lanes x (is_block sys p b) (list_any (is_ref_to p b) x.hands || has_ready x p b) may in
      let v : View = as_view x in let room = has-room lanes x own t.0 in let w : ℕ = get_or words (block_at p b) 0 in
      let m : w + 4294967297 ≡ added w 4294967297 = sym (mod-eq_of_lt (let l = block-below sys words views holds id v at_id room x.by p b t.1 in omega arith)) in
      let ws : set words (block_at p b) (w + 4294967297) ≡ words' = ap (set words (block_at p b)) m ∙ sym made.2 in
      let more : list_any (is_ref_to p b) x.hands ≡ true → Holds sys words' (set views id (as_view x')) = (λ here.
      let k = some-name p b x.hands here in let u : View = doubled v (block_at p b) (w + 4294967297) made.0 p b (number_of_word w) in
      along views id (set words (block_at p b) (w + 4294967297)) u ws ((λ i. as_view (record (noting made.0 (glance (block_at p b) (m i)) x) { hands = u.hands })) ∙ (λ i. as_view (sym (made.3 ∙ with-more x made.0 (glance (block_at p b) (added w 4294967297)) p b (number_of_word w) here) i)))
      (doubles sys words views holds id v at_id room x.by p b t.1 k.0 (w + 4294967297) made.0 made.1 k.1 refl)) in
      let first : list_any (is_ref_to p b) x.hands ≡ false → Holds sys words' (set views id (as_view x')) = (λ here.
      let ready : has_ready x p b ≡ true = (λ i. sym here i || has_ready x p b) ∙ t.2 in
      let r = and_parts (list_any (is_spot p b) x.fresh) (list_any (is_give_over x.fills p b) x.gives) ready in
      let u : View = began v (block_at p b) (w + 4294967297) made.0 p b (number_of_word w) in
      along views id (set words (block_at p b) (w + 4294967297)) u ws ((λ i. as_view (record (noting made.0 (glance (block_at p b) (m i)) x) { fresh = u.fresh; gives = u.gives; hands = u.hands })) ∙ (λ i. as_view (sym (made.3 ∙ with-first x made.0 (glance (block_at p b) (added w 4294967297)) p b (number_of_word w) here) i)))
      (begins sys words views holds id v at_id room x.by p b t.1 (w + 4294967297) made.0 made.1 (any-many (is_spot p b) x.fresh r.0) (done-none x.fills p b x.gives r.1) refl)) in
      both (list_any (is_ref_to p b) x.hands) more first

  -- the give that asks for the word
  asking : (views : List View) (id : ℕ) (holds : Holds sys words views) → get_elem? views id ≡ some (as_view x) → (p b j n : ℕ) (gs : List PendingGive) → Each (Tells holds.now) gs → list_any (asks_for x.fills p b j n) gs ≡ true
      → (event : List ℕ) × (event ≡ holds.now.content p b) × (j < length event) × (n ≡ get_or event j 0) × (0 < many (gives_of p b) gs)
  asking views id holds at_id p b j n [] told e = cc
  asking views id holds at_id p b j n (g ∷ gs) told e = go (asks_for x.fills p b j n g) refl (asking views id holds at_id p b j n gs told.1) e
    where
      go : (c : Bool) → asks_for x.fills p b j n g ≡ c
          → (list_any (asks_for x.fills p b j n) gs ≡ true → (event : List ℕ) × (event ≡ holds.now.content p b) × (j < length event) × (n ≡ get_or event j 0) × (0 < many (gives_of p b) gs)) → (c || list_any (asks_for x.fills p b j n) gs) ≡ true
          → (event : List ℕ) × (event ≡ holds.now.content p b) × (j < length event) × (n ≡ get_or event j 0) × (0 < many (gives_of p b) (g ∷ gs))
      go true here rest h =
          let a = and_parts (((gives_of p b g && is_unfinished x.fills g) && nat_lt j (length g.event))) (get_or g.event j 0 == n) here in
          let c = and_parts (gives_of p b g && is_unfinished x.fills g) (nat_lt j (length g.event)) a.0 in
          let d = and_parts (gives_of p b g) (is_unfinished x.fills g) c.0 in
          let f = and_parts (eqb g.pool p) (eqb g.block b) d.0 in
          let inside : nat_lt j (length g.event) ≡ true = c.1 in let lt : j < length g.event = grind (arith, nat_tests) in
          let one : cond {A = ℕ} (gives_of p b g) 1 0 ≡ 1 = (λ i. cond {A = ℕ} (d.0 i) 1 0) in (
            g.event,
            told.0 ∙ (λ i. holds.now.content (eqb-true g.pool p f.0 i) (eqb-true g.block b f.1 i)),
            lt,
            sym (eqb-true (get_or g.event j 0) n a.1),
            omega arith,
          )
      go false here rest h = let r = rest h in let r4 = r.4 in (r.0, r.1, r.2, r.3, omega arith)

  pub fill-keeps : (p b j n : ℕ) → may_fill lanes x p b j n ≡ true → Fills words x p b j n words' x' → StepKeeps sys words x words' x'
  fill-keeps p b j n may made views id holds at_id =
      let v : View = as_view x in let t = and_parts (seat_may_act lanes x) (list_any (asks_for x.fills p b j n) x.gives) may in
      let beside = holds.events.beside id v at_id in
      let a = asking views id holds at_id p b j n x.gives beside.told t.1 in
      let mine : 0 < many (is_spot p b) x.fresh = (let g = beside.gives p b in let a4 = a.4 in omega arith) in
      let alone = fresh-alone sys views holds.now id v at_id holds.tokens p b mine in
      let u : View = filled v p b j n in
      along views id (set words (event_word_at p b j) n) u (sym made.0) (λ i. as_view (sym made.1 i)) (fills_in sys words views holds id v at_id p b alone.0 a.0 a.1 mine j a.2 n a.3)

  pub give-keeps : (p sig : ℕ) (pars : List ℕ) → may_give sys lanes words x p sig pars ≡ true → SeatGives words x p sig pars words' x' → StepKeeps sys words x words' x'
  unfolding is_block
  give-keeps p sig pars may made views id holds at_id =
      let v : View = as_view x in
      let w : ℕ = get_or words (pool_at p) 0 in
      let free_left : Bool = not (low_in w == 0) in
      let a = and_parts (((may_add lanes x && is_pool sys p) && fits sys p sig pars) && not (list_any (is_unfinished x.fills) x.gives)) free_left may in
      let c = and_parts ((may_add lanes x && is_pool sys p) && fits sys p sig pars) (not (list_any (is_unfinished x.fills) x.gives)) a.0 in
      let d = and_parts (may_add lanes x && is_pool sys p) (fits sys p sig pars) c.0 in
      let t = adds lanes x (is_pool sys p) d.0 in
      let room = has-room lanes x own t.0 in
      let fitting = fits-parts d.1 in
      let small = holds.fitting.small p t.1 in let small0 = small.0 in let small1 = small.1 in
      let ascends = pool-ascends sys holds.lanes holds.now holds.leaves holds.logs.count holds.logs.room p t.1 in
      let few = pool-count sys holds.lanes holds.now holds.leaves holds.logs.count holds.logs.room p t.1 in
      let map_small = map-small (blocks_of sys p) (holds.now.pool p).free small.1 ascends in
      let shows = holds.shows.pools p t.1 in
      let map_is : low_in w ≡ bits_value (holds.now.pool p).free = omega arith in
      let some_bit : 0 < bits_value (holds.now.pool p).free = (let n = not-zero (low_in w) a.1 in omega arith) in
      let b : ℕ = lowest 32 (low_in w) in
      let first : is_first b (holds.now.pool p).free ≡ true = ap (λ z. is_first (lowest 32 z) (holds.now.pool p).free) map_is ∙ lowest-first 32 (blocks_of sys p) (holds.now.pool p).free ascends small.1 some_bit in
      let block = first-block p b (holds.now.pool p).free t.1 ascends first in
      let bits = bits-off b (blocks_of sys p) (holds.now.pool p).free first ascends in
      let bb = (pool-of sys p b block).1 in let up : 2 ^ b ≤ 2 ^ 31 = pow_mono {j = 31} (omega arith) in let bit = bit-is b (omega arith) in
      let n : ℕ = added w 4294967296 - bit_of b in
      let m : added w 4294967296 ≡ w + 4294967296 = mod-eq_of_lt (omega arith) in
      let from = x-count sys words views holds id v at_id room x.by p b block in
      let u : View = gave v (pool_at p) n made.0 p b (holds.now.refs p b).count (sig ∷ pars) in
      along views id (set words (pool_at p) n) u (sym made.2) ((λ i. as_view (with_give x made.0 (glance (pool_at p) n) p b (sym from i) (sig ∷ pars))) ∙ (λ i. as_view (sym made.3 i)))
      (gives sys words views holds id v at_id room x.by p b block n sig pars made.0 (made.1 ∙ new-from x.by p (number_of_word w) b (number_of_word (get_or words (block_at p b) 0)) (holds.now.refs p b).count sig pars from) fitting (let l = holds.fitting.params sig in let fp = fitting.params in omega arith) first (omega arith))
    where
      not-zero : (n : ℕ) → not (n == 0) ≡ true → 0 < n
      not-zero zero e = cc
      not-zero (suc n) e = omega arith

      fits-parts : fits sys p sig pars ≡ true → IsContent sys sig pars
      fits-parts e =
          let a = and_parts (((nat_le 4 sig && nat_lt sig (length sys.signals + 4)) && (length pars == params_of sys sig))) (nat_le (length pars) (block_size sys p)) e in
          let c = and_parts (nat_le 4 sig && nat_lt sig (length sys.signals + 4)) (length pars == params_of sys sig) a.0 in
          let d = and_parts (nat_le 4 sig) (nat_lt sig (length sys.signals + 4)) c.0 in
          let d0 = d.0 in let d1 = d.1 in
          record { from = grind (arith, nat_tests); within = grind (arith, nat_tests); params = eqb-true (length pars) (params_of sys sig) c.1 }

      first-block : (p b : ℕ) (xs : List ℕ) → is_pool sys p ≡ true → Ascends 0 (blocks_of sys p) xs → is_first b xs ≡ true → is_block sys p b ≡ true
      first-block p b [] pool a e = cc
      first-block p b (y ∷ ys) pool a e = let z : y ≡ b = eqb-true y b e in let l = a.1 in let lt : b < blocks_of sys p = omega arith in
          let test : nat_lt b (blocks_of sys p) ≡ true = grind (arith, nat_tests) in (λ i. pool i && test i)
