-- Looks keep the rule where they are allowed.
use Rattle.std.proofs.Common.{◌≡◌, ℕ, zero, suc, ◌+◌, ◌-◌, ◌/◌, ◌%◌, ◌^◌, ◌<◌, ◌≤◌, ◌==◌, nat_lt, nat_le, List, [], ◌∷◌, Bool, true, false, ◌&&◌, length, set, get_or, refl, sym, ap, subst, ◌∙◌, arith, eqb-true, true≢false, Option, Some, None}
use Rattle.std.proofs.lemmas.Bool.{and_parts}
use Rattle.std.proofs.lemmas.Bool.Decides.{nat_tests}
use mathlib.Core.Option.{some}
use lib.ListN.{get_elem?}
use Rattle.atomic_table.proofs.Lists.{set_again}
use Rattle.qp_model.specs.declared.record.Rec.{Rec}
use Rattle.qp_model.specs.declared.systems.System.{System}
use Rattle.qp_model.specs.declared.words.Word.{Word}
use Rattle.qp_model.specs.declared.words.Word.TheVariants as word
use Rattle.qp_model.specs.declared.bodies.Body.{Body}
use Rattle.qp_model.specs.declared.bodies.Body.TheVariants.{Short, NoBlock, Nil, Seen, Full, NoEntry, NoLifo}
use Rattle.qp_model.specs.Record.{Item, item_of, body_of}
use Rattle.qp_model.specs.Sites.{ring_of, blocks_of}
use Rattle.qp_model.specs.WordLaw.{is_pool, is_object}
use Rattle.qp_table.specs.Counting.{sum_over}
use Rattle.qp_table.specs.Rule.{pool_at, queue_at, bits_value, Holds}
use Rattle.qp_table.specs.After.{HasRoom, noted}
use Rattle.qp_table.specs.declared.view.View.{View}
use Rattle.qp_table.proofs.Bounds.{Ascends, pool-ascends, map-small}
use Rattle.qp_table.specs.QueueLaws.{f_in, l_in, m_in}
use Rattle.qp_table.proofs.Looks.{looks, looks_from, shows-short, shows-no_block, shows-seen, shows-nil, shows-full, shows-no_entry, shows-no_lifo}
use Rattle.qp_core_steps.specs.Seats.{as_view, noting}
use Rattle.qp_core_steps.specs.Blocks.{number_of_word, low_in}
use Rattle.qp_core_steps.specs.Looks.{ones, counts_match, entry_count, states_pool, states_queue, states, shown, may_state, may_look, looked}
use Rattle.qp_table.specs.Words.{is_here}
use Rattle.qp_core_steps.specs.Keeps.{StepKeeps}
use Rattle.qp_core_steps.specs.declared.seats.Seat.{Seat}
use Rattle.qp_core_steps.proofs.Standing.{has-room}
use Rattle.qp_core_steps.proofs.BlockLemmas.{adds, down, down-ascends, down-bits, down-length}

-- a map of blocks has as many bits as blocks
ones-none : (k : ℕ) → ones k 0 ≡ 0
ones-none zero = refl
ones-none (suc k) = ap (λ (z : ℕ). 0 + z) (ones-none k)

pub ones-length : (k n : ℕ) (xs : List ℕ) → Ascends 0 n xs → n ≤ k → ones k (bits_value xs) ≡ length xs
unfolding down
ones-length k n [] a le = ones-none k
ones-length zero n (x ∷ xs) a le = absurd (let h = a.1 in omega arith)
ones-length (suc k) n (zero ∷ xs) a le =
    let d = down-bits 0 n xs a.2 in let one : 2 ^ 0 ≡ 1 = refl in let h = a.1 in
    let e : suc (n - 1) ≡ n = omega arith in
    let r = ones-length k (n - 1) (down xs) (down-ascends 0 (n - 1) xs (subst (λ z. Ascends 1 z xs) (sym e) a.2)) (omega arith) in
    let half : bits_value (zero ∷ xs) / 2 ≡ bits_value (down xs) = omega arith in let len = down-length xs in
    let odd : bits_value (zero ∷ xs) % 2 ≡ 1 = omega arith in let s = ap (ones k) half in omega arith
ones-length (suc k) n (suc y ∷ xs) a le =
    let h = a.1 in let up : Ascends 1 n (suc y ∷ xs) = (omega arith, a.1, a.2) in
    let d = down-bits 0 n (suc y ∷ xs) up in let e : suc (n - 1) ≡ n = omega arith in
    let r = ones-length k (n - 1) (down (suc y ∷ xs)) (down-ascends 0 (n - 1) (suc y ∷ xs) (subst (λ z. Ascends 1 z (suc y ∷ xs)) (sym e) up)) (omega arith) in
    let half : bits_value (suc y ∷ xs) / 2 ≡ bits_value (down (suc y ∷ xs)) = omega arith in let len = down-length (suc y ∷ xs) in
    let even : bits_value (suc y ∷ xs) % 2 ≡ 0 = omega arith in let s = ap (ones k) half in omega arith

item-says : (r : Rec) → item_of r ≡ record { of = r.of; body = body_of r }
unfolding item_of
item-says r = refl

abbrev item : ℕ → Body → Item
item o x = record { of = o; body = x }

three : (a b c : Bool) → ((a && b) && c) ≡ true → (a ≡ true) × (b ≡ true) × (c ≡ true)
three a b c h = let x = and_parts (a && b) c h in let y = and_parts a b x.0 in (y.0, y.1, x.1)

four : (a b c d : Bool) → (((a && b) && c) && d) ≡ true → (a ≡ true) × (b ≡ true) × (c ≡ true) × (d ≡ true)
four a b c d h = let x = and_parts ((a && b) && c) d h in let y = three a b c x.0 in (y.0, y.1, y.2, x.1)

module _ (sys : System) (lanes : ℕ) (words : List ℕ) (x : Seat) (own : nat_lt x.number lanes ≡ true → 0 < length x.logs) (views : List View) (id : ℕ) (holds : Holds sys words views) (at_id : get_elem? views id ≡ some (as_view x)) (r : Rec) (fits : (nat_lt x.number lanes ≡ true) × (nat_lt (sum_over (λ g. length g.recs) x.logs) 1000001 ≡ true)) where
  abbrev v : View
  v = as_view x

  room : HasRoom (as_view x)
  room = has-room lanes x own fits

  -- the seat with the record, and what the word showed
  abbrev Shown : ℕ → Type 0
  Shown w = Holds sys words (set views id (noted (as_view x) w (get_or words w 0) r))

  pool-shown : (q : ℕ) → is_pool sys q ≡ true → (b : Body) → body_of r ≡ b → states_pool (get_or words (pool_at q) 0) q x.by r.of b ≡ true → Shown (pool_at q)
  pool-shown q pool (Short p n free reserve) is h =
      let w : ℕ = get_or words (pool_at q) 0 in
      let a = and_parts ((((r.of == x.by) && (p == q)) && (n == number_of_word w)) && (free == ones 32 (low_in w))) (nat_le free reserve) h in
      let f = four (r.of == x.by) (p == q) (n == number_of_word w) (free == ones 32 (low_in w)) a.0 in
      let ascends = pool-ascends sys holds.lanes holds.now holds.leaves holds.logs.count holds.logs.room q pool in let small = holds.fitting.small q pool in
      let few = map-small (blocks_of sys q) (holds.now.pool q).free small.1 ascends in let shows = holds.shows.pools q pool in
      let map_is : low_in w ≡ bits_value (holds.now.pool q).free = omega arith in
      let count : number_of_word w ≡ (holds.now.pool q).count = omega arith in
      let len : free ≡ length (holds.now.pool q).free = eqb-true free (ones 32 (low_in w)) f.3 ∙ (ap (ones 32) map_is ∙ ones-length 32 (blocks_of sys q) (holds.now.pool q).free ascends small.1) in
      let le : nat_le free reserve ≡ true = a.1 in let at_most : free ≤ reserve = grind (arith, nat_tests) in
      shows-short sys words views holds id v at_id room q pool r.of reserve r
      (item-says r ∙ (ap (item r.of) is ∙ (λ i. item r.of (Short (eqb-true p q f.1 i) ((eqb-true n (number_of_word w) f.2 ∙ count) i) (len i) reserve)))) (omega arith)
  pool-shown q pool (NoBlock p n free) is h =
      let w : ℕ = get_or words (pool_at q) 0 in
      let a = and_parts ((((r.of == x.by) && (p == q)) && (n == number_of_word w)) && (free == 0)) (low_in w == 0) h in
      let f = four (r.of == x.by) (p == q) (n == number_of_word w) (free == 0) a.0 in
      let ascends = pool-ascends sys holds.lanes holds.now holds.leaves holds.logs.count holds.logs.room q pool in let small = holds.fitting.small q pool in
      let few = map-small (blocks_of sys q) (holds.now.pool q).free small.1 ascends in let shows = holds.shows.pools q pool in
      let map_is : low_in w ≡ bits_value (holds.now.pool q).free = omega arith in
      let count : number_of_word w ≡ (holds.now.pool q).count = omega arith in
      let zero_map : bits_value (holds.now.pool q).free ≡ 0 = sym map_is ∙ eqb-true (low_in w) 0 a.1 in
      let len : length (holds.now.pool q).free ≡ 0 = sym (ones-length 32 (blocks_of sys q) (holds.now.pool q).free ascends small.1) ∙ (ap (ones 32) zero_map ∙ ones-none 32) in
      shows-no_block sys words views holds id v at_id room q pool r.of r
      (item-says r ∙ (ap (item r.of) is ∙ (λ i. item r.of (NoBlock (eqb-true p q f.1 i) ((eqb-true n (number_of_word w) f.2 ∙ count) i) (eqb-true free 0 f.3 i))))) len
  pool-shown q pool _ is h = cc

  abbrev word_of : ℕ → ℕ
  word_of q = get_or words (queue_at q) 0

  counts : (q f l m : ℕ) → counts_match (word_of q) f l m ≡ true → (f ≡ f_in (word_of q)) × (l ≡ l_in (word_of q)) × (m ≡ m_in (word_of q))
  counts q f l m h = let t = three (f == f_in (word_of q)) (l == l_in (word_of q)) (m == m_in (word_of q)) h in (eqb-true f (f_in (word_of q)) t.0, eqb-true l (l_in (word_of q)) t.1, eqb-true m (m_in (word_of q)) t.2)

  queue-shown : (q : ℕ) → is_object sys q ≡ true → (b : Body) → body_of r ≡ b → states_queue (ring_of sys q) (word_of q) q x.by r.of b ≡ true → Shown (queue_at q)
  queue-shown q object (Nil f l m) is h =
      let t = four (r.of == x.by) (r.of == q) (counts_match (word_of q) f l m) (f_in (word_of q) + l_in (word_of q) == m_in (word_of q)) h in let c = counts q f l m t.2 in
      let none_left = eqb-true (f_in (word_of q) + l_in (word_of q)) (m_in (word_of q)) t.3 in
      shows-nil sys words views holds id v at_id room q object r (item-says r ∙ (ap (item r.of) is ∙ (λ i. item (eqb-true r.of q t.1 i) (Nil (c.0 i) (c.1 i) (c.2 i))))) none_left
  queue-shown q object (Seen p f l m) is h =
      let t = three (r.of == 0) (p == q) (counts_match (word_of q) f l m) h in let c = counts q f l m t.2 in
      shows-seen sys words views holds id v at_id room q object r.of r (item-says r ∙ (ap (item r.of) is ∙ (λ i. item r.of (Seen (eqb-true p q t.1 i) (c.0 i) (c.1 i) (c.2 i)))))
  queue-shown q object (Full a f l m margin) is h =
      let t = four (r.of == x.by) (a == q) (counts_match (word_of q) f l m) (nat_le (ring_of sys q + 1 - entry_count (word_of q)) margin) h in let c = counts q f l m t.2 in
      let le : nat_le (ring_of sys q + 1 - entry_count (word_of q)) margin ≡ true = t.3 in let few : ring_of sys q + 1 - entry_count (word_of q) ≤ margin = grind (arith, nat_tests) in
      shows-full sys words views holds id v at_id room q object r.of margin r (item-says r ∙ (ap (item r.of) is ∙ (λ i. item r.of (Full (eqb-true a q t.1 i) (c.0 i) (c.1 i) (c.2 i) margin)))) few
  queue-shown q object (NoEntry a f l m) is h =
      let t = four (r.of == x.by) (a == q) (counts_match (word_of q) f l m) (entry_count (word_of q) == ring_of sys q + 1) h in let c = counts q f l m t.2 in
      shows-no_entry sys words views holds id v at_id room q object r.of r (item-says r ∙ (ap (item r.of) is ∙ (λ i. item r.of (NoEntry (eqb-true a q t.1 i) (c.0 i) (c.1 i) (c.2 i))))) (eqb-true (entry_count (word_of q)) (ring_of sys q + 1) t.3)
  queue-shown q object (NoLifo a f l m) is h =
      let t = four (r.of == x.by) (a == q) (counts_match (word_of q) f l m) (entry_count (word_of q) == ring_of sys q + 1) h in let c = counts q f l m t.2 in
      shows-no_lifo sys words views holds id v at_id room q object r.of r (item-says r ∙ (ap (item r.of) is ∙ (λ i. item r.of (NoLifo (eqb-true a q t.1 i) (c.0 i) (c.1 i) (c.2 i))))) (eqb-true (entry_count (word_of q)) (ring_of sys q + 1) t.3)
  queue-shown q object _ is h = cc

module _ (sys : System) (lanes : ℕ) (words : List ℕ) (x : Seat) (own : nat_lt x.number lanes ≡ true → 0 < length x.logs) where
  -- a step that changes nothing
  pub rest-keeps : StepKeeps sys words x words x
  rest-keeps views id holds at_id = subst (Holds sys words) (sym (set_again views id (as_view x) at_id)) holds

  look-with : (w : Word) (r : Rec) → is_here sys w ≡ true → may_state sys lanes words x w (Some r) ≡ true → StepKeeps sys words x words (noting r (shown words w) x)
  look-with (word.Pool q) r there h views id holds at_id =
      let t = adds lanes x (states sys words (word.Pool q) x.by r) h in
      pool-shown sys lanes words x own views id holds at_id r t.0 q there (body_of r) refl t.1
  look-with (word.Queue q) r there h views id holds at_id =
      let t = adds lanes x (states sys words (word.Queue q) x.by r) h in
      queue-shown sys lanes words x own views id holds at_id r t.0 q there (body_of r) refl t.1
  look-with (word.Block p b) r there h views id holds at_id = let t = adds lanes x false h in absurd (true≢false (sym t.1))
  look-with (word.Signal q) r there h views id holds at_id = cc
  look-with (word.Timer q) r there h views id holds at_id = cc

  look-without : (w : Word) → is_here sys w ≡ true → StepKeeps sys words x words (looked words x w None)
  look-without (word.Pool q) there views id holds at_id =
      let z = (holds.fitting.small q there).0 in looks sys words views holds id (as_view x) at_id (pool_at q) (omega arith)
  look-without (word.Queue q) there views id holds at_id =
      let z = (holds.fitting.objects q there).0 in looks sys words views holds id (as_view x) at_id (queue_at q) (omega arith)
  look-without (word.Block p b) there views id holds at_id =
      let z = holds.fitting.pools p b there in let z1 = z.1 in let z2 = z.2 in
      looks_from sys words views holds id (as_view x) at_id p b (omega arith)
  look-without (word.Signal q) there views id holds at_id = cc
  look-without (word.Timer q) there views id holds at_id = cc

  pub look-keeps : (w : Word) (rec : Option Rec) → may_look sys lanes words x w rec ≡ true → StepKeeps sys words x words (looked words x w rec)
  look-keeps w None h = look-without w (and_parts (is_here sys w) (may_state sys lanes words x w None) h).0
  look-keeps w (Some r) h = let t = and_parts (is_here sys w) (may_state sys lanes words x w (Some r)) h in look-with w r t.0 t.1
