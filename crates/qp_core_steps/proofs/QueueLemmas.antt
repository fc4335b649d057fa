-- Each step on a queue keeps the rule where it is allowed.
use Rattle.std.proofs.Common.{◌≡◌, ◌≢◌, ℕ, zero, suc, ◌+◌, ◌-◌, ◌*◌, ◌/◌, ◌%◌, ◌<◌, ◌≤◌, ◌==◌, nat_lt, nat_le, List, [], ◌∷◌, ◌++◌, Bool, true, false, not, cond, ◌&&◌, length, set, get_or, refl, sym, ap, subst, ◌∙◌, arith, eqb, eq-eqb, ne_eqb, eqb-true, true≢false, mod-eq_of_lt, mod-lt, IsTrue, Option, Some, None}
use Rattle.std.proofs.lemmas.Bool.{and_parts, not-true}
use Rattle.std.proofs.lemmas.Bool.Decides.{nat_tests}
use Rattle.std.specs.List.{list_any, find}
use mathlib.Core.Option.{some}
use lib.ListN.{get_elem?}
use Rattle.qp_model.specs.declared.systems.System.{System}
use Rattle.qp_model.specs.declared.bodies.Entry.{Entry}
use Rattle.qp_model.specs.Parts.{is_static}
use Rattle.qp_model.specs.Sites.{ring_of}
use Rattle.qp_model.specs.WordLaw.{is_block, is_object}
use Rattle.qp_table.specs.Counting.{Each, many}
use Rattle.qp_table.specs.Now.{Now}
use Rattle.qp_table.specs.Rule.{queue_at, cell_at, mark_in, is_ref, InLine, Codable, code, entries_of, Run, is_item, is_place, on_queue, is_serve, Served, Holds}
use Rattle.qp_table.specs.After.{InHand, place, claimed, put_first, laid, emptied, view_took, bump}
use Rattle.qp_table.specs.declared.view.SeatLog.{SeatLog}
use Rattle.qp_table.specs.declared.view.CellPlace.{CellPlace}
use Rattle.qp_table.specs.declared.view.Serve.{Serve}
use Rattle.qp_table.specs.declared.view.View.{View}
use Rattle.qp_table.proofs.Counting.{total-at}
use Rattle.qp_table.proofs.Marks.{high-mark, own-counts, first-small, line-shows}
use Rattle.qp_table.specs.QueueLaws.{f_in}
use Rattle.qp_table.proofs.Lines.{item-is}
use Rattle.qp_table.proofs.Cells.{lays, empties}
use Rattle.qp_table.proofs.QueueSteps.{claims, frees, lifos}
use Rattle.qp_core_steps.specs.Seats.{as_view, seat_may_act, may_add, glance, noting}
use Rattle.qp_core_steps.specs.Blocks.{added}
use Rattle.qp_core_steps.specs.Queues.{bumped, entry_for, in_hand, has_free_entry as has_free, operations_in, serves_it, may_claim, with_claim, SeatClaims, oldest_claim, code_of_entry, is_claimed, may_lay, Lays, front_at, before_at, decoded_entry, may_empty, SeatEmpties, may_free, Frees, may_lifo, Lifos}
use Rattle.qp_table.specs.Asked.{older}
use Rattle.qp_core_steps.specs.Keeps.{StepKeeps}
use Rattle.qp_core_steps.specs.declared.seats.Seat.{Seat}
use Rattle.qp_core_steps.proofs.ListLemmas.{any-many, none-many}
use Rattle.qp_core_steps.proofs.Standing.{has-room}
use Rattle.qp_core_steps.proofs.BlockLemmas.{adds-two}

-- the entry that a step names is static or in hand
in-hand-case : (sys : System) (x : Seat) (p b k : ℕ) → ((sig : ℕ) → IsTrue (is_static sys sig) → sig < 65536) → (c : Bool) → (p == 0) ≡ c → cond c ((b == 0) && is_static sys k) (is_block sys p b && list_any (is_ref p b k) x.hands) ≡ true
    → InHand sys (cond c (record { pool = 0; block = k; name = 0 }) (record { pool = p; block = b; name = k })) (as_view x)
in-hand-case sys x p b k signals true is h = let t = and_parts (b == 0) (is_static sys k) h in record {
  static = λ z. (t.1, signals k t.1, refl);
  pooled = λ pos. absurd (omega arith);
}
in-hand-case sys x p b k signals false is h = let t = and_parts (is_block sys p b) (list_any (is_ref p b k) x.hands) h in record {
  static = λ z. absurd (true≢false (sym (eq-eqb p 0 z) ∙ is));
  pooled = λ pos. any-many (is_ref p b k) x.hands t.1;
}

pub in-hand-is : (sys : System) (x : Seat) (p b k : ℕ) → ((sig : ℕ) → IsTrue (is_static sys sig) → sig < 65536) → in_hand sys x p b k ≡ true → InHand sys (entry_for p b k) (as_view x)
in-hand-is sys x p b k signals h = in-hand-case sys x p b k signals (p == 0) refl h

-- an entry that fits a cell has its code, and is read back from it
small-code : (b : ℕ) → b < 65536 → (b + 9223372036854775808) % 18446744073709551616 ≡ 9223372036854775808 + b
small-code b l = mod-eq_of_lt (omega arith) ∙ omega arith

large-code : (p b k : ℕ) → p < 16 → b < 32 → k < 281474976710656
    → (((p * 9007199254740992 % 18446744073709551616 + b * 281474976710656 % 18446744073709551616) % 18446744073709551616 + k) % 18446744073709551616 + 9223372036854775808) % 18446744073709551616 ≡ 9223372036854775808 + (p * 9007199254740992 + b * 281474976710656 + k)
large-code p b k lp lb lk = omega arith

code-case : (sys : System) (e : Entry) → Codable sys e → (c : Bool) → (e.pool == 0) ≡ c
    → (cond c e.block ((e.pool * 9007199254740992 % 18446744073709551616 + e.block * 281474976710656 % 18446744073709551616) % 18446744073709551616 + e.name) % 18446744073709551616 + 9223372036854775808) % 18446744073709551616
    ≡ 9223372036854775808 + cond c e.block (e.pool * 9007199254740992 + e.block * 281474976710656 + e.name)
code-case sys e k true is =
    let l = (k.static (eqb-true e.pool 0 is)).1 in let m : e.block % 18446744073709551616 ≡ e.block = mod-eq_of_lt (omega arith) in
    ap (λ (z : ℕ). (z + 9223372036854775808) % 18446744073709551616) m ∙ small-code e.block l
code-case sys e k false is = let b = k.pooled (pos e.pool is) in large-code e.pool e.block e.name b.0 b.1 b.2
  where
    pos : (p : ℕ) → (p == 0) ≡ false → 0 < p
    pos zero e = cc
    pos (suc p) e = omega arith

pub code-is : (sys : System) (e : Entry) → Codable sys e → code_of_entry e ≡ code e
code-is sys e k = code-case sys e k (e.pool == 0) refl

read-static : (b : ℕ) → b < 65536 → ((9223372036854775808 + b) % 9223372036854775808 / 9007199254740992 ≡ 0) × ((9223372036854775808 + b) % 9223372036854775808 ≡ b)
read-static b l = (omega arith, omega arith)

read-pooled : (p b k : ℕ) → 0 < p → p < 16 → b < 32 → k < 281474976710656 → let c = 9223372036854775808 + (p * 9007199254740992 + b * 281474976710656 + k) in
    (c % 9223372036854775808 / 9007199254740992 ≡ p) × (c % 9007199254740992 / 281474976710656 ≡ b) × (c % 281474976710656 ≡ k)
read-pooled p b k pos lp lb lk = (omega arith, omega arith, omega arith)

read-case : (sys : System) (e : Entry) → Codable sys e → (c : Bool) → (e.pool == 0) ≡ c → decoded_entry (9223372036854775808 + cond c e.block (e.pool * 9007199254740992 + e.block * 281474976710656 + e.name)) ≡ e
read-case sys e k true is =
    let z : e.pool ≡ 0 = eqb-true e.pool 0 is in let t = k.static z in let r = read-static e.block t.1 in
    rw (eq-eqb ((9223372036854775808 + e.block) % 9223372036854775808 / 9007199254740992) 0 r.0) (λ i. record { pool = sym z i; block = r.1 i; name = sym t.2 i })
read-case sys e k false is =
    let pos : 0 < e.pool = positive e.pool is in let b = k.pooled pos in let r = read-pooled e.pool e.block e.name pos b.0 b.1 b.2 in
    rw (ne_eqb ((9223372036854775808 + (e.pool * 9007199254740992 + e.block * 281474976710656 + e.name)) % 9223372036854775808 / 9007199254740992) 0 (λ h. let r0 = r.0 in absurd (omega arith)))
    (λ i. record { pool = r.0 i; block = r.1 i; name = r.2 i })
  where
    positive : (p : ℕ) → (p == 0) ≡ false → 0 < p
    positive zero e = cc
    positive (suc p) e = omega arith

pub code-read : (sys : System) (e : Entry) (c : ℕ) → Codable sys e → c ≡ code e → decoded_entry c ≡ e
code-read sys e c k is = ap decoded_entry is ∙ read-case sys e k (e.pool == 0) refl

-- the oldest claim on a queue is one of the claims
oldest-in : (a : ℕ) (xs : List CellPlace) (c : CellPlace) → oldest_claim a xs ≡ Some c → (0 < many (is_place a c.cell c.entry) xs)
oldest-in a [] c e = cc
oldest-in a (x ∷ xs) c e = go (x.queue == a) refl (oldest_claim a xs) refl (oldest-in a xs) e
  where
    self : (y : CellPlace) → (y.queue == a) ≡ true → cond {A = ℕ} (is_place a y.cell y.entry y) 1 0 ≡ 1
    self y h = (λ i. cond {A = ℕ} ((h i && eq-eqb y.cell y.cell refl i) && ((eq-eqb y.entry.pool y.entry.pool refl i && eq-eqb y.entry.block y.entry.block refl i) && eq-eqb y.entry.name y.entry.name refl i)) 1 0)

    same : (y z : CellPlace) → Some y ≡ Some z → y ≡ z
    same y z h = cc

    among : (z : CellPlace) (n : ℕ) → Some z ≡ Some c → 0 < many (is_place a z.cell z.entry) (x ∷ xs) → 0 < many (is_place a c.cell c.entry) (x ∷ xs)
    among z n h there = subst (λ (y : CellPlace). 0 < many (is_place a y.cell y.entry) (x ∷ xs)) (same z c h) there

    pick : (o : Option CellPlace) → oldest_claim a xs ≡ o → ((y : CellPlace) → oldest_claim a xs ≡ Some y → 0 < many (is_place a y.cell y.entry) xs) → (x.queue == a) ≡ true → Some (older x o) ≡ Some c → 0 < many (is_place a c.cell c.entry) (x ∷ xs)
    pick None is rest h e = among x 0 e (let one = self x h in omega arith)
    pick (Some y) is rest h e = choose (nat_le x.number y.number) e
      where
        choose : (t : Bool) → Some (cond t x y) ≡ Some c → 0 < many (is_place a c.cell c.entry) (x ∷ xs)
        choose true e = among x 0 e (let one = self x h in omega arith)
        choose false e = among y 0 e (let r = rest y is in omega arith)

    go : (t : Bool) → (x.queue == a) ≡ t → (o : Option CellPlace) → oldest_claim a xs ≡ o → ((y : CellPlace) → oldest_claim a xs ≡ Some y → 0 < many (is_place a y.cell y.entry) xs) → cond t (Some (older x o)) o ≡ Some c → 0 < many (is_place a c.cell c.entry) (x ∷ xs)
    go true h o is rest e = pick o is rest h e
    go false h o is rest e = let r = rest c (is ∙ e) in omega arith

-- an item of a queue lies in one of its cells, and has an entry that fits a cell
item-inside : (sys : System) (n b s j : ℕ) (e : Entry) (xs : List InLine) → 0 < n → Run n b xs → Each (Codable sys) (entries_of xs) → 0 < many (is_item s j e) xs → (j < n) × Codable sys e
item-inside sys n b s j e [] pos run fit h = absurd (omega arith)
item-inside sys n b s j e (i ∷ is) pos run fit h = go (is_item s j e i) refl (item-inside sys n (b + 1) s j e is pos run.1 fit.1) h
  where
    go : (t : Bool) → is_item s j e i ≡ t → (0 < many (is_item s j e) is → (j < n) × Codable sys e) → 0 < cond t 1 0 + many (is_item s j e) is → (j < n) × Codable sys e
    go true h rest l = let z = item-is s j e i h in (subst (λ y. y < n) (sym run.0 ∙ z.1) (mod-lt b pos), subst (Codable sys) z.2 fit.0)
    go false h rest l = rest (omega arith)

module _ (sys : System) (words : List ℕ) (views : List View) (holds : Holds sys words views) (id : ℕ) (v : View) (at_id : get_elem? views id ≡ some v) (a j : ℕ) (e : Entry) (mine : 0 < many (is_place a j e) v.claims) where
  claim-item : 0 < many (is_item 0 j e) (holds.items a)
  claim-item = let t = holds.queues.claims a j e in let x = total-at (λ (z : View). many (is_place a j e) z.claims) views id v at_id in omega arith

  object-case : (t : Bool) → is_object sys a ≡ t → is_object sys a ≡ true
  object-case true h = h
  object-case false h = let o = (holds.queues.none a h).0 in let z = ap (many (is_item 0 j e)) o in let c = claim-item in absurd (omega arith)

  pub claim-object : is_object sys a ≡ true
  claim-object = object-case (is_object sys a) refl

  pub claim-inside : (j < ring_of sys a + 1) × Codable sys e
  claim-inside = let q = holds.queues.queue a claim-object in
      item-inside sys (ring_of sys a + 1) ((holds.now.line a).m + (ring_of sys a + 1 - 1) * (holds.now.line a).l) 0 j e (holds.items a) (omega arith) q.run (subst (Each (Codable sys)) (sym q.same) q.bounded) claim-item

-- what the seat serves, after an addition that doesn't wrap
bump-same : (now : Now) (logs : List SeatLog) (a l m : ℕ) (xs : List Serve) → l + m ≤ 1 → Each (Served now logs) xs → bumped a l m xs ≡ bump a l m xs
bump-same now logs a l m [] le e = refl
bump-same now logs a l m (x ∷ xs) le e =
    let f = e.0.few in let p : added x.lifos l ≡ x.lifos + l = mod-eq_of_lt (omega arith) in let q : added x.takes m ≡ x.takes + m = mod-eq_of_lt (omega arith) in
    λ i. cond (eqb x.object a) (record x { lifos = p i; takes = q i }) x ∷ bump-same now logs a l m xs le e.1 i

-- the first of the places on a queue is one of them
place-self : (y : CellPlace) (a : ℕ) → on_queue a y ≡ true → cond {A = ℕ} (is_place a y.cell y.entry y) 1 0 ≡ 1
place-self y a h = (λ i. cond {A = ℕ} ((h i && eq-eqb y.cell y.cell refl i) && ((eq-eqb y.entry.pool y.entry.pool refl i && eq-eqb y.entry.block y.entry.block refl i) && eq-eqb y.entry.name y.entry.name refl i)) 1 0)

find-in : (a : ℕ) (xs : List CellPlace) (t : CellPlace) → find (on_queue a) xs ≡ Some t → (0 < many (is_place a t.cell t.entry) xs) × (0 < many (on_queue a) xs)
find-in a [] t e = cc
find-in a (x ∷ xs) t e = go (on_queue a x) refl (find-in a xs t) e
  where
    same : (y z : CellPlace) → Some y ≡ Some z → y ≡ z
    same y z h = cc

    go : (c : Bool) → on_queue a x ≡ c → (find (on_queue a) xs ≡ Some t → (0 < many (is_place a t.cell t.entry) xs) × (0 < many (on_queue a) xs)) → cond c (Some x) (find (on_queue a) xs) ≡ Some t
        → (0 < many (is_place a t.cell t.entry) (x ∷ xs)) × (0 < cond {A = ℕ} (on_queue a x) 1 0 + many (on_queue a) xs)
    go true h rest e = let one = place-self x a h in let two = ap (λ (b : Bool). cond {A = ℕ} b 1 0) h in
        (subst (λ (y : CellPlace). 0 < many (is_place a y.cell y.entry) (x ∷ xs)) (same x t e) (omega arith), omega arith)
    go false h rest e = let r = rest e in let r0 = r.0 in let r1 = r.1 in (omega arith, omega arith)

module _ (sys : System) (lanes : ℕ) (words : List ℕ) (x : Seat) (own : nat_lt x.number lanes ≡ true → 0 < length x.logs) (words' : List ℕ) (x' : Seat) where
  -- the step's own lemma gives the rule for equal words and an equal view
  along : (views : List View) (id : ℕ) (ws : List ℕ) (u : View) → ws ≡ words' → u ≡ as_view x' → Holds sys ws (set views id u) → Holds sys words' (set views id (as_view x'))
  along views id ws u e f h = subst (λ (z : List ℕ × View). Holds sys z.0 (set views id z.1)) (λ i. (e i, f i)) h

  -- a queue's word is small
  word-below : (views : List View) (holds : Holds sys words views) (a : ℕ) → IsTrue (is_object sys a) → get_or words (queue_at a) 0 < 9000000000000000000
  word-below views holds a object = let q = holds.shows.queues a object in let o = own-counts sys words views holds a object in let f = first-small sys words views holds a object in omega arith

  number-is : (a n : ℕ) → mark_in (queue_at a) n ≡ operations_in n
  number-is a n = high-mark (queue_at a) n (omega arith)

  free-is : (a : ℕ) → has_free sys a (get_or words (queue_at a) 0) ≡ true → let w = get_or words (queue_at a) 0 in w % 2097152 + w / 2097152 % 2097152 < w / 4398046511104 + (ring_of sys a + 1)
  free-is a h = grind (arith, nat_tests)

  pub claim-keeps : (a p b k : ℕ) → may_claim sys lanes words x a p b k ≡ true → SeatClaims sys words x a p b k words' x' → StepKeeps sys words x words' x'
  claim-keeps a p b k may made views id holds at_id =
      let c = and_parts ((may_add lanes x && is_object sys a) && in_hand sys x p b k) (has_free sys a (get_or words (queue_at a) 0)) may in
      let t = adds-two lanes x (is_object sys a) (in_hand sys x p b k) c.0 in
      let v : View = as_view x in let room = has-room lanes x own t.0 in let w : ℕ = get_or words (queue_at a) 0 in
      let e : Entry = entry_for p b k in
      let below = word-below views holds a t.1 in let m : added w 1 ≡ w + 1 = mod-eq_of_lt (omega arith) in
      let u : View = claimed v a (w + 1) made.0 (f_in w % (ring_of sys a + 1)) e (mark_in (queue_at a) (w + 1)) in
      let number : mark_in (queue_at a) (w + 1) ≡ operations_in (added w 1) = number-is a (w + 1) ∙ ap operations_in (sym m) in
      along views id (set words (queue_at a) (w + 1)) u (ap (set words (queue_at a)) (sym m) ∙ sym made.2) ((λ i. as_view (with_claim x made.0 (glance (queue_at a) (sym m i)) a (f_in w % (ring_of sys a + 1)) e (number i))) ∙ (λ i. as_view (sym made.3 i)))
      (claims sys words views holds id v at_id a t.1 room x.by e made.0 made.1 (in-hand-is sys x p b k holds.fitting.signals t.2) (free-is a c.1))

  pub lay-keeps : (a : ℕ) → may_lay lanes x a ≡ true → Lays words x a words' x' → StepKeeps sys words x words' x'
  lay-keeps a may made views id holds at_id =
      let v : View = as_view x in let c : CellPlace = made.0 in
      let mine = oldest-in a x.claims c made.1 in
      let object = claim-object sys words views holds id v at_id a c.cell c.entry mine in
      let inside = claim-inside sys words views holds id v at_id a c.cell c.entry mine in
      let ring = (holds.fitting.objects a object).1 in let i0 = inside.0 in
      let cell : c.cell % 256 ≡ c.cell = mod-eq_of_lt (omega arith) in
      let u : View = laid v a c.cell c.entry in
      along views id (set words (cell_at a c.cell) (code c.entry)) u ((λ i. set words (cell_at a (sym cell i)) (sym (code-is sys c.entry inside.1) i)) ∙ sym made.2) (λ i. as_view (sym made.3 i))
      (lays sys words views holds id v at_id a object c.cell c.entry inside.0 mine)

  front-same : (views : List View) (holds : Holds sys words views) (a : ℕ) → IsTrue (is_object sys a) → front_at sys a (get_or words (queue_at a) 0) ≡ ((holds.now.line a).m + (ring_of sys a + 1 - 1) * (holds.now.line a).l) % (ring_of sys a + 1)
  front-same views holds a object = let l = line-shows sys words views holds a object in let r : ring_of sys a ≡ ring_of sys a + 1 - 1 = omega arith in
      λ i. (l.2 i + r i * l.1 i) % (ring_of sys a + 1)

  before-same : (views : List View) (holds : Holds sys words views) (a : ℕ) → IsTrue (is_object sys a)
      → before_at sys a (get_or words (queue_at a) 0) ≡ ((holds.now.line a).m + (ring_of sys a + 1 - 1) * (holds.now.line a).l + (ring_of sys a + 1 - 1)) % (ring_of sys a + 1)
  before-same views holds a object = let l = line-shows sys words views holds a object in let r : ring_of sys a ≡ ring_of sys a + 1 - 1 = omega arith in
      λ i. (l.2 i + r i * l.1 i + r i) % (ring_of sys a + 1)

  pub empty-keeps : (a : ℕ) → may_empty sys lanes words x a ≡ true → SeatEmpties sys words x a words' x' → StepKeeps sys words x words' x'
  empty-keeps a may made views id holds at_id =
      let v : View = as_view x in
      let j : ℕ = front_at sys a (get_or words (queue_at a) 0) in
      let c = and_parts (((seat_may_act lanes x && is_object sys a) && serves_it x a) && not (list_any (on_queue a) x.takes)) (not (get_or words (cell_at a j) 0 == 0)) may in
      let d = and_parts ((seat_may_act lanes x && is_object sys a) && serves_it x a) (not (list_any (on_queue a) x.takes)) c.0 in
      let e = and_parts (seat_may_act lanes x && is_object sys a) (serves_it x a) d.0 in
      let o = and_parts (seat_may_act lanes x) (is_object sys a) e.0 in
      let full : get_or words (cell_at a j) 0 ≢ 0 = (λ z. let n = not-true (get_or words (cell_at a j) 0 == 0) c.1 in true≢false (sym (eq-eqb (get_or words (cell_at a j) 0) 0 z) ∙ n)) in
      let r = empties sys words views holds id v at_id a o.1 (own o.0) j (front-same views holds a o.1) full (any-many (is_serve a) x.serves e.1) (none-many (on_queue a) x.takes (not-true (list_any (on_queue a) x.takes) d.1)) in
      let u : View = emptied v a j r.0 in
      let read : decoded_entry (get_or words (cell_at a j) 0) ≡ r.0 = code-read sys r.0 (get_or words (cell_at a j) 0) r.1 r.2 in
      along views id (set words (cell_at a j) 0) u (sym made.0) ((λ i. as_view (record x { takes = x.takes ++ place a j (sym read i) 0 ∷ [] })) ∙ (λ i. as_view (sym made.1 i))) r.3

  pub free-keeps : (a : ℕ) → may_free sys lanes x a ≡ true → Frees words x a words' x' → StepKeeps sys words x words' x'
  free-keeps a may made views id holds at_id =
      let t = adds-two lanes x (is_object sys a) (is_claimed (find (on_queue a) x.takes)) may in
      let v : View = as_view x in let room = has-room lanes x own t.0 in let w : ℕ = get_or words (queue_at a) 0 in
      let q : CellPlace = made.1 in let mine = find-in a x.takes q made.2 in
      let home = holds.queues.home id v at_id in
      let serves : 0 < many (is_serve a) x.serves = (let y = home.taking a in let z = mine.1 in omega arith) in
      let below = word-below views holds a t.1 in let m : added w 4398046511104 ≡ w + 4398046511104 = mod-eq_of_lt (omega arith) in
      let u : View = view_took v a (w + 4398046511104) made.0 q.cell q.entry in
      along views id (set words (queue_at a) (w + 4398046511104)) u (ap (set words (queue_at a)) (sym m) ∙ sym made.4)
      ((λ i. as_view (record (noting made.0 (glance (queue_at a) (sym m i)) x) { takes = u.takes; hands = u.hands; serves = sym (bump-same holds.now x.logs a 0 1 x.serves (omega arith) home.counts) i })) ∙ (λ i. as_view (sym made.5 i)))
      (frees sys words views holds id v at_id a t.1 room q.cell q.entry made.0 made.3 mine.0 serves)

  pub lifo-keeps : (a p b k : ℕ) → may_lifo sys lanes words x a p b k ≡ true → Lifos sys words x a p b k words' x' → StepKeeps sys words x words' x'
  lifo-keeps a p b k may made views id holds at_id =
      let f = and_parts ((((may_add lanes x && is_object sys a) && serves_it x a) && not (list_any (on_queue a) x.takes)) && in_hand sys x p b k) (has_free sys a (get_or words (queue_at a) 0)) may in
      let g = and_parts (((may_add lanes x && is_object sys a) && serves_it x a) && not (list_any (on_queue a) x.takes)) (in_hand sys x p b k) f.0 in
      let d = and_parts ((may_add lanes x && is_object sys a) && serves_it x a) (not (list_any (on_queue a) x.takes)) g.0 in
      let t = adds-two lanes x (is_object sys a) (serves_it x a) d.0 in
      let v : View = as_view x in let room = has-room lanes x own t.0 in let w : ℕ = get_or words (queue_at a) 0 in
      let e : Entry = entry_for p b k in let home = holds.queues.home id v at_id in
      let below = word-below views holds a t.1 in let m : added w 2097152 ≡ w + 2097152 = mod-eq_of_lt (omega arith) in
      let u : View = put_first v a (w + 2097152) made.0 (before_at sys a w) e (mark_in (queue_at a) (w + 2097152)) in
      let number : mark_in (queue_at a) (w + 2097152) ≡ operations_in (added w 2097152) = number-is a (w + 2097152) ∙ ap operations_in (sym m) in
      along views id (set words (queue_at a) (w + 2097152)) u (ap (set words (queue_at a)) (sym m) ∙ sym made.2)
      ((λ i. as_view (record (noting made.0 (glance (queue_at a) (sym m i)) x) { hands = u.hands; claims = x.claims ++ place a (before_at sys a w) e (number i) ∷ []; serves = sym (bump-same holds.now x.logs a 1 0 x.serves (omega arith) home.counts) i })) ∙ (λ i. as_view (sym made.3 i)))
      (lifos sys words views holds id v at_id a t.1 room (before_at sys a w) e made.0 made.1 (before-same views holds a t.1) (in-hand-is sys x p b k holds.fitting.signals g.1) (free-is a f.1)
      (any-many (is_serve a) x.serves t.2) (none-many (on_queue a) x.takes (not-true (list_any (on_queue a) x.takes) d.1)))
