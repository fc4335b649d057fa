-- Each kind of step on a queue keeps the rule, from any state that meets it.
use Rattle.std.proofs.Common.{◌≡◌, ℕ, zero, suc, ◌+◌, ◌-◌, ◌*◌, ◌/◌, ◌%◌, ◌<◌, ◌≤◌, ◌≢◌, List, [], ◌∷◌, ◌++◌, Bool, true, false, cond, ◌&&◌, length, drop, set, get_or, refl, sym, ap, subst, ◌∙◌, arith, eqb, eq-eqb, ne_eqb, IsTrue, get_or-set_other, length-append, suc-mul}
use Rattle.std.proofs.Math.Nat.{add-mul-mod_self_left, add-mod_right}
use mathlib.Core.Option.{some, some-injective}
use mathlib.Core.Logic.{dite}
use native.Mathlib.Decide.{ℕ_discrete}
use lib.ListN.{get_elem?}
use Rattle.qp_model.specs.declared.record.Rec.{Rec}
use Rattle.qp_model.specs.declared.bodies.Entry.{Entry}
use Rattle.qp_model.specs.declared.bodies.Body.TheVariants.{Post, Lifo, Took}
use Rattle.qp_model.specs.declared.systems.System.{System}
use Rattle.qp_model.specs.Record.{Item, item_of, body_of, body_at}
use Rattle.qp_model.specs.Line.{Line}
use Rattle.qp_model.specs.Sites.{ring_of}
use Rattle.qp_model.specs.WordLaw.{is_object}
use Rattle.qp_table.specs.Counting.{Each, sum_over, many, without}
use Rattle.qp_table.specs.Now.{Now, at, with_line, LeavesWords}
use Rattle.qp_table.specs.Rule.{queue_at, cell_at, mark_in, is_lifo, is_take_of, lifo_on, took_on, is_ref, is_entry, InLine, Codable, entries_of, OnlyFirst, is_item, is_place, on_queue, is_serve, QueueCells, Holds}
use Rattle.qp_table.specs.After.{rec_of, logged, InHand, HasRoom, place, claimed, put_first, view_took}
use Rattle.qp_table.specs.declared.view.SeatLog.{SeatLog}
use Rattle.qp_table.specs.declared.view.CellPlace.{CellPlace}
use Rattle.qp_table.specs.declared.view.View.{View}
use Rattle.qp_table.proofs.Counting.{total-at, many-snoc, cond-le}
use Rattle.qp_table.proofs.Records.{post-leaves, lifo-leaves, took-leaves}
use Rattle.qp_table.proofs.Bounds.{refs-count, refs-named}
use Rattle.qp_table.proofs.Views.{total-two, records-logged, quiet-same, quiet-noted}
use Rattle.qp_table.proofs.Tokens.{b2n, standing, held-stands}
use Rattle.qp_table.proofs.Kept.{events-same, shows-queue, queue-same}
use Rattle.qp_table.proofs.Step.{Lane, lane, leaves-here, drawn-step}
use Rattle.qp_table.proofs.Marks.{high-mark, own-counts, first-small, line-shows}
use Rattle.qp_table.proofs.Growth.{grows-queue}
use Rattle.qp_table.proofs.Lines.{entries-length, cond-zero}
use Rattle.qp_table.proofs.Queue.{fresh_item, queue-post, queue-lifo, queue-took}
use Rattle.qp_table.proofs.QueueSums.{tokens-line, spent-many, gained-many, item, item-eq, here-meets, else-meets, stage-apart, places-less, queues-one, serves-same, serves-else, serves-home, bump-many}

-- what the records say
pub post-says : (o a f l m : ℕ) (e : Entry) → item_of (rec_of 20 o (a ∷ f ∷ l ∷ m ∷ e.pool ∷ e.block ∷ e.name ∷ [])) ≡ record { of = o; body = Post a f l m e }
unfolding item_of body_of body_at
post-says o a f l m e = refl

pub lifo-says : (a f l m : ℕ) (e : Entry) → item_of (rec_of 21 a (f ∷ l ∷ m ∷ e.pool ∷ e.block ∷ e.name ∷ [])) ≡ record { of = a; body = Lifo f l m e }
unfolding item_of body_of body_at
lifo-says a f l m e = refl

pub took-says : (a f l m : ℕ) (e : Entry) → item_of (rec_of 5 a (f ∷ l ∷ m ∷ e.pool ∷ e.block ∷ e.name ∷ [])) ≡ record { of = a; body = Took f l m e }
unfolding item_of body_of body_at
took-says a f l m e = refl

eqb-swap : (a b : ℕ) → eqb a b ≡ eqb b a
eqb-swap a b = dite (ℕ_discrete a b) (λ e. eq-eqb a b e ∙ sym (eq-eqb b a (sym e))) (λ n. ne_eqb a b n ∙ sym (ne_eqb b a (λ e. n (sym e))))

ends : (n l : ℕ) → 0 < n → n * l ≡ (n - 1) * l + l
ends zero l h = absurd (omega arith)
ends (suc n) l h = let e : suc n - 1 ≡ n = omega arith in rw (suc-mul n l, e) refl

logs-more : (r : Rec) (v : View) (g : SeatLog) (gs : List SeatLog) → v.logs ≡ g ∷ gs → sum_over (λ (g : SeatLog). length g.recs) (logged r v.logs) ≡ sum_over (λ (g : SeatLog). length g.recs) v.logs + 1
logs-more r v g gs e = rw e (omega (arith, length-append g.recs (r ∷ [])))

-- only the first entry in line may be under way
below-two : (j : ℕ) (e : Entry) (is : List InLine) → Each (λ (y : InLine). y.stage ≢ 2) is → many (is_item 2 j e) is ≡ 0
below-two j e [] h = refl
below-two j e (i ∷ is) h = let z = below-two j e is h.1 in let n : i.stage ≢ 2 = h.0 in let f : is_item 2 j e i ≡ false = (λ x. (ne_eqb i.stage 2 n x && eqb i.cell j) && is_entry e i.entry) in let g = ap b2n f in omega arith

taken-case : (j : ℕ) (e : Entry) (b : Bool) (i : InLine) (is : List InLine) → is_item 2 j e i ≡ b → Each (λ (y : InLine). y.stage ≢ 2) is → 0 < cond b 1 0 + many (is_item 2 j e) is → is_item 2 j e i ≡ true
taken-case j e true i is h o l = h
taken-case j e false i is h o l = let z = below-two j e is o in absurd (omega arith)

taken-first : (j : ℕ) (e : Entry) (xs : List InLine) → OnlyFirst xs → 0 < many (is_item 2 j e) xs → (i : InLine) × (is : List InLine) × (xs ≡ i ∷ is) × (is_item 2 j e i ≡ true)
taken-first j e [] o l = absurd (omega arith)
taken-first j e (i ∷ is) o l = (i, is, refl, taken-case j e (is_item 2 j e i) i is refl o l)

and-three : (a b c : Bool) → cond {A = ℕ} ((a && b) && c) 1 0 ≤ cond a 1 0
and-three true b c = cond-le (b && c)
and-three false b c = omega arith

on-le : (a j : ℕ) (e : Entry) (x : CellPlace) → b2n (is_place a j e x) ≤ b2n (on_queue a x)
on-le a j e x = and-three (eqb x.queue a) (eqb x.cell j) (is_entry e x.entry)

many-sub : {A : Type 0} (p q : A → Bool) → ((x : A) → b2n (p x) ≤ b2n (q x)) → (xs : List A) → many p xs ≤ many q xs
many-sub p q h [] = omega arith
many-sub p q h (x ∷ xs) = let a = h x in let b = many-sub p q h xs in omega arith

without-cons : {A : Type 0} (p q : A → Bool) (t : Bool) (x : A) (xs : List A) → many q (without p xs) ≤ many q xs → many q (cond t xs (x ∷ without p xs)) ≤ b2n (q x) + many q xs
without-cons p q true x xs h = omega arith
without-cons p q false x xs h = omega arith

pub without-le : {A : Type 0} (p q : A → Bool) (xs : List A) → many q (without p xs) ≤ many q xs
without-le p q [] = omega arith
without-le p q (x ∷ xs) = without-cons p q (p x) x xs (without-le p q xs)

no-total : {A : Type 0} (f : A → ℕ) (xs : List A) → ((i : ℕ) (x : A) → get_elem? xs i ≡ some x → f x ≡ 0) → sum_over f xs ≡ 0
no-total f [] h = refl
no-total f (x ∷ xs) h = let a = h 0 x refl in let b = no-total f xs (λ i y e. h (suc i) y e) in omega arith

-- where none is under way
still : (xs : List InLine) → ((j : ℕ) (e : Entry) → many (is_item 2 j e) xs ≡ 0) → Each (λ (i : InLine). i.stage ≢ 2) xs
still [] h = tt
still (i ∷ is) h = (
  (λ two. let z = h i.cell i.entry in let one : is_item 2 i.cell i.entry i ≡ true = (λ x. (eq-eqb i.stage 2 two x && eq-eqb i.cell i.cell refl x) && ((eq-eqb i.entry.pool i.entry.pool refl x && eq-eqb i.entry.block i.entry.block refl x) && eq-eqb i.entry.name i.entry.name refl x)) in let o = ap b2n one in absurd (omega arith)),
  still is (λ j e. let z = h j e in omega arith),
)

module _ (sys : System) (words : List ℕ) (views : List View) (holds : Holds sys words views) (id : ℕ) (v : View) (at_id : get_elem? views id ≡ some v) (a : ℕ) (object : IsTrue (is_object sys a)) where
  abbrev now : Now
  now = holds.now

  abbrev s : Line
  s = now.line a

  abbrev n : ℕ
  n = ring_of sys a + 1

  abbrev items : List InLine
  items = holds.items a

  -- the queue's word
  abbrev w : ℕ
  w = get_or words (queue_at a) 0

  inside : (a < 33) × (ring_of sys a < 256)
  inside = holds.fitting.objects a object

  abbrev q : QueueCells sys n words a s items
  q = holds.queues.queue a object

  own-counts-here : s.l + s.m ≤ 1000001
  own-counts-here = own-counts sys words views holds a object

  first-small-here : s.f ≤ 1000257
  first-small-here = first-small sys words views holds a object

  line-shows-here : (w % 2097152 ≡ s.f) × (w / 2097152 % 2097152 ≡ s.l) × (w / 4398046511104 ≡ s.m)
  line-shows-here = line-shows sys words views holds a object

  pub length-is : length s.entries ≡ length items
  length-is = sym (ap length q.same) ∙ entries-length items

  -- the cell behind the last one
  pub end-cell : (s.m + (n - 1) * s.l + length items) % n ≡ s.f % n
  end-cell = let c = q.counted in
      let p : n * s.l ≡ (n - 1) * s.l + s.l = ends n s.l (omega arith) in
      let e : s.m + (n - 1) * s.l + length items ≡ s.f + n * s.l = omega arith in
      ap (λ (z : ℕ). z % n) e ∙ add-mul-mod_self_left s.f n s.l

  -- an entry that is static or in hand can lie in a cell
  pub in-hand-codable : (e : Entry) → InHand sys e v → Codable sys e
  in-hand-codable e mine = record {
    static = mine.static;
    pooled = λ pos. let there = held-stands sys views now id v at_id holds.tokens e.pool e.block e.name pos (mine.pooled pos) in
        let alone = standing sys views now id v at_id holds.tokens e.pool e.block e.name there in
        let z = holds.fitting.pools e.pool e.block alone.0 in let c = refs-count sys holds.lanes now holds.leaves holds.logs.count holds.logs.room e.pool e.block alone.0 in let k = refs-named sys holds.lanes now holds.leaves holds.logs.count holds.logs.room e.pool e.block e.name alone.0 there in
        let c0 = c.0 in (z.1, z.2, omega arith);
  }

  module _ (own : HasRoom v) where
    few : length own.own.recs ≤ 1000000
    few = let r : sum_over (λ (g : SeatLog). length g.recs) (own.own ∷ own.others) < 1000001 = subst (λ (ls : List SeatLog). sum_over (λ (g : SeatLog). length g.recs) ls < 1000001) own.is own.room in omega arith

    abbrev at_lane : Lane holds.lanes own.own
    at_lane = lane sys words views holds id v at_id own.own own.others own.is few

    leaves : LeavesWords sys (at_lane.before ++ own.own.recs ∷ at_lane.behind) now
    leaves = leaves-here sys words views holds id v at_id own.own own.others own.is few

    own-some : 0 < length v.logs
    own-some = rw own.is (omega arith)

    cells-stay : (x : ℕ) (b j : ℕ) → j < 256 → get_or (set words (queue_at a) x) (cell_at b j) 0 ≡ get_or words (cell_at b j) 0
    cells-stay x b j lt = get_or-set_other words (queue_at a) (cell_at b j) x 0 (λ z. let i = inside.0 in absurd (omega arith))

    -- A first-in place is drawn: where one is free, the entry is claimed for the cell behind the last
    pub claims : (o : ℕ) (e : Entry) (r : Rec) → item_of r ≡ record { of = o; body = Post a (w % 2097152 + 1) (w / 2097152 % 2097152) (w / 4398046511104) e } → InHand sys e v → w % 2097152 + w / 2097152 % 2097152 < w / 4398046511104 + n
        → Holds sys (set words (queue_at a) (w + 1)) (set views id (claimed v a (w + 1) r (w % 2097152 % n) e (mark_in (queue_at a) (w + 1))))
    claims o e r says mine some_free =
        let sh = line-shows-here in let s0 = sh.0 in let s1 = sh.1 in let s2 = sh.2 in let wd = holds.shows.queues a object in let fs = first-small-here in let oc = own-counts-here in
        let cnt = q.counted in let len = length-is in let j : ℕ = w % 2097152 % n in let k : ℕ = mark_in (queue_at a) (w + 1) in
        let u : View = claimed v a (w + 1) r j e k in
        let t : Line = record { entries = s.entries ++ e ∷ []; f = s.f + 1; l = s.l; m = s.m } in
        let more = logs-more r v own.own own.others own.is in let i0 = inside.0 in
        drawn-step sys words views holds id v at_id own.own own.others own.is few (queue_at a) (w + 1) r (with_line now a t) (at a (items ++ fresh_item e j ∷ []) holds.items) u
        (post-leaves sys at_lane.before own.own.recs at_lane.behind now leaves r a object o e (says ∙ (λ i. record { of = o; body = Post a (s0 i + 1) (s1 i) (s2 i) e })) (omega arith))
        (shows-queue sys holds.fitting words now holds.shows a (w + 1) t object (omega arith))
        (tokens-line sys views now id v u at_id holds.tokens a i0 t (λ p b k pos. let m = spent-many p b k e v.hands pos mine.pooled in let x = many-snoc (is_ref p b k) s.entries e in omega arith) refl refl)
        (events-same sys words (set words (queue_at a) (w + 1)) views now _ id v u at_id holds.events (λ y h. get_or-set_other words (queue_at a) y (w + 1) 0 (λ z. absurd (omega arith))) (λ p b. refl) refl refl refl)
        (queues-one sys words (set words (queue_at a) (w + 1)) views now holds.items id v u at_id holds.queues a object t (items ++ fresh_item e j ∷ [])
        (queue-same sys n words (set words (queue_at a) (w + 1)) a t (items ++ fresh_item e j ∷ []) (λ y lt. cells-stay (w + 1) a y lt)
        (queue-post sys n words a s items q e j (omega arith) (in-hand-codable e mine) (ap (λ z. z % n) s0 ∙ sym end-cell)))
        (λ b y ne lt. cells-stay (w + 1) b y lt)
        (λ y d. let m = many-snoc (is_place a y d) v.claims (place a j e k) in let x = many-snoc (is_item 0 y d) items (fresh_item e j) in let z = ap b2n (here-meets a j e k 0 y d) in omega arith)
        (λ b y d ne. let m = many-snoc (is_place b y d) v.claims (place a j e k) in let z = ap b2n (else-meets a j e k b y d ne) in omega arith)
        (λ y d. let x = many-snoc (is_item 2 y d) items (fresh_item e j) in let z = ap b2n (stage-apart 2 0 j y e d (λ z. absurd (omega arith))) in omega arith)
        (λ b y d ne. refl)
        (λ b. refl)
        (serves-same now a t v u refl refl refl (λ b. refl) (quiet-noted r _ v u says (λ b. refl) (λ b. refl) refl) (holds.queues.home id v at_id))
        (λ y z ne there o. serves-same now a t z z refl refl refl (λ b. refl) (quiet-same z z refl) o))
        (omega arith) (let x = high-mark (queue_at a) w (omega arith) in let y = high-mark (queue_at a) (w + 1) (omega arith) in omega arith) refl refl refl refl _
        (grows-queue sys at_lane.before own.own.recs at_lane.behind now leaves r _ says a _ t object refl (omega arith))

    -- how often the lane serves the queue, where it does
    served-once : 0 < many (is_serve a) v.serves → many (is_serve a) v.serves ≡ 1
    served-once h = let t = holds.queues.serves a in let x = total-at (λ (z : View). many (is_serve a) z.serves) views id v at_id in let c = ap b2n object in omega arith

    -- no other lane serves it then
    not-others : 0 < many (is_serve a) v.serves → (j : ℕ) (z : View) → j ≢ id → get_elem? views j ≡ some z → many (is_serve a) z.serves ≡ 0
    not-others h j z ne there = let t = holds.queues.serves a in let x = total-two (λ (z : View). many (is_serve a) z.serves) views id j v z at_id there (λ e. ne (sym e)) in let c = ap b2n object in omega arith

    -- a place under way in this view is the first entry in line
    pub under-way : (j : ℕ) (e : Entry) → 0 < many (is_place a j e) v.takes → (is : List InLine) × (items ≡ item e j 2 ∷ is)
    under-way j e mine =
        let x = total-at (λ (z : View). many (is_place a j e) z.takes) views id v at_id in let t = holds.queues.takes a j e in
        let f = taken-first j e items q.first (omega arith) in (f.1, f.2 ∙ ap (λ y. y ∷ f.1) (item-eq 2 j e f.0 f.3))

    -- where this lane serves the queue and takes nothing, nothing is under way
    pub none-under-way : 0 < many (is_serve a) v.serves → many (on_queue a) v.takes ≡ 0 → Each (λ (i : InLine). i.stage ≢ 2) items
    none-under-way serves idle = still items (λ j e. let t = holds.queues.takes a j e in
        let z = no-total (λ (z : View). many (is_place a j e) z.takes) views (λ i z there. let k = many-sub (is_place a j e) (on_queue a) (λ x. on-le a j e x) z.takes in
        dite (ℕ_discrete i id)
        (λ same. let vz : v ≡ z = some-injective v z (sym at_id ∙ (ap (get_elem? views) (sym same) ∙ there)) in let m = ap (λ (y : View). many (on_queue a) y.takes) vz in omega arith)
        (λ apart. let o = not-others serves i z apart there in let tk = (holds.queues.home i z there).taking a in omega arith)) in omega arith)

    -- The entry under way is freed: the queue counts one take more
    pub frees : (j : ℕ) (e : Entry) (r : Rec) → item_of r ≡ record { of = a; body = Took (w % 2097152) (w / 2097152 % 2097152) (w / 4398046511104 + 1) e } → 0 < many (is_place a j e) v.takes → 0 < many (is_serve a) v.serves
        → Holds sys (set words (queue_at a) (w + 4398046511104)) (set views id (view_took v a (w + 4398046511104) r j e))
    frees j e r says mine serves =
        let sh = line-shows-here in let s0 = sh.0 in let s1 = sh.1 in let s2 = sh.2 in let wd = holds.shows.queues a object in let fs = first-small-here in let oc = own-counts-here in
        let up = under-way j e mine in let is : List InLine = up.0 in let one = served-once serves in
        let w' : ℕ = w + 4398046511104 in
        let u : View = view_took v a (w + 4398046511104) r j e in
        let front : s.entries ≡ e ∷ entries_of is = sym q.same ∙ ap entries_of up.1 in
        let t : Line = record { entries = entries_of is; f = s.f; l = s.l; m = s.m + 1 } in
        let more = logs-more r v own.own own.others own.is in let i0 = inside.0 in
        drawn-step sys words views holds id v at_id own.own own.others own.is few (queue_at a) (w + 4398046511104) r (with_line now a t) (at a is holds.items) u
        (took-leaves sys at_lane.before own.own.recs at_lane.behind now leaves r a object e (entries_of is) (says ∙ (λ i. record { of = a; body = Took (s0 i) (s1 i) (s2 i + 1) e })) front)
        (shows-queue sys holds.fitting words now holds.shows a (w + 4398046511104) t object (omega arith))
        (tokens-line sys views now id v u at_id holds.tokens a i0 t (λ p b k pos. let m = gained-many p b k e v.hands pos in let x = ap (many (is_ref p b k)) front in omega arith) refl refl)
        (events-same sys words (set words (queue_at a) (w + 4398046511104)) views now _ id v u at_id holds.events (λ y h. get_or-set_other words (queue_at a) y (w + 4398046511104) 0 (λ z. absurd (omega arith))) (λ p b. refl) refl refl refl)
        (queues-one sys words (set words (queue_at a) (w + 4398046511104)) views now holds.items id v u at_id holds.queues a object t is
        (queue-same sys n words (set words (queue_at a) (w + 4398046511104)) a t is (λ y lt. cells-stay (w + 4398046511104) a y lt)
        (subst (λ (es : List Entry). QueueCells sys n words a (record { entries = es; f = s.f; l = s.l; m = s.m + 1 }) is) (ap (drop 1) front) (queue-took sys n words a s items q (item e j 2) is up.1 refl)))
        (λ b y ne lt. cells-stay (w + 4398046511104) b y lt)
        (λ y d. let x = ap (many (is_item 0 y d)) up.1 in let z = ap b2n (stage-apart 0 2 j y e d (λ z. absurd (omega arith))) in omega arith)
        (λ b y d ne. refl)
        (λ y d. let m = places-less a j e v.takes mine a y d in let x = ap (many (is_item 2 y d)) up.1 in let z = ap b2n (here-meets a j e 0 2 y d) in omega arith)
        (λ b y d ne. let m = places-less a j e v.takes mine b y d in let z = ap b2n (else-meets a j e 0 b y d ne) in omega arith)
        (λ b. bump-many a 0 1 b v.serves)
        (serves-home now a 0 1 t v u (omega arith) refl (omega arith) one refl (λ b. without-le (is_place a j e) (on_queue b) v.takes)
        (λ b. let c = records-logged (is_lifo b) r v.logs own-some in let z = ap (λ (x : Item). b2n (lifo_on b x.of x.body)) says in let g = cond-zero (eqb b a) in omega arith)
        (λ b. let c = records-logged (is_take_of b) r v.logs own-some in let z = ap (λ (x : Item). b2n (took_on b x.of x.body)) says in let g = ap b2n (eqb-swap a b) in omega arith)
        (omega arith) own.room (holds.queues.home id v at_id))
        (λ y z ne there o. serves-else now a t z (not-others serves y z ne there) o))
        (omega arith) (let x = high-mark (queue_at a) w (omega arith) in let y = high-mark (queue_at a) (w + 4398046511104) (omega arith) in omega arith) refl refl refl refl _
        (grows-queue sys at_lane.before own.own.recs at_lane.behind now leaves r _ says a _ t object refl (omega arith))

    -- A last-in place is drawn, where no take is under way
    pub lifos : (j : ℕ) (e : Entry) (r : Rec) → item_of r ≡ record { of = a; body = Lifo (w % 2097152) (w / 2097152 % 2097152 + 1) (w / 4398046511104) e } → j ≡ (s.m + (n - 1) * s.l + (n - 1)) % n → InHand sys e v → w % 2097152 + w / 2097152 % 2097152 < w / 4398046511104 + n → 0 < many (is_serve a) v.serves → many (on_queue a) v.takes ≡ 0
        → Holds sys (set words (queue_at a) (w + 2097152)) (set views id (put_first v a (w + 2097152) r j e (mark_in (queue_at a) (w + 2097152))))
    lifos j e r says at_front mine some_free serves idle =
        let sh = line-shows-here in let s0 = sh.0 in let s1 = sh.1 in let s2 = sh.2 in let wd = holds.shows.queues a object in let fs = first-small-here in let oc = own-counts-here in
        let cnt = q.counted in let len = length-is in let one = served-once serves in
        let k : ℕ = mark_in (queue_at a) (w + 2097152) in let u : View = put_first v a (w + 2097152) r j e k in
        let t : Line = record { entries = e ∷ s.entries; f = s.f; l = s.l + 1; m = s.m } in
        let more = logs-more r v own.own own.others own.is in let i0 = inside.0 in
        drawn-step sys words views holds id v at_id own.own own.others own.is few (queue_at a) (w + 2097152) r (with_line now a t) (at a (fresh_item e j ∷ items) holds.items) u
        (lifo-leaves sys at_lane.before own.own.recs at_lane.behind now leaves r a object e (says ∙ (λ i. record { of = a; body = Lifo (s0 i) (s1 i + 1) (s2 i) e })) (omega arith))
        (shows-queue sys holds.fitting words now holds.shows a (w + 2097152) t object (omega arith))
        (tokens-line sys views now id v u at_id holds.tokens a i0 t (λ p b k pos. let m = spent-many p b k e v.hands pos mine.pooled in omega arith) refl refl)
        (events-same sys words (set words (queue_at a) (w + 2097152)) views now _ id v u at_id holds.events (λ y h. get_or-set_other words (queue_at a) y (w + 2097152) 0 (λ z. absurd (omega arith))) (λ p b. refl) refl refl refl)
        (queues-one sys words (set words (queue_at a) (w + 2097152)) views now holds.items id v u at_id holds.queues a object t (fresh_item e j ∷ items)
        (queue-same sys n words (set words (queue_at a) (w + 2097152)) a t (fresh_item e j ∷ items) (λ y lt. cells-stay (w + 2097152) a y lt)
        (queue-lifo sys n words a s items q e j (omega arith) (in-hand-codable e mine) (none-under-way serves idle) at_front (λ y. add-mod_right y n)))
        (λ b y ne lt. cells-stay (w + 2097152) b y lt)
        (λ y d. let m = many-snoc (is_place a y d) v.claims (place a j e k) in let z = ap b2n (here-meets a j e k 0 y d) in omega arith)
        (λ b y d ne. let m = many-snoc (is_place b y d) v.claims (place a j e k) in let z = ap b2n (else-meets a j e k b y d ne) in omega arith)
        (λ y d. let z = ap b2n (stage-apart 2 0 j y e d (λ z. absurd (omega arith))) in omega arith)
        (λ b y d ne. refl)
        (λ b. bump-many a 1 0 b v.serves)
        (serves-home now a 1 0 t v u refl (omega arith) (omega arith) one refl (λ b. omega arith)
        (λ b. let c = records-logged (is_lifo b) r v.logs own-some in let z = ap (λ (x : Item). b2n (lifo_on b x.of x.body)) says in let g = ap b2n (eqb-swap a b) in omega arith)
        (λ b. let c = records-logged (is_take_of b) r v.logs own-some in let z = ap (λ (x : Item). b2n (took_on b x.of x.body)) says in let g = cond-zero (eqb b a) in omega arith)
        (omega arith) own.room (holds.queues.home id v at_id))
        (λ y z ne there o. serves-else now a t z (not-others serves y z ne there) o))
        (omega arith) (let x = high-mark (queue_at a) w (omega arith) in let y = high-mark (queue_at a) (w + 2097152) (omega arith) in omega arith) refl refl refl refl _
        (grows-queue sys at_lane.before own.own.recs at_lane.behind now leaves r _ says a _ t object refl (omega arith))
