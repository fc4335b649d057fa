-- References and places, after a step on one queue.
use Rattle.std.proofs.Common.{◌≡◌, ℕ, zero, suc, ◌+◌, ◌<◌, ◌≤◌, ◌≢◌, List, [], ◌∷◌, Bool, true, false, cond, ◌&&◌, length, set, get_or, refl, sym, ap, subst, ◌∙◌, arith, eqb, true≢false, eq-eqb, ne_eqb, eqb-true, IsTrue}
use mathlib.Core.Option.{some}
use mathlib.Core.Logic.{dite}
use native.Mathlib.Decide.{ℕ_discrete}
use lib.ListN.{get_elem?}
use Rattle.std.proofs.lemmas.Bool.{and_parts, and_left}
use Rattle.qp_model.specs.declared.bodies.Entry.{Entry}
use Rattle.qp_model.specs.declared.systems.System.{System}
use Rattle.qp_model.specs.Line.{Line}
use Rattle.qp_model.specs.Sites.{ring_of}
use Rattle.qp_model.specs.WordLaw.{is_object}
use Rattle.qp_table.specs.Counting.{Each, sum_over, many, without, upto}
use Rattle.qp_table.specs.Now.{Now, at, with_line}
use Rattle.qp_table.specs.Rule.{cell_at, is_lifo, is_take_of, records, Served, is_ref, is_entry, Tokens, InLine, Items, is_item, is_place, on_queue, is_serve, QueueCells, Serves, Queues}
use Rattle.qp_table.specs.After.{hands_without, gained, place, bump}
use Rattle.qp_table.specs.declared.view.SeatLog.{SeatLog}
use Rattle.qp_table.specs.declared.view.CellPlace.{CellPlace}
use Rattle.qp_table.specs.declared.view.Serve.{Serve}
use Rattle.qp_table.specs.declared.view.View.{View}
use Rattle.qp_table.proofs.Counting.{each-map, many-snoc, many-without}
use Rattle.qp_table.proofs.Growing.{at-here, at-else, at-each}
use Rattle.qp_table.proofs.Tokens.{b2n, tokens-set, begun-kept, worn-kept}
use Rattle.qp_table.proofs.Kept.{queue-same, queues-set}
use Rattle.qp_table.proofs.Views.{Quiet}
use Rattle.qp_table.proofs.Lines.{entry-is, item-is}

-- a sum over the queues where one has changed
upto-below : (n : ℕ) (g h : ℕ → ℕ) (a : ℕ) → n ≤ a → ((b : ℕ) → b ≢ a → g b ≡ h b) → upto n g ≡ upto n h
upto-below zero g h a l e = refl
upto-below (suc n) g h a l e = let s = upto-below n g h a (omega arith) e in let t = e n (λ z. absurd (omega arith)) in omega arith

pub upto-set : (n : ℕ) (g h : ℕ → ℕ) (a : ℕ) → a < n → ((b : ℕ) → b ≢ a → g b ≡ h b) → upto n g + h a ≡ upto n h + g a
upto-set zero g h a l e = absurd (omega arith)
upto-set (suc n) g h a l e = dite (ℕ_discrete n a)
    (λ same. let s = upto-below n g h a (omega arith) e in let x = ap g same in let y = ap h same in omega arith)
    (λ other. let s = upto-set n g h a (omega arith) e in let t = e n other in omega arith)

-- the references, where the line of a becomes s and what leaves the hands comes into it
pub tokens-line : (sys : System) (views : List View) (now : Now) (id : ℕ) (v u : View) → get_elem? views id ≡ some v → Tokens sys views now → (a : ℕ) → a < 33 → (s : Line)
    → ((p b k : ℕ) → 0 < p → many (is_ref p b k) u.hands + many (is_ref p b k) s.entries ≡ many (is_ref p b k) v.hands + many (is_ref p b k) (now.line a).entries)
    → u.fresh ≡ v.fresh → u.used ≡ v.used → Tokens sys (set views id u) (with_line now a s)
tokens-line sys views now id v u at_id tokens a inside s moved fresh used =
    let next : Now = with_line now a s in
    tokens-set sys views now next id v u at_id tokens
    (λ p b. rw (fresh, used) refl)
    (λ p b k pos. let m = moved p b k pos in
    let t = upto-set 33 (λ c. many (is_ref p b k) (next.line c).entries) (λ c. many (is_ref p b k) (now.line c).entries) a inside (λ c n. ap (λ (l : Line). many (is_ref p b k) l.entries) (at-else a s now.line c n)) in
    let h = ap (λ (l : Line). many (is_ref p b k) l.entries) (at-here a s now.line) in omega arith)
    (begun-kept sys views now next id v u at_id tokens fresh (λ p b. refl) (λ p b. refl))
    (worn-kept sys views now next id v u at_id tokens used (λ p b. refl) (λ p b. refl))
    tokens.named

static-ref : (p b k : ℕ) (e : Entry) → 0 < p → e.pool ≡ 0 → is_ref p b k e ≡ false
static-ref p b k e pos z = and_left (eqb e.pool p && eqb e.block b) (eqb e.name k) (and_left (eqb e.pool p) (eqb e.block b) (ne_eqb e.pool p (λ q. absurd (omega arith))))

pub spent-many : (p b k : ℕ) (e : Entry) (hands : List Entry) → 0 < p → (0 < e.pool → 0 < many (is_entry e) hands) → many (is_ref p b k) (hands_without e hands) + b2n (is_ref p b k e) ≡ many (is_ref p b k) hands
spent-many p b k e hands pos own = dite (ℕ_discrete e.pool 0)
    (λ z. rw (eq-eqb e.pool 0 z) (let s = ap b2n (static-ref p b k e pos z) in omega arith))
    (λ n. rw (ne_eqb e.pool 0 n) (many-without (is_entry e) (is_ref p b k) (is_ref p b k e) (λ x h. ap (is_ref p b k) (entry-is e x h)) hands (own (omega arith))))

pub gained-many : (p b k : ℕ) (e : Entry) (hands : List Entry) → 0 < p → many (is_ref p b k) (gained e hands) ≡ many (is_ref p b k) hands + b2n (is_ref p b k e)
gained-many p b k e hands pos = dite (ℕ_discrete e.pool 0)
    (λ z. rw (eq-eqb e.pool 0 z) (let s = ap b2n (static-ref p b k e pos z) in omega arith))
    (λ n. rw (ne_eqb e.pool 0 n) (many-snoc (is_ref p b k) hands e))

-- places and items
pub place-is : (a j : ℕ) (e : Entry) (x : CellPlace) → is_place a j e x ≡ true → (x.queue ≡ a) × (x.cell ≡ j) × (x.entry ≡ e)
place-is a j e x h = let t = and_parts (eqb x.queue a && eqb x.cell j) (is_entry e x.entry) h in let u = and_parts (eqb x.queue a) (eqb x.cell j) t.0 in
    (eqb-true x.queue a u.0, eqb-true x.cell j u.1, entry-is e x.entry t.1)

abbrev pub item : Entry → ℕ → ℕ → InLine
item e j s = record { entry = e; cell = j; stage = s }

pub item-eq : (s j : ℕ) (e : Entry) (i : InLine) → is_item s j e i ≡ true → i ≡ item e j s
item-eq s j e i h = let z = item-is s j e i h in λ y. record { entry = z.2 y; cell = z.1 y; stage = z.0 y }

-- a place counts as an item of the stage that it stands for
pub here-meets : (a j : ℕ) (e : Entry) (k t j' : ℕ) (d : Entry) → is_place a j' d (place a j e k) ≡ is_item t j' d (item e j t)
here-meets a j e k t j' d = λ x. ((eq-eqb a a refl ∙ sym (eq-eqb t t refl)) x && eqb j j') && is_entry d e

pub else-meets : (a j : ℕ) (e : Entry) (k b j' : ℕ) (d : Entry) → b ≢ a → is_place b j' d (place a j e k) ≡ false
else-meets a j e k b j' d n = λ x. (ne_eqb a b (λ e. n (sym e)) x && eqb j j') && is_entry d e

pub stage-apart : (t s j j' : ℕ) (e d : Entry) → t ≢ s → is_item t j' d (item e j s) ≡ false
stage-apart t s j j' e d n = λ x. (ne_eqb s t (λ z. n (sym z)) x && eqb j j') && is_entry d e

-- a place is taken out of a view's list
pub places-less : (a j : ℕ) (e : Entry) (xs : List CellPlace) → 0 < many (is_place a j e) xs → (b j' : ℕ) (d : Entry) → many (is_place b j' d) (without (is_place a j e) xs) + b2n (is_place b j' d (place a j e 0)) ≡ many (is_place b j' d) xs
places-less a j e xs own b j' d = many-without (is_place a j e) (is_place b j' d) (is_place b j' d (place a j e 0))
    (λ x h. let t = place-is a j e x h in λ i. (eqb (t.0 i) b && eqb (t.1 i) j') && is_entry d (t.2 i)) xs own

-- the queues, where that of a has changed
module _ (sys : System) (words after : List ℕ) (views : List View) (now : Now) (items : Items) (id : ℕ) (v u : View) (at_id : get_elem? views id ≡ some v) (queues : Queues sys words views now items) (a : ℕ) (object : IsTrue (is_object sys a)) (s : Line) (is : List InLine) where
  abbrev next : Now
  next = with_line now a s

  pub queues-one : QueueCells sys (ring_of sys a + 1) after a s is → ((b j : ℕ) → b ≢ a → j < 256 → get_or after (cell_at b j) 0 ≡ get_or words (cell_at b j) 0)
      → ((j : ℕ) (e : Entry) → many (is_place a j e) u.claims + many (is_item 0 j e) (items a) ≡ many (is_place a j e) v.claims + many (is_item 0 j e) is)
      → ((b j : ℕ) (e : Entry) → b ≢ a → many (is_place b j e) u.claims ≡ many (is_place b j e) v.claims)
      → ((j : ℕ) (e : Entry) → many (is_place a j e) u.takes + many (is_item 2 j e) (items a) ≡ many (is_place a j e) v.takes + many (is_item 2 j e) is)
      → ((b j : ℕ) (e : Entry) → b ≢ a → many (is_place b j e) u.takes ≡ many (is_place b j e) v.takes)
      → ((b : ℕ) → many (is_serve b) u.serves ≡ many (is_serve b) v.serves) → Serves next u
      → ((j : ℕ) (z : View) → j ≢ id → get_elem? views j ≡ some z → Serves now z → Serves next z) → Queues sys after (set views id u) next (at a is items)
  queues-one queue stay claims claims_else takes takes_else serves mine others =
      queues-set sys words after views now next items (at a is items) id v u at_id queues
      (λ b h. dite (ℕ_discrete b a)
      (λ e. subst (λ z. QueueCells sys (ring_of sys z + 1) after z (next.line z) (at a is items z)) (sym e) (subst (λ (x : Line × List InLine). QueueCells sys (ring_of sys a + 1) after a x.0 x.1) (λ i. (sym (at-here a s now.line) i, sym (at-here a is items) i)) queue))
      (λ n. subst (λ (x : Line × List InLine). QueueCells sys (ring_of sys b + 1) after b x.0 x.1) (λ i. (sym (at-else a s now.line b n) i, sym (at-else a is items b n) i)) (queue-same sys (ring_of sys b + 1) words after b (now.line b) (items b) (λ j l. stay b j n l) (queues.queue b h))))
      (λ b no. let n : b ≢ a = (λ e. let z : is_object sys a ≡ false = ap (is_object sys) (sym e) ∙ no in let w : true ≡ false = sym object ∙ z in true≢false w) in let o = queues.none b no in
      (at-else a is items b n ∙ o.0, ap (λ (l : Line). l.entries) (at-else a s now.line b n) ∙ o.1))
      (λ b j e. at-each (λ b xs. many (is_place b j e) u.claims + many (is_item 0 j e) (items b) ≡ many (is_place b j e) v.claims + many (is_item 0 j e) xs) a is items (claims j e) (λ b n. ap (λ z. z + many (is_item 0 j e) (items b)) (claims_else b j e n)) b)
      (λ b j e. at-each (λ b xs. many (is_place b j e) u.takes + many (is_item 2 j e) (items b) ≡ many (is_place b j e) v.takes + many (is_item 2 j e) xs) a is items (takes j e) (λ b n. ap (λ z. z + many (is_item 2 j e) (items b)) (takes_else b j e n)) b)
      serves mine others

-- what a lane serves, where last-in posts and takes of the changed line stay
pub serves-same : (now : Now) (a : ℕ) (s : Line) (v u : View) → s.l ≡ (now.line a).l → s.m ≡ (now.line a).m → u.serves ≡ v.serves → ((b : ℕ) → many (on_queue b) u.takes ≡ many (on_queue b) v.takes) → Quiet v u → Serves now v → Serves (with_line now a s) u
serves-same now a s v u l m serves takes quiet o = record {
  counts = rw serves (each-map (Served now v.logs) (Served (with_line now a s) u.logs)
      (λ x e. record {
        lifos = at-each (λ b (t : Line). t.l ≡ (now.line b).l) a s now.line l (λ b n. refl) x.object ∙ e.lifos;
        takes = at-each (λ b (t : Line). t.m ≡ (now.line b).m) a s now.line m (λ b n. refl) x.object ∙ e.takes;
        few = e.few;
        lifos_are = e.lifos_are ∙ sym (quiet.lifos x.object);
        takes_are = e.takes_are ∙ sym (quiet.takes x.object);
      }) v.serves o.counts);
  within = rw serves (let w = o.within in let l = quiet.longer in omega arith);
  others = λ b no. let z = o.others b (rw (sym serves) no) in (quiet.lifos b ∙ z.0, quiet.takes b ∙ z.1);
  taking = λ b. rw (serves, takes b) (o.taking b);
}

not-served : (a : ℕ) (xs : List Serve) → many (is_serve a) xs ≡ 0 → Each (λ (x : Serve). x.object ≢ a) xs
not-served a [] e = tt
not-served a (x ∷ xs) e = (go (eqb x.object a) refl (omega arith), not-served a xs (omega arith))
  where
    go : (t : Bool) → eqb x.object a ≡ t → cond {A = ℕ} t 1 0 ≡ 0 → x.object ≢ a
    go true e z = absurd (omega arith)
    go false e z = λ q. let w : true ≡ false = sym (eq-eqb x.object a q) ∙ e in true≢false w

each-both : (P Q R : Serve → Type 0) → ((x : Serve) → P x → Q x → R x) → (xs : List Serve) → Each P xs → Each Q xs → Each R xs
each-both P Q R f [] p q = tt
each-both P Q R f (x ∷ xs) p q = (f x p.0 q.0, each-both P Q R f xs p.1 q.1)

-- a lane that doesn't serve the changed queue
pub serves-else : (now : Now) (a : ℕ) (s : Line) (v : View) → many (is_serve a) v.serves ≡ 0 → Serves now v → Serves (with_line now a s) v
serves-else now a s v none_here o = record {
  counts = each-both (λ (x : Serve). x.object ≢ a) (Served now v.logs) (Served (with_line now a s) v.logs)
      (λ x n e. record { lifos = ap (λ (t : Line). t.l) (at-else a s now.line x.object n) ∙ e.lifos; takes = ap (λ (t : Line). t.m) (at-else a s now.line x.object n) ∙ e.takes; few = e.few; lifos_are = e.lifos_are; takes_are = e.takes_are }) v.serves (not-served a v.serves none_here) o.counts;
  within = o.within;
  others = o.others;
  taking = o.taking;
}

-- one more of the home lane's own counts
pub bump-many : (a l m b : ℕ) (xs : List Serve) → many (is_serve b) (bump a l m xs) ≡ many (is_serve b) xs
bump-many a l m b [] = refl
bump-many a l m b (x ∷ xs) = go (eqb x.object a) (bump-many a l m b xs)
  where
    go : (t : Bool) → many (is_serve b) (bump a l m xs) ≡ many (is_serve b) xs → many (is_serve b) (cond t (record x { lifos = x.lifos + l; takes = x.takes + m }) x ∷ bump a l m xs) ≡ many (is_serve b) (x ∷ xs)
    go true h = ap (λ z. cond {A = ℕ} (eqb x.object b) 1 0 + z) h
    go false h = ap (λ z. cond {A = ℕ} (eqb x.object b) 1 0 + z) h

bump-total : (a l m : ℕ) (xs : List Serve) → many (is_serve a) xs ≤ 1 → sum_over (λ (x : Serve). x.lifos + x.takes) (bump a l m xs) ≤ sum_over (λ (x : Serve). x.lifos + x.takes) xs + (l + m)
bump-total a l m [] h = omega arith
bump-total a l m (x ∷ xs) h = go (eqb x.object a) (bump-total a l m xs) (bump-none xs) h
  where
    bump-none : (ys : List Serve) → many (is_serve a) ys ≡ 0 → sum_over (λ (x : Serve). x.lifos + x.takes) (bump a l m ys) ≡ sum_over (λ (x : Serve). x.lifos + x.takes) ys
    bump-none [] e = refl
    bump-none (y ∷ ys) e = step (eqb y.object a) (bump-none ys) e
      where
        step : (t : Bool) → (many (is_serve a) ys ≡ 0 → sum_over (λ (x : Serve). x.lifos + x.takes) (bump a l m ys) ≡ sum_over (λ (x : Serve). x.lifos + x.takes) ys) → cond {A = ℕ} t 1 0 + many (is_serve a) ys ≡ 0
            → sum_over (λ (x : Serve). x.lifos + x.takes) (cond t (record y { lifos = y.lifos + l; takes = y.takes + m }) y ∷ bump a l m ys) ≡ sum_over (λ (x : Serve). x.lifos + x.takes) (y ∷ ys)
        step true r z = absurd (omega arith)
        step false r z = let q = r (omega arith) in omega arith

    go : (t : Bool) → (many (is_serve a) xs ≤ 1 → sum_over (λ (x : Serve). x.lifos + x.takes) (bump a l m xs) ≤ sum_over (λ (x : Serve). x.lifos + x.takes) xs + (l + m))
        → (many (is_serve a) xs ≡ 0 → sum_over (λ (x : Serve). x.lifos + x.takes) (bump a l m xs) ≡ sum_over (λ (x : Serve). x.lifos + x.takes) xs) → cond {A = ℕ} t 1 0 + many (is_serve a) xs ≤ 1
        → sum_over (λ (x : Serve). x.lifos + x.takes) (cond t (record x { lifos = x.lifos + l; takes = x.takes + m }) x ∷ bump a l m xs) ≤ sum_over (λ (x : Serve). x.lifos + x.takes) (x ∷ xs) + (l + m)
    go true r still z = let q = still (omega arith) in omega arith
    go false r still z = let q = r (omega arith) in omega arith

each-total : (xs : List Serve) (P : Serve → Type 0) → ((x : Serve) → x.lifos + x.takes ≤ sum_over (λ (x : Serve). x.lifos + x.takes) xs → P x) → Each P xs
each-total [] P f = tt
each-total (x ∷ xs) P f = (f x (omega arith), each-total xs P (λ y l. f y (omega arith)))

-- what a queue gains where it is the changed one
abbrev pub gain : ℕ → ℕ → ℕ → ℕ
gain a b n = cond (eqb b a) n 0

-- the lane that serves the changed queue
pub serves-home : (now : Now) (a l m : ℕ) (s : Line) (v u : View) → s.l ≡ (now.line a).l + l → s.m ≡ (now.line a).m + m → l + m ≤ 1 → many (is_serve a) v.serves ≡ 1 → u.serves ≡ bump a l m v.serves → ((b : ℕ) → many (on_queue b) u.takes ≤ many (on_queue b) v.takes)
    → ((b : ℕ) → records (is_lifo b) u.logs ≡ records (is_lifo b) v.logs + gain a b l) → ((b : ℕ) → records (is_take_of b) u.logs ≡ records (is_take_of b) v.logs + gain a b m)
    → sum_over (λ (g : SeatLog). length g.recs) v.logs + (l + m) ≤ sum_over (λ (g : SeatLog). length g.recs) u.logs → sum_over (λ (g : SeatLog). length g.recs) v.logs < 1000001 → Serves now v → Serves (with_line now a s) u
serves-home now a l m s v u ls ms one single serves takes lifo_records take_records more room o =
    let low = o.within in record {
      counts = rw serves (bumped v.serves (each-both (λ (x : Serve). x.lifos + x.takes ≤ 1000000) (Served now v.logs) (λ (x : Serve). (x.lifos + x.takes ≤ 1000000) × Served now v.logs x) (λ x p q. (p, q)) v.serves
          (each-total v.serves (λ (x : Serve). x.lifos + x.takes ≤ 1000000) (λ x l. omega arith)) o.counts));
      within = rw serves (let t = bump-total a l m v.serves (omega arith) in omega arith);
      others = λ b no. let none_here : many (is_serve b) v.serves ≡ 0 = sym (bump-many a l m b v.serves) ∙ (ap (many (is_serve b)) (sym serves) ∙ no) in let z = o.others b none_here in
          let ne : b ≢ a = (λ e. let q : many (is_serve a) v.serves ≡ 0 = subst (λ y. many (is_serve y) v.serves ≡ 0) e none_here in absurd (omega arith)) in
          let lr = lifo_records b in let tr = take_records b in let z0 = z.0 in let z1 = z.1 in let gl = ap (λ (t : Bool). cond {A = ℕ} t l 0) (ne_eqb b a ne) in let gm = ap (λ (t : Bool). cond {A = ℕ} t m 0) (ne_eqb b a ne) in (omega arith, omega arith);
      taking = λ b. rw (serves, bump-many a l m b v.serves) (let t = o.taking b in let w = takes b in omega arith);
    }
  where
    one-bumped : (x : Serve) → (x.lifos + x.takes ≤ 1000000) × Served now v.logs x → (t : Bool) → eqb x.object a ≡ t → Served (with_line now a s) u.logs (cond t (record x { lifos = x.lifos + l; takes = x.takes + m }) x)
    one-bumped x e true is = let q : x.object ≡ a = eqb-true x.object a is in let w = e.0 in let f = e.1 in
        let h : at a s now.line x.object ≡ s = subst (λ z. at a s now.line z ≡ s) (sym q) (at-here a s now.line) in
        let gl = ap (λ (t : Bool). cond {A = ℕ} t l 0) is in let gm = ap (λ (t : Bool). cond {A = ℕ} t m 0) is in let lr = lifo_records x.object in let tr = take_records x.object in let la = f.lifos_are in let ta = f.takes_are in record {
          lifos = ap (λ (t : Line). t.l) h ∙ (ls ∙ (λ i. (ap (λ z. (now.line z).l) (sym q) ∙ f.lifos) i + l));
          takes = ap (λ (t : Line). t.m) h ∙ (ms ∙ (λ i. (ap (λ z. (now.line z).m) (sym q) ∙ f.takes) i + m));
          few = omega arith;
          lifos_are = omega arith;
          takes_are = omega arith;
        }
    one-bumped x e false is = let n : x.object ≢ a = (λ q. let w : true ≡ false = sym (eq-eqb x.object a q) ∙ is in true≢false w) in let w = e.0 in let f = e.1 in
        let gl = ap (λ (t : Bool). cond {A = ℕ} t l 0) is in let gm = ap (λ (t : Bool). cond {A = ℕ} t m 0) is in let lr = lifo_records x.object in let tr = take_records x.object in let la = f.lifos_are in let ta = f.takes_are in record {
          lifos = ap (λ (t : Line). t.l) (at-else a s now.line x.object n) ∙ f.lifos;
          takes = ap (λ (t : Line). t.m) (at-else a s now.line x.object n) ∙ f.takes;
          few = f.few;
          lifos_are = omega arith;
          takes_are = omega arith;
        }

    bumped : (xs : List Serve) → Each (λ (x : Serve). (x.lifos + x.takes ≤ 1000000) × Served now v.logs x) xs → Each (Served (with_line now a s) u.logs) (bump a l m xs)
    bumped [] e = tt
    bumped (x ∷ xs) e = (one-bumped x e.0 (eqb x.object a) refl, bumped xs e.1)
