-- The steps on cells keep the rule: a claim is laid, the front is emptied.
use Rattle.std.proofs.Common.{◌≡◌, ℕ, ◌+◌, ◌-◌, ◌*◌, ◌%◌, ◌<◌, ◌≤◌, ◌≢◌, List, ◌∷◌, true, false, length, set, get_or, refl, sym, ap, subst, ◌∙◌, arith, true≢false, eq-eqb, ne_eqb, IsTrue, get_or-set_other, mod-lt}
use mathlib.Core.Option.{some}
use mathlib.Core.Logic.{dite}
use native.Mathlib.Decide.{ℕ_discrete}
use lib.ListN.{get_elem?}
use Rattle.qp_model.specs.declared.bodies.Entry.{Entry}
use Rattle.qp_model.specs.declared.systems.System.{System}
use Rattle.qp_model.specs.Line.{Line}
use Rattle.qp_model.specs.Sites.{ring_of}
use Rattle.qp_model.specs.WordLaw.{is_object}
use Rattle.qp_table.specs.Counting.{Each, many}
use Rattle.qp_table.specs.Now.{Now, at}
use Rattle.qp_table.specs.Rule.{cell_at, Idle, Tokens, InLine, Codable, code, entries_of, is_item, is_place, on_queue, is_serve, QueueCells, Serves, Holds}
use Rattle.qp_table.specs.After.{place, laid, emptied}
use Rattle.qp_table.specs.declared.view.View.{View}
use Rattle.qp_table.proofs.Counting.{total-at, many-snoc}
use Rattle.qp_table.proofs.Growing.{at-here, at-else, at-each}
use Rattle.qp_table.proofs.Views.{quiet-same, seen-kept}
use Rattle.qp_table.proofs.Tokens.{b2n, tokens-set, begun-kept, worn-kept}
use Rattle.qp_table.proofs.Kept.{events-same, shows-else, queue-same, queues-set, serves-kept}
use Rattle.qp_table.proofs.Step.{plain-step}
use Rattle.qp_table.proofs.Lines.{restaged, re-many}
use Rattle.qp_table.proofs.Queue.{queue-lay, queue-empty, queue-front}
use Rattle.qp_table.proofs.QueueSums.{item, item-eq, here-meets, else-meets, stage-apart, places-less}

module _ (sys : System) (words : List ℕ) (views : List View) (holds : Holds sys words views) (id : ℕ) (v : View) (at_id : get_elem? views id ≡ some v) (a : ℕ) (object : IsTrue (is_object sys a)) where
  abbrev now : Now
  now = holds.now

  abbrev s : Line
  s = now.line a

  abbrev n : ℕ
  n = ring_of sys a + 1

  abbrev items : List InLine
  items = holds.items a

  abbrev q : QueueCells sys n words a s items
  q = holds.queues.queue a object

  inside : (a < 33) × (ring_of sys a < 256)
  inside = holds.fitting.objects a object

  tokens-same : (u : View) → u.fresh ≡ v.fresh → u.used ≡ v.used → u.hands ≡ v.hands → Tokens sys (set views id u) now
  tokens-same u fresh used hands = tokens-set sys views now now id v u at_id holds.tokens (λ p b. rw (fresh, used) refl) (λ p b k l. rw hands refl)
      (begun-kept sys views now now id v u at_id holds.tokens fresh (λ p b. refl) (λ p b. refl))
      (worn-kept sys views now now id v u at_id holds.tokens used (λ p b. refl) (λ p b. refl))
      holds.tokens.named

  -- a write to a cell of the queue, where its items become these
  cell-step : (j x : ℕ) (is : List InLine) (u : View) → j < n → QueueCells sys n (set words (cell_at a j) x) a s is
      → ((y : ℕ) (d : Entry) → many (is_place a y d) u.claims + many (is_item 0 y d) items ≡ many (is_place a y d) v.claims + many (is_item 0 y d) is)
      → ((b y : ℕ) (d : Entry) → b ≢ a → many (is_place b y d) u.claims ≡ many (is_place b y d) v.claims)
      → ((y : ℕ) (d : Entry) → many (is_place a y d) u.takes + many (is_item 2 y d) items ≡ many (is_place a y d) v.takes + many (is_item 2 y d) is)
      → ((b y : ℕ) (d : Entry) → b ≢ a → many (is_place b y d) u.takes ≡ many (is_place b y d) v.takes)
      → u.logs ≡ v.logs → u.lane_numbers ≡ v.lane_numbers → u.seen ≡ v.seen → u.fills ≡ v.fills → u.gives ≡ v.gives → u.fresh ≡ v.fresh → u.used ≡ v.used → u.hands ≡ v.hands → u.serves ≡ v.serves → u.contents ≡ v.contents → Serves now u → (length u.logs + length u.lane_numbers ≡ 0 → Idle u)
      → Holds sys (set words (cell_at a j) x) (set views id u)
  cell-step j x is u inside_ring queue claims claims_else takes takes_else logs rest seen fills gives fresh used hands serves contents mine idle =
      let i = inside in let i0 = i.0 in let i1 = i.1 in
      let low : (y : ℕ) → y < 4488 → get_or (set words (cell_at a j) x) y 0 ≡ get_or words y 0 = (λ y l. get_or-set_other words (cell_at a j) y x 0 (λ e. absurd (omega arith))) in
      plain-step sys words (set words (cell_at a j) x) views holds id v u at_id (at a is holds.items)
      (shows-else sys holds.fitting words now holds.shows (cell_at a j) x (omega arith))
      (tokens-same u fresh used hands)
      (events-same sys words (set words (cell_at a j) x) views now now id v u at_id holds.events (λ y h. get_or-set_other words (cell_at a j) y x 0 (λ e. absurd (omega arith))) (λ p b. refl) fills gives fresh)
      (queues-set sys words (set words (cell_at a j) x) views now now holds.items (at a is holds.items) id v u at_id holds.queues
      (λ b h. dite (ℕ_discrete b a)
      (λ e. subst (λ z. QueueCells sys (ring_of sys z + 1) (set words (cell_at a j) x) z (now.line z) (at a is holds.items z)) (sym e) (subst (λ (y : List InLine). QueueCells sys n (set words (cell_at a j) x) a s y) (sym (at-here a is holds.items)) queue))
      (λ ne. subst (λ (y : List InLine). QueueCells sys (ring_of sys b + 1) (set words (cell_at a j) x) b (now.line b) y) (sym (at-else a is holds.items b ne))
      (queue-same sys (ring_of sys b + 1) words (set words (cell_at a j) x) b (now.line b) (holds.items b) (λ y lt. get_or-set_other words (cell_at a j) (cell_at b y) x 0 (λ e. ne (omega arith))) (holds.queues.queue b h))))
      (λ b no. let ne : b ≢ a = (λ e. let z : is_object sys a ≡ false = ap (is_object sys) (sym e) ∙ no in let w : true ≡ false = sym object ∙ z in true≢false w) in let o = holds.queues.none b no in (at-else a is holds.items b ne ∙ o.0, o.1))
      (λ b y d. at-each (λ b xs. many (is_place b y d) u.claims + many (is_item 0 y d) (holds.items b) ≡ many (is_place b y d) v.claims + many (is_item 0 y d) xs) a is holds.items (claims y d) (λ b ne. ap (λ z. z + many (is_item 0 y d) (holds.items b)) (claims_else b y d ne)) b)
      (λ b y d. at-each (λ b xs. many (is_place b y d) u.takes + many (is_item 2 y d) (holds.items b) ≡ many (is_place b y d) v.takes + many (is_item 2 y d) xs) a is holds.items (takes y d) (λ b ne. ap (λ z. z + many (is_item 2 y d) (holds.items b)) (takes_else b y d ne)) b)
      (λ b. ap (many (is_serve b)) serves) mine (λ y z ne there o. o))
      logs rest idle
      (seen-kept words (set words (cell_at a j) x) views holds.was id v u holds.seen at_id low seen)
      (rw contents (holds.contents id v at_id))

  -- the items, where one has come to another stage
  restaged-many : (from to j : ℕ) (e : Entry) (t y : ℕ) (d : Entry) → 0 < many (is_item from j e) items
      → many (is_item t y d) (restaged to (is_item from j e) items) + b2n (is_item t y d (item e j from)) ≡ many (is_item t y d) items + b2n (is_item t y d (item e j to))
  restaged-many from to j e t y d there = re-many from to j e (is_item t y d) (b2n (is_item t y d (item e j from))) (b2n (is_item t y d (item e j to)))
      (λ i h. let z = item-eq from j e i h in (ap (λ (x : InLine). b2n (is_item t y d x)) z, ap (λ (x : InLine). b2n (is_item t y d (record x { stage = to }))) z)) items there

  -- A claim is laid
  pub lays : (j : ℕ) (e : Entry) → j < n → 0 < many (is_place a j e) v.claims → Holds sys (set words (cell_at a j) (code e)) (set views id (laid v a j e))
  lays j e inside_ring mine =
      let x = total-at (λ (z : View). many (is_place a j e) z.claims) views id v at_id in let t = holds.queues.claims a j e in let wd = holds.shows.wide in let i = inside in let i0 = i.0 in let i1 = i.1 in
      cell-step j (code e) (restaged 1 (is_item 0 j e) items) (laid v a j e) inside_ring
      (queue-lay sys n words a s items q j e inside_ring (omega arith) (omega arith))
      (λ y d. let m = places-less a j e v.claims mine a y d in let r = restaged-many 0 1 j e 0 y d (omega arith) in let z = ap b2n (here-meets a j e 0 0 y d) in let o = ap b2n (stage-apart 0 1 j y e d (λ z. absurd (omega arith))) in omega arith)
      (λ b y d ne. let m = places-less a j e v.claims mine b y d in let z = ap b2n (else-meets a j e 0 b y d ne) in omega arith)
      (λ y d. let r = restaged-many 0 1 j e 2 y d (omega arith) in let z = ap b2n (stage-apart 2 0 j y e d (λ z. absurd (omega arith))) in let o = ap b2n (stage-apart 2 1 j y e d (λ z. absurd (omega arith))) in omega arith)
      (λ b y d ne. refl)
      refl refl refl refl refl refl refl refl refl refl
      (serves-kept now now v (laid v a j e) (λ b. refl) refl refl (quiet-same v (laid v a j e) refl) (holds.queues.home id v at_id))
      (λ nothing. let c = (holds.idle id v at_id nothing).claims in let z = ap (many (is_place a j e)) c in absurd (omega arith))

  -- The front cell is emptied, where an entry is laid there
  pub empties : 0 < length v.logs → (j : ℕ) → j ≡ (s.m + (n - 1) * s.l) % n → get_or words (cell_at a j) 0 ≢ 0 → 0 < many (is_serve a) v.serves → many (on_queue a) v.takes ≡ 0
      → (e : Entry) × Codable sys e × (get_or words (cell_at a j) 0 ≡ code e) × Holds sys (set words (cell_at a j) 0) (set views id (emptied v a j e))
  empties has_log j at_front full serves idle =
      let z = queue-front sys n words a s items q (λ e. full (ap (λ (y : ℕ). get_or words (cell_at a y) 0) at_front ∙ e)) in
      let i : InLine = z.0 in let is : List InLine = z.1 in let e : Entry = i.entry in let u : View = emptied v a j i.entry in
      let cell : i.cell ≡ j = z.4 ∙ sym at_front in
      let i_is : i ≡ item i.entry j 1 = (λ y. record { entry = i.entry; cell = cell y; stage = z.3 y }) in
      let items_are : items ≡ item i.entry j 1 ∷ is = z.2 ∙ ap (λ (y : InLine). y ∷ is) i_is in
      let wd = holds.shows.wide in let k = inside in let k0 = k.0 in let k1 = k.1 in
      let inside_ring : j < n = subst (λ (y : ℕ). y < n) (sym at_front) (mod-lt (s.m + (n - 1) * s.l) (omega arith)) in
      let bound = subst (Each (Codable sys)) (sym q.same ∙ ap entries_of items_are) q.bounded in
      let home = holds.queues.home id v at_id in (
        i.entry,
        bound.0,
        ap (λ (y : ℕ). get_or words (cell_at a y) 0) at_front ∙ z.5,
        cell-step j 0 (item i.entry j 2 ∷ is) u inside_ring
            (queue-empty sys n words a s items q (item i.entry j 1) is items_are (omega arith))
            (λ y d. let t = ap (many (is_item 0 y d)) items_are in let o = ap b2n (stage-apart 0 1 j y i.entry d (λ z. absurd (omega arith))) in let r = ap b2n (stage-apart 0 2 j y i.entry d (λ z. absurd (omega arith))) in omega arith)
            (λ b y d ne. refl)
            (λ y d. let m = many-snoc (is_place a y d) v.takes (place a j i.entry 0) in let t = ap (many (is_item 2 y d)) items_are in let o = ap b2n (stage-apart 2 1 j y i.entry d (λ z. absurd (omega arith))) in let h = ap b2n (here-meets a j i.entry 0 2 y d) in omega arith)
            (λ b y d ne. let m = many-snoc (is_place b y d) v.takes (place a j i.entry 0) in let h = ap b2n (else-meets a j i.entry 0 b y d ne) in omega arith)
            refl refl refl refl refl refl refl refl refl refl
            (record {
              counts = home.counts;
              within = home.within;
              others = home.others;
              taking = λ b. let m = many-snoc (on_queue b) v.takes (place a j i.entry 0) in let o = home.taking b in dite (ℕ_discrete b a)
                  (λ same. let P : ℕ → Type 0 = (λ y. many (on_queue y) u.takes ≤ many (is_serve y) v.serves) in subst P (sym same) (let m' = many-snoc (on_queue a) v.takes (place a j i.entry 0) in let c = ap b2n (eq-eqb a a refl) in omega arith))
                  (λ ne. let c = ap b2n (ne_eqb a b (λ e. ne (sym e))) in omega arith);
            })
            (λ nothing. absurd (omega arith)),
      )
