-- Looks at queues, claims, and what is done to cells are the core's.
use Rattle.std.proofs.Common.{◌≡◌, ℕ, ◌+◌, ◌-◌, ◌*◌, ◌%◌, ◌<◌, ◌≤◌, ◌==◌, ◌&&◌, List, [], ◌∷◌, ◌++◌, Bool, true, false, not, cond, set, get_or, refl, sym, ap, subst, ◌∙◌, arith, eqb, eq-eqb, ne_eqb, eqb-true, leb, leb-true, mod-eq_of_lt, IsTrue, Option, Some, None}
use Rattle.std.specs.List.{list_any, find}
use Rattle.std.specs.Option.{unwrap_or}
use Rattle.std.proofs.lemmas.Bool.{and_from, and_parts}
use prog.Atomic.{either}
use mathlib.Core.Option.{some}
use mathlib.Core.Logic.{dite}
use native.Mathlib.Decide.{ℕ_discrete}
use lib.ListN.{get_elem?}
use lib.Seq.{set-get_or}
use Rattle.qp_model.specs.declared.record.Rec.{Rec}
use Rattle.qp_model.specs.declared.systems.System.{System}
use Rattle.qp_model.specs.declared.bodies.Entry.{Entry}
use Rattle.qp_model.specs.declared.bodies.Body.{Body}
use Rattle.qp_model.specs.declared.bodies.Body.TheVariants.{Post, Lifo, Took}
use Rattle.qp_model.specs.declared.words.Word.TheVariants as word
use Rattle.qp_model.specs.Parts.{is_static}
use Rattle.qp_model.specs.Sites.{ring_of}
use Rattle.qp_model.specs.WordLaw.{is_block, is_object}
use Rattle.qp_table.specs.Counting.{Each, many}
use Rattle.qp_table.specs.Now.{Now}
use Rattle.qp_table.specs.Rule.{queue_at, cell_at, mark_in, is_ref, is_place, on_queue, is_serve, is_lifo, is_take_of, records, Served, code, Holds}
use Rattle.qp_table.specs.After.{HasRoom, InHand, rec_of, place, bump, glanced, noted, laid, learned, full_rec}
use Rattle.qp_table.specs.QueueLaws.{f_in, l_in, m_in, cells_of, front_cell}
use Rattle.qp_table.specs.declared.view.CellPlace.{CellPlace}
use Rattle.qp_table.specs.declared.view.SeatLog.{SeatLog}
use Rattle.qp_table.specs.declared.view.Serve.{Serve}
use Rattle.qp_table.specs.declared.view.View.{View}
use Rattle.qp_table.proofs.Counting.{total-at}
use Rattle.qp_table.proofs.Marks.{high-mark, own-counts, first-small, line-shows}
use Rattle.qp_table.proofs.Tokens.{standing, held-stands}
use Rattle.qp_table.proofs.QueueSteps.{post-says, lifo-says, took-says}
use Rattle.qp_table.proofs.Looks.{seen-says, nil-says, full-says, no_entry-says, no_lifo-says}
use Rattle.qp_table.proofs.Own.{served-own}
use Rattle.qp_table.specs.Asked.{older, oldest, IsOldest, older as core_older}
use Rattle.qp_table.specs.Told.{SeenTold, NilTold, nil_rec, free_in, refusal_rec, EyeTold, TryTold, claimed_at, SwapTold, freed, FreeTold, EyeLastTold, LastTold, put_first_at, before_front}
use Rattle.qp_core_steps.specs.Seats.{seat_may_act, may_add, glance, noting}
use Rattle.qp_core_steps.specs.Blocks.{added}
use Rattle.qp_core_steps.specs.declared.seats.Seat.{Seat}
use Rattle.qp_core_steps.specs.Looks.{counts_match, entry_count, states_queue, states}
use Rattle.qp_core_steps.specs.Queues.{entry_for, in_hand, has_free_entry, operations_in, serves_it, bumped, with_claim, with_lifo, without_take, oldest_claim as core_oldest, is_claimed, front_at, before_at, decoded_entry, front_cell_of}
use Rattle.qp_core_steps.specs.declared.ops.Op.{Op}
use Rattle.qp_core_steps.specs.declared.ops.Op.TheVariants as op
use Rattle.qp_core_steps.proofs.QueueLemmas.{code-is, code-read, claim-inside}
use Rattle.qp_shared_core.specs.CoreStep.{seat_of, IsCoreStep}
use Rattle.qp_shared_core.specs.Ops.{look_with, look_for_take, look_for_post, claim, claim_or_look, look_for_last, last, last_or_look, empty_or_peek}
use Rattle.qp_shared_core.proofs.Seating.{lt-of, le-of, many-any, none-any, same-number, body-is, acts, adds}

-- entries and claims as the core names them

entry-pooled : (e : Entry) → eqb e.pool 0 ≡ false → e ≡ entry_for e.pool e.block e.name
entry-pooled e off = sym (ap (λ (t : Bool). cond {A = Entry} t (record { pool = 0; block = e.name; name = 0 }) (record { pool = e.pool; block = e.block; name = e.name })) off)

older-same : (x : CellPlace) (o : Option CellPlace) → older x o ≡ core_older x o
older-same x None = refl
older-same x (Some y) = refl

oldest-same : (a : ℕ) (xs : List CellPlace) → oldest a xs ≡ core_oldest a xs
oldest-same a [] = refl
oldest-same a (x ∷ xs) = λ i. cond {A = Option CellPlace} (eqb x.queue a) (Some ((older-same x (oldest a xs) ∙ ap (core_older x) (oldest-same a xs)) i)) (oldest-same a xs i)

bump-same : (now : Now) (logs : List SeatLog) (a l m : ℕ) (xs : List Serve) → l + m ≤ 1 → Each (Served now logs) xs → bumped a l m xs ≡ bump a l m xs
bump-same now logs a l m [] le e = refl
bump-same now logs a l m (x ∷ xs) le e =
    let f = e.0.few in let p : added x.lifos l ≡ x.lifos + l = mod-eq_of_lt (omega arith) in let q : added x.takes m ≡ x.takes + m = mod-eq_of_lt (omega arith) in
    λ i. cond {A = Serve} (eqb x.object a) (record x { lifos = p i; takes = q i }) x ∷ bump-same now logs a l m xs le e.1 i

-- the only place on a queue is the one that is found there
place-parts : (a j : ℕ) (e : Entry) (x : CellPlace) → is_place a j e x ≡ true → (x.cell ≡ j) × (x.entry ≡ e)
place-parts a j e x h =
    let t = and_parts (eqb x.queue a && eqb x.cell j) ((eqb x.entry.pool e.pool && eqb x.entry.block e.block) && eqb x.entry.name e.name) h in
    let c = and_parts (eqb x.queue a) (eqb x.cell j) t.0 in
    let d = and_parts (eqb x.entry.pool e.pool && eqb x.entry.block e.block) (eqb x.entry.name e.name) t.1 in let f = and_parts (eqb x.entry.pool e.pool) (eqb x.entry.block e.block) d.0 in
    (eqb-true x.cell j c.1, λ i. record { pool = eqb-true x.entry.pool e.pool f.0 i; block = eqb-true x.entry.block e.block f.1 i; name = eqb-true x.entry.name e.name d.1 i })

place-on : (a j : ℕ) (e : Entry) (xs : List CellPlace) → 0 < many (is_place a j e) xs → 0 < many (on_queue a) xs
place-on a j e [] h = absurd (omega arith)
place-on a j e (x ∷ xs) h = go (eqb x.queue a) refl (place-on a j e xs)
  where
    go : (t : Bool) → eqb x.queue a ≡ t → (0 < many (is_place a j e) xs → 0 < many (on_queue a) xs) → 0 < many (on_queue a) (x ∷ xs)
    go true is rest = let one : cond {A = ℕ} (on_queue a x) 1 0 ≡ 1 = ap (λ (t : Bool). cond {A = ℕ} t 1 0) is in omega arith
    go false is rest =
        let none : cond {A = ℕ} (is_place a j e x) 1 0 ≡ 0 = ap (λ (t : Bool). cond {A = ℕ} ((t && eqb x.cell j) && ((eqb x.entry.pool e.pool && eqb x.entry.block e.block) && eqb x.entry.name e.name)) 1 0) is in
        let r = rest (omega arith) in omega arith

only-there : (a j : ℕ) (e : Entry) (xs : List CellPlace) → many (on_queue a) xs ≤ 1 → 0 < many (is_place a j e) xs → (t : CellPlace) × (find (on_queue a) xs ≡ Some t) × (t.cell ≡ j) × (t.entry ≡ e)
only-there a j e [] few h = absurd (omega arith)
only-there a j e (x ∷ xs) few h = go (on_queue a x) (is_place a j e x) refl refl (only-there a j e xs)
  where
    go : (s t : Bool) → on_queue a x ≡ s → is_place a j e x ≡ t → (many (on_queue a) xs ≤ 1 → 0 < many (is_place a j e) xs → (t : CellPlace) × (find (on_queue a) xs ≡ Some t) × (t.cell ≡ j) × (t.entry ≡ e))
        → (t : CellPlace) × (cond {A = Option CellPlace} s (Some x) (find (on_queue a) xs) ≡ Some t) × (t.cell ≡ j) × (t.entry ≡ e)
    go true true is here rest = let p = place-parts a j e x here in (x, refl, p.0, p.1)
    go true false is here rest =
        let one : cond {A = ℕ} (on_queue a x) 1 0 ≡ 1 = ap (λ (t : Bool). cond {A = ℕ} t 1 0) is in let none : cond {A = ℕ} (is_place a j e x) 1 0 ≡ 0 = ap (λ (t : Bool). cond {A = ℕ} t 1 0) here in
        let more = place-on a j e xs (omega arith) in absurd (omega arith)
    go false true is here rest =
        let a1 = and_parts (eqb x.queue a && eqb x.cell j) ((eqb x.entry.pool e.pool && eqb x.entry.block e.block) && eqb x.entry.name e.name) here in
        let wrong : true ≡ false = sym (and_parts (eqb x.queue a) (eqb x.cell j) a1.0).0 ∙ is in absurd (cc)
    go false false is here rest =
        let none : cond {A = ℕ} (is_place a j e x) 1 0 ≡ 0 = ap (λ (t : Bool). cond {A = ℕ} t 1 0) here in let off : cond {A = ℕ} (on_queue a x) 1 0 ≡ 0 = ap (λ (t : Bool). cond {A = ℕ} t 1 0) is in rest (omega arith) (omega arith)

module _ (sys : System) (words : List ℕ) (views : List View) (holds : Holds sys words views) (id : ℕ) (v : View) (at : get_elem? views id ≡ some v) (o a : ℕ) (object : IsTrue (is_object sys a)) where
  abbrev x : Seat
  x = seat_of o v

  abbrev n : ℕ
  n = get_or words (queue_at a) 0

  -- Looks.

  pub look-is : (u : View) → u ≡ glanced v (queue_at a) n → IsCoreStep sys o (op.Look (word.Queue a) None) words v (set words (queue_at a) n) u
  look-is u is = record { may = and_from (is_object sys a) true object refl; goes = (set-get_or words (queue_at a) 0, ap (seat_of o) is) }

  noted-is : HasRoom v → (r : Rec) → states sys words (word.Queue a) o r ≡ true → (u : View) → u ≡ noted v (queue_at a) n r → IsCoreStep sys o (op.Look (word.Queue a) (Some r)) words v (set words (queue_at a) n) u
  noted-is room r says u is = record {
    may = and_from (is_object sys a) (may_add 49 x && states sys words (word.Queue a) o r) object (and_from (may_add 49 x) (states sys words (word.Queue a) o r) (adds sys words views holds id v at o room) says);
    goes = (set-get_or words (queue_at a) 0, ap (seat_of o) is ∙ (λ i. record (noting r (glance (queue_at a) n) x) { number = same-number r v.logs i }));
  }

  either-is : HasRoom v → (r : Rec) (t : Bool) → (t ≡ true → states sys words (word.Queue a) o r ≡ true) → (u : View) → u ≡ cond {A = View} t (noted v (queue_at a) n r) (glanced v (queue_at a) n) → IsCoreStep sys o (look_with (word.Queue a) t r) words v (set words (queue_at a) n) u
  either-is room r true says u is = noted-is room r (says refl) u is
  either-is room r false says u is = look-is u is

  self : (k : ℕ) → (k == k) ≡ true
  self k = eq-eqb k k refl

  counts : counts_match n (f_in n) (l_in n) (m_in n) ≡ true
  counts = λ i. (self (f_in n) i && self (l_in n) i) && self (m_in n) i

  -- no more entries stand than there are cells
  short : entry_count n ≤ ring_of sys a + 1
  short =
      let q = holds.queues.queue a object in let s = q.short in let c = q.counted in let l = line-shows sys words views holds a object in let l0 = l.0 in let l1 = l.1 in let l2 = l.2 in omega arith

  refused : (margin : Option ℕ) → free_in (ring_of sys a) n ≤ unwrap_or margin 0 → states sys words (word.Queue a) o (refusal_rec margin o a n) ≡ true
  refused (Some k) few = subst (λ (b : Body). states_queue (ring_of sys a) n a o o b ≡ true) (sym (body-is _ _ (full-says o a (f_in n) (l_in n) (m_in n) k)))
      (λ i. ((self o i && self a i) && counts i) && le-of (ring_of sys a + 1 - entry_count n) k few i)
  refused None few = subst (λ (b : Body). states_queue (ring_of sys a) n a o o b ≡ true) (sym (body-is _ _ (no_entry-says o a (f_in n) (l_in n) (m_in n))))
      (λ i. ((self o i && self a i) && counts i) && eq-eqb (entry_count n) (ring_of sys a + 1) (let s = short in omega arith) i)

  pub seen-is : HasRoom v → (u : View) → SeenTold sys a v n u → IsCoreStep sys o (op.Look (word.Queue a) (Some (rec_of 7 0 (a ∷ f_in n ∷ l_in n ∷ m_in n ∷ [])))) words v (set words (queue_at a) n) u
  seen-is room u told = noted-is room (rec_of 7 0 (a ∷ f_in n ∷ l_in n ∷ m_in n ∷ []))
      (subst (λ (b : Body). states_queue (ring_of sys a) n a o 0 b ≡ true) (sym (body-is _ _ (seen-says a (f_in n) (l_in n) (m_in n)))) (λ i. self a i && counts i)) u told.0

  pub eye-is : HasRoom v → (margin : Option ℕ) (u : View) → EyeTold sys a o margin v n u → IsCoreStep sys o (look_for_post sys a o margin n) words v (set words (queue_at a) n) u
  eye-is room margin u told = either-is room (refusal_rec margin o a n) (leb (free_in (ring_of sys a) n) (unwrap_or margin 0)) (λ e. refused margin (leb-true _ (unwrap_or margin 0) e)) u told.0

  -- Claims.

  count-is : (k : ℕ) → mark_in (queue_at a) k ≡ operations_in k
  count-is k = high-mark (queue_at a) k (omega arith)

  word-below : n < 9000000000000000000
  word-below = let q = holds.shows.queues a object in let c = own-counts sys words views holds a object in let f = first-small sys words views holds a object in omega arith

  free-there : (margin : Option ℕ) → unwrap_or margin 0 < free_in (ring_of sys a) n → has_free_entry sys a n ≡ true
  free-there margin some_free = lt-of (f_in n + l_in n) (m_in n + (ring_of sys a + 1)) (omega arith)

  -- by the names that the core gives to an entry
  named : (A : ℕ → ℕ → ℕ → Op) (e : Entry) → InHand sys e v → (P : Op → Type 0)
      → ((p b k : ℕ) → e ≡ entry_for p b k → in_hand sys x p b k ≡ true → P (A p b k)) → P (cond {A = Op} (eqb e.pool 0) (A 0 0 e.block) (A e.pool e.block e.name))
  named A e mine P to = dite (ℕ_discrete e.pool 0)
      (λ none. let s = mine.static none in rw (eq-eqb e.pool 0 none) (to 0 0 e.block (λ i. record { pool = none i; block = e.block; name = s.2 i }) s.0))
      (λ some_pool.
      let off = ne_eqb e.pool 0 some_pool in let pos : 0 < e.pool = omega arith in let there = mine.pooled pos in
      let stands = standing sys views holds.now id v at holds.tokens e.pool e.block e.name (held-stands sys views holds.now id v at holds.tokens e.pool e.block e.name pos there) in
      rw off (to e.pool e.block e.name (entry-pooled e off)
      (ap (λ (t : Bool). cond {A = Bool} t ((e.block == 0) && is_static sys e.name) (is_block sys e.pool e.block && list_any (is_ref e.pool e.block e.name) v.hands)) off
      ∙ and_from (is_block sys e.pool e.block) (list_any (is_ref e.pool e.block e.name) v.hands) stands.0 (many-any (is_ref e.pool e.block e.name) v.hands there))))

  claim-named : HasRoom v → (margin : Option ℕ) (e : Entry) → unwrap_or margin 0 < free_in (ring_of sys a) n → (u : View) → u ≡ claimed_at (ring_of sys a) a o e v n → (p b k : ℕ) → e ≡ entry_for p b k → in_hand sys x p b k ≡ true
      → IsCoreStep sys o (op.Claim a p b k) words v (set words (queue_at a) (n + 1)) u
  claim-named room margin e some_free u is p b k e_is hand =
      let below = word-below in let m : n + 1 ≡ added n 1 = sym (mod-eq_of_lt (omega arith)) in
      let r : Rec = rec_of 20 o (a ∷ (f_in n + 1) ∷ l_in n ∷ m_in n ∷ e.pool ∷ e.block ∷ e.name ∷ []) in
      let number : mark_in (queue_at a) (n + 1) ≡ operations_in (added n 1) = count-is (n + 1) ∙ ap operations_in m in
      record {
        may = and_from ((may_add 49 x && is_object sys a) && in_hand sys x p b k) (has_free_entry sys a n) (and_from (may_add 49 x && is_object sys a) (in_hand sys x p b k) (and_from (may_add 49 x) (is_object sys a) (adds sys words views holds id v at o room) object) hand) (free-there margin some_free);
        goes = (
          r,
          post-says o a (f_in n + 1) (l_in n) (m_in n) e ∙ (λ i. record { of = o; body = Post a (f_in n + 1) (l_in n) (m_in n) (e_is i) }),
          ap (set words (queue_at a)) m,
          ap (seat_of o) is ∙ (λ i. record (with_claim x r (glance (queue_at a) (m i)) a (f_in n % (ring_of sys a + 1)) (e_is i) (number i)) { number = same-number r v.logs i }),
        );
      }

  pub try-is : HasRoom v → (margin : Option ℕ) (e : Entry) (old : ℕ) → InHand sys e v → unwrap_or margin 0 < free_in (ring_of sys a) old → (u : View) → TryTold sys a o margin e v old n u
      → IsCoreStep sys o (claim_or_look sys a o margin e old n) words v (set words (queue_at a) (either (eqb n old) (old + 1) n)) u
  try-is room margin e old mine some_free u told = dite (ℕ_discrete n old)
      (λ same. rw (eq-eqb n old same) (subst (λ k. IsCoreStep sys o (claim a e) words v (set words (queue_at a) (k + 1)) u) same
      (named (op.Claim a) e mine (λ q. IsCoreStep sys o q words v (set words (queue_at a) (n + 1)) u)
      (claim-named room margin e (subst (λ k. unwrap_or margin 0 < free_in (ring_of sys a) k) (sym same) some_free) u ((told.0 same).0 ∙ ap (claimed_at (ring_of sys a) a o e v) (sym same))))))
      (λ ne. rw (ne_eqb n old ne) (eye-is room margin u (told.1 ne).1))

  -- Cells.

  pub lay-is : (j : ℕ) (e : Entry) → j < cells_of sys a → 0 < many (is_place a j e) v.claims → IsOldest a j e v.claims → (u : View) → u ≡ laid v a j e → IsCoreStep sys o (op.Lay a) words v (set words (cell_at a j) (code e)) u
  lay-is j e inside mine first u is =
      let c : CellPlace = place a j e first.0 in
      let there : core_oldest a v.claims ≡ Some c = sym (oldest-same a v.claims) ∙ first.1 in
      let in_ring = claim-inside sys words views holds id v at a j e mine in
      let ring = (holds.fitting.objects a object).1 in
      let cell : j % 256 ≡ j = mod-eq_of_lt (omega arith) in
      record {
        may = and_from (seat_may_act 49 x) (is_claimed (core_oldest a v.claims)) (acts sys words views holds id v at o) (ap is_claimed there);
        goes = (c, there, (λ i. set words (cell_at a (sym cell i)) (sym (code-is sys e in_ring.1) i)), ap (seat_of o) is);
      }

  module _ (l m : ℕ) (serves : IsTrue (list_any (is_serve a) v.serves)) (l_is : l ≡ records (is_lifo a) v.logs) (m_is : m ≡ records (is_take_of a) v.logs) (idle : many (on_queue a) v.takes ≡ 0) (u : View) where
    abbrev j : ℕ
    j = front_cell sys a l m

    abbrev found : ℕ
    found = get_or words (cell_at a j) 0

    front : j ≡ front_at sys a n
    front =
        let own = served-own a holds.now v.logs v.serves serves (holds.queues.home id v at).counts in let s = line-shows sys words views holds a object in
        let r : ring_of sys a + 1 - 1 ≡ ring_of sys a = omega arith in
        λ i. ((m_is ∙ (sym own.1 ∙ sym s.2)) i + r i * (l_is ∙ (sym own.0 ∙ sym s.1)) i) % (ring_of sys a + 1)

    may-serve : ((seat_may_act 49 x && is_object sys a) && serves_it x a) ≡ true
    may-serve = and_from (seat_may_act 49 x && is_object sys a) (serves_it x a) (and_from (seat_may_act 49 x) (is_object sys a) (acts sys words views holds id v at o) object) serves

    pub swap-is : SwapTold sys a j v found u → IsCoreStep sys o (empty_or_peek a found) words v (set words (cell_at a j) 0) u
    swap-is told = dite (ℕ_discrete found 0)
        (λ none. rw (eq-eqb found 0 none) (record {
          may = may-serve;
          goes = (ap (set words (cell_at a j)) (sym none) ∙ set-get_or words (cell_at a j) 0, ap (seat_of o) (told.0 none));
        }))
        (λ full. let t = told.1 full in
        let read : decoded_entry found ≡ t.0 = code-read sys t.0 found t.1 t.2 in
        let there : found ≡ get_or words (front_cell_of sys words a) 0 = ap (λ k. get_or words (cell_at a k) 0) front in
        rw (ne_eqb found 0 full) (record {
          may = and_from (((seat_may_act 49 x && is_object sys a) && serves_it x a) && not (list_any (on_queue a) v.takes)) (not (get_or words (front_cell_of sys words a) 0 == 0))
              (and_from ((seat_may_act 49 x && is_object sys a) && serves_it x a) (not (list_any (on_queue a) v.takes)) may-serve (ap not (none-any (on_queue a) v.takes idle)))
              (ap (λ k. not (k == 0)) (sym there) ∙ ap not (ne_eqb found 0 full));
          goes = (
            ap (λ k. set words (cell_at a k) 0) front,
            ap (seat_of o) t.3 ∙ (λ i. record x { takes = v.takes ++ place a (front i) ((sym read ∙ ap decoded_entry there) i) 0 ∷ [] }),
          );
        }))

-- The lane's own queue.
module _ (sys : System) (words : List ℕ) (views : List View) (holds : Holds sys words views) (id : ℕ) (v : View) (at : get_elem? views id ≡ some v) (a : ℕ) (object : IsTrue (is_object sys a)) (room : HasRoom v) where
  abbrev y : Seat
  y = seat_of a v

  abbrev k : ℕ
  k = get_or words (queue_at a) 0

  alike : (t : ℕ) → (t == t) ≡ true
  alike t = eq-eqb t t refl

  pub nil-is : (is_new : ℕ → Bool) (u : View) → NilTold sys is_new a v k u → IsCoreStep sys a (look_for_take a is_new k) words v (set words (queue_at a) k) u
  nil-is is_new u told = either-is sys words views holds id v at a a object room (nil_rec a k) (eqb (f_in k + l_in k) (m_in k) && is_new k)
      (λ e. subst (λ (b : Body). states_queue (ring_of sys a) k a a a b ≡ true) (sym (body-is _ _ (nil-says a (f_in k) (l_in k) (m_in k))))
      (λ i. ((alike a i && alike a i) && counts sys words views holds id v at a a object i) && (and_parts (eqb (f_in k + l_in k) (m_in k)) (is_new k) e).0 i)) u told.0

  pub eye-last-is : (u : View) → EyeLastTold sys a v k u → IsCoreStep sys a (look_for_last sys a k) words v (set words (queue_at a) k) u
  eye-last-is u told = either-is sys words views holds id v at a a object room (full_rec a k) (eqb (free_in (ring_of sys a) k) 0)
      (λ e. subst (λ (b : Body). states_queue (ring_of sys a) k a a a b ≡ true) (sym (body-is _ _ (no_lifo-says a a (f_in k) (l_in k) (m_in k))))
      (λ i. ((alike a i && alike a i) && counts sys words views holds id v at a a object i) && eq-eqb (entry_count k) (ring_of sys a + 1) (let s = short sys words views holds id v at a a object in let z = eqb-true (free_in (ring_of sys a) k) 0 e in omega arith) i)) u told.0

  last-named : (e : Entry) → IsTrue (list_any (is_serve a) v.serves) → many (on_queue a) v.takes ≡ 0 → 0 < free_in (ring_of sys a) k → (u : View) → u ≡ put_first_at sys a e v k → (p b c : ℕ) → e ≡ entry_for p b c → in_hand sys y p b c ≡ true
      → IsCoreStep sys a (op.Lifo a p b c) words v (set words (queue_at a) (k + 2097152)) u
  last-named e serves idle some_free u is p b c e_is hand =
      let below = word-below sys words views holds id v at a a object in let m : k + 2097152 ≡ added k 2097152 = sym (mod-eq_of_lt (omega arith)) in
      let r : Rec = rec_of 21 a (f_in k ∷ (l_in k + 1) ∷ m_in k ∷ e.pool ∷ e.block ∷ e.name ∷ []) in
      let number : mark_in (queue_at a) (k + 2097152) ≡ operations_in (added k 2097152) = count-is sys words views holds id v at a a object (k + 2097152) ∙ ap operations_in m in
      let home = holds.queues.home id v at in
      let cell : before_front sys a k ≡ before_at sys a k = (let z : ring_of sys a + 1 - 1 ≡ ring_of sys a = omega arith in λ i. (m_in k + z i * l_in k + z i) % (ring_of sys a + 1)) in
      record {
        may = and_from ((((may_add 49 y && is_object sys a) && serves_it y a) && not (list_any (on_queue a) v.takes)) && in_hand sys y p b c) (has_free_entry sys a k)
            (and_from (((may_add 49 y && is_object sys a) && serves_it y a) && not (list_any (on_queue a) v.takes)) (in_hand sys y p b c)
            (and_from ((may_add 49 y && is_object sys a) && serves_it y a) (not (list_any (on_queue a) v.takes)) (and_from (may_add 49 y && is_object sys a) (serves_it y a) (and_from (may_add 49 y) (is_object sys a) (adds sys words views holds id v at a room) object) serves) (ap not (none-any (on_queue a) v.takes idle))) hand)
            (free-there sys words views holds id v at a a object None some_free);
        goes = (
          r,
          lifo-says a (f_in k) (l_in k + 1) (m_in k) e ∙ (λ i. record { of = a; body = Lifo (f_in k) (l_in k + 1) (m_in k) (e_is i) }),
          ap (set words (queue_at a)) m,
          ap (seat_of a) is ∙ (λ i. record (with_lifo y r (glance (queue_at a) (m i)) a (cell i) (e_is i) (number i)) { number = same-number r v.logs i; serves = sym (bump-same holds.now v.logs a 1 0 v.serves (omega arith) home.counts) i }),
        );
      }

  pub try-last-is : (e : Entry) (old : ℕ) → InHand sys e v → IsTrue (list_any (is_serve a) v.serves) → many (on_queue a) v.takes ≡ 0 → 0 < free_in (ring_of sys a) old → (u : View) → LastTold sys a e v old k u
      → IsCoreStep sys a (last_or_look sys a e old k) words v (set words (queue_at a) (either (eqb k old) (old + 2097152) k)) u
  try-last-is e old mine serves idle some_free u told = dite (ℕ_discrete k old)
      (λ same. rw (eq-eqb k old same) (subst (λ z. IsCoreStep sys a (last a e) words v (set words (queue_at a) (z + 2097152)) u) same
      (named sys words views holds id v at a a object (op.Lifo a) e mine (λ q. IsCoreStep sys a q words v (set words (queue_at a) (k + 2097152)) u)
      (last-named e serves idle (subst (λ z. 0 < free_in (ring_of sys a) z) (sym same) some_free) u ((told.0 same).0 ∙ ap (put_first_at sys a e v) (sym same))))))
      (λ ne. rw (ne_eqb k old ne) (eye-last-is u (told.1 ne).1))

  pub free-is : (j : ℕ) (e : Entry) → IsTrue (list_any (is_serve a) v.serves) → 0 < many (is_place a j e) v.takes → (u : View) → FreeTold sys a j e v k u
      → IsCoreStep sys a (op.Free a) words v (set words (queue_at a) ((k + 4398046511104) % 18446744073709551616)) u
  free-is j e serves mine u told =
      let below = word-below sys words views holds id v at a a object in let m : k + 4398046511104 ≡ added k 4398046511104 = sym (mod-eq_of_lt (omega arith)) in
      let r : Rec = rec_of 5 a (f_in k ∷ l_in k ∷ (m_in k + 1) ∷ e.pool ∷ e.block ∷ e.name ∷ []) in
      let home = holds.queues.home id v at in
      let once = holds.queues.serves a in let t = total-at (λ (z : View). many (is_serve a) z.serves) views id v at in let on = ap (λ (b : Bool). cond {A = ℕ} b 1 0) object in let few = home.taking a in
      let found = only-there a j e v.takes (omega arith) mine in
      record {
        may = and_from (may_add 49 y && is_object sys a) (is_claimed (find (on_queue a) v.takes)) (and_from (may_add 49 y) (is_object sys a) (adds sys words views holds id v at a room) object) (ap is_claimed found.1);
        goes = (
          r,
          found.0,
          found.1,
          took-says a (f_in k) (l_in k) (m_in k + 1) e ∙ (λ i. record { of = a; body = Took (f_in k) (l_in k) (m_in k + 1) (sym found.3 i) }),
          refl,
          ap (seat_of a) told.1 ∙ (bare (eqb e.pool 0)
              ∙ (λ i. record (without_take y r (glance (queue_at a) (m i)) a (sym found.2 i) (sym found.3 i)) { number = same-number r v.logs i; serves = sym (bump-same holds.now v.logs a 0 1 v.serves (omega arith) home.counts) i })),
        );
      }
    where
      bare : (t : Bool) → seat_of a (cond {A = View} t (freed a j e v k) (learned (freed a j e v k) e told.0)) ≡ seat_of a (freed a j e v k)
      bare true = refl
      bare false = refl
