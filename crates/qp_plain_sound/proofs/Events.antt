-- References and the events of their blocks.
use Rattle.std.proofs.Common.{◌≡◌, ℕ, ◌+◌, ◌<◌, ◌≤◌, ◌==◌, nat_lt, nat_le, Bool, true, false, ◌&&◌, ◌||◌, cond, List, [], ◌∷◌, ◌++◌, length, refl, subst, arith, ◌⊎◌, Option, Some, None}
use Rattle.std.specs.List.{list_all, cons_option}
use Rattle.std.proofs.lemmas.Bool.{and_from, and_parts}
use Rattle.std.proofs.lemmas.Bool.Decides.{nat_tests}
use Rattle.qp_chart.specs.StateTree.{has}
use Rattle.qp_model.specs.declared.words.Word.TheVariants as word
use Rattle.qp_model.specs.declared.systems.System.{System}
use Rattle.qp_model.specs.declared.bodies.Entry.{Entry}
use Rattle.qp_model.specs.declared.bodies.Body.{Body}
use Rattle.qp_model.specs.declared.bodies.Body.TheVariants.{New, Inc, Dec, Back, Took}
use Rattle.qp_model.specs.Record.{Item, entry}
use Rattle.qp_model.specs.Told.{Event}
use Rattle.qp_model.specs.Lists.{without_one}
use Rattle.qp_model.specs.History.{hist}
use Rattle.qp_model.specs.Machine.{after, is_allowed}
use Rattle.qp_model.specs.References.{Refs, references, refs_may, refs_next}
use Rattle.qp_model.specs.Lives.{edge_of, edges, is_empty, refs_at, HasLives, edges_empty}
use Rattle.qp_model.specs.Knowing.{Facts, given_by, last_given, event_of_entry, known_of, life_event}
use Rattle.qp_model.specs.Settled.{Settled}
use Rattle.qp_model.proofs.MachineLemmas.{after-keeps}
use Rattle.qp_model.proofs.KnowingLemmas.{IsLater, known-stays}
use Rattle.qp_model.proofs.EventLemmas.{event_known-same}
use Rattle.qp_calls.specs.Counting.{one_if, times}
use Rattle.qp_plain_sound.specs.WordStates.{cell_next, cell_after}
use Rattle.qp_plain_sound.proofs.Times.{times-without_one}

-- References are named by numbers below their count, each once.
pub record AreNames (s : Refs) : Type 0 where
  pub below : (r : ℕ) → has s.names r ≡ true → r < s.count
  pub once : (r : ℕ) → times (λ x. x == r) s.names ≤ 1

absent : (names : List ℕ) (r : ℕ) → has names r ≡ false → times (λ x. x == r) names ≡ 0
unfolding times
absent [] r h = refl
absent (x ∷ xs) r h = go (x == r) h (absent xs r)
  where
    go : (b : Bool) → (b || has xs r) ≡ false → (has xs r ≡ false → times (λ y. y == r) xs ≡ 0) → one_if b + times (λ y. y == r) xs ≡ 0
    go true k later = absurd (cc)
    go false k later = let z = later k in omega (arith, z)

pub has-without : (names : List ℕ) (k r : ℕ) → has (without_one k names) r ≡ true → has names r ≡ true
has-without [] k r h = h
has-without (x ∷ xs) k r h = go (x == k) (x == r) refl h (has-without xs k r)
  where
    go : (u v : Bool) → (x == r) ≡ v → has (cond u xs (x ∷ without_one k xs)) r ≡ true → (has (without_one k xs) r ≡ true → has xs r ≡ true) → (v || has xs r) ≡ true
    go u true at e later = refl
    go true false at e later = e
    go false false at e later = let k = rw at at e in later k

made_names : (s : Refs) → AreNames s → AreNames (record { count = s.count + 1; names = s.count ∷ s.names })
unfolding times
made_names s is = record {
  below = λ q h. below q (s.count == q) refl h;
  once = λ q. once q (s.count == q) (has s.names q) refl refl;
}
  where
    below : (q : ℕ) (u : Bool) → (s.count == q) ≡ u → (u || has s.names q) ≡ true → q < s.count + 1
    below q true e h = let same : s.count ≡ q = grind (arith, nat_tests) in omega (arith, same)
    below q false e h = let k = is.below q h in omega (arith, k)

    once : (q : ℕ) (u v : Bool) → (s.count == q) ≡ u → has s.names q ≡ v → one_if u + times (λ x. x == q) s.names ≤ 1
    once q true true e h = let same : s.count ≡ q = grind (arith, nat_tests) in let k = is.below q h in absurd (omega (arith, same, k))
    once q true false e h = let z = absent s.names q h in omega (arith, z)
    once q false v e h = let k = is.once q in omega (arith, k)

names_stay : (s : Refs) (b : Body) → refs_may s b ≡ true → AreNames s → AreNames (refs_next s b)
names_stay s (Inc p b r) h is =
    let at : s.count ≡ r = grind (arith, nat_tests) in
    subst (λ n. AreNames (record { count = s.count + 1; names = n ∷ s.names })) at (made_names s is)
names_stay s (Dec p b d k) h is = record {
  below = λ q e. let lt = is.below q (has-without s.names k q e) in omega (arith, lt);
  once = λ q. fewer q (times-without_one s.names k q (and_parts _ _ h).1) (is.once q);
}
  where
    fewer : (q : ℕ) → times (λ x. x == q) (without_one k s.names) + one_if (k == q) ≡ times (λ x. x == q) s.names → times (λ x. x == q) s.names ≤ 1 → times (λ x. x == q) (without_one k s.names) ≤ 1
    fewer q less few = omega (arith, less, few)
names_stay s _ h is = absurd (cc)

pub names-are : (history : List Item) → is_allowed references history ≡ true → AreNames (after references history)
unfolding times
names-are history h = after-keeps references AreNames (λ s i may is. names_stay s i.body may is) (record { below = λ r e. absurd (cc); once = λ r. omega arith }) history h

-- The event of a life that lasts to number r is that with which the block was given out.
pub cell-last : (b r : ℕ) (e : Option Event) (pool : List Item) → list_all (λ n. nat_le n r) (edges b pool) ≡ true → last_given b r e pool ≡ cell_after b e pool
unfolding edges last_given cell_after
cell-last b r e [] h = refl
cell-last b r e (i ∷ is) h = go i.body h (λ c k. cell-last b r c is k)
  where
    split : (u : Bool) (n : ℕ) → list_all (λ x. nat_le x r) (cons_option (cond u (Some n) None) (edges b is)) ≡ true
        → ((u && nat_le n r) ≡ u) × (list_all (λ x. nat_le x r) (edges b is) ≡ true)
    split true n k = ((and_parts _ _ k).0, (and_parts _ _ k).1)
    split false n k = (refl, k)

    go : (c : Body) → list_all (λ n. nat_le n r) (cons_option (edge_of b c) (edges b is)) ≡ true
        → ((d : Option Event) → list_all (λ n. nat_le n r) (edges b is) ≡ true → last_given b r d is ≡ cell_after b d is)
        → last_given b r (given_by b r e c) is ≡ cell_after b (cell_next b e c) is
    go (New p n c from sig pars) k later = let two = split (c == b) from k in rw two.0 (later (cond (c == b) (Some (record { sig = sig; pars = pars })) e) two.1)
    go (Back p n c to) k later = let two = split (c == b) to k in rw two.0 (later (cond (c == b) None e) two.1)
    go _ k later = later e k

-- the lives of a block have their edges within its history
pub edges-within : (b : ℕ) (pool block : List Item) → HasLives b pool block → list_all (λ n. nat_le n (length block)) (edges b pool) ≡ true
unfolding edges_empty
edges-within b pool block lives = go (edges b pool) lives.empty
  where
    go : (ns : List ℕ) → list_all (λ n. nat_le n (length block) && is_empty (refs_at n block)) ns ≡ true → list_all (λ n. nat_le n (length block)) ns ≡ true
    go [] h = refl
    go (n ∷ ns) h = and_from _ _ (and_parts _ _ (and_parts _ _ h).0).0 (go ns (and_parts _ _ h).1)

pub cell-append : (b : ℕ) (e : Option Event) (xs : List Item) (i : Item) → cell_after b e (xs ++ i ∷ []) ≡ cell_next b (cell_after b e xs) i.body
unfolding cell_after
cell-append b e [] i = refl
cell-append b e (x ∷ xs) i = cell-append b (cell_next b e x.body) xs i

-- the event of an entry stays, where it is static or its reference was made
pub event-stays : (sys : System) (xs : List Item) (i : Item) (ys : List Item) → IsLater xs i ys → (e : Entry)
    → (e.pool ≡ 0) ⊎ (e.name < length (hist (word.Block e.pool e.block) (xs ++ ys)))
    → event_of_entry (record { sys = sys; items = xs ++ i ∷ ys }) e ≡ event_of_entry (record { sys = sys; items = xs ++ ys }) e
unfolding known_of Settled
event-stays sys xs i ys later e made = event_known-same _ _ (known-stays sys xs i ys later 0 0 (Took 0 0 0 e) made)

-- the event of a reference below the end of its block's history
pub event-life : (w : Facts) (p b r : ℕ) → 0 < p → r < length (hist (word.Block p b) w.items) → event_of_entry w (entry p b r) ≡ last_given b r None (hist (word.Pool p) w.items)
unfolding event_of_entry life_event
event-life w p b r some lt =
    let pooled : (p == 0) ≡ false = grind (arith, nat_tests) in
    let below : nat_lt r (length (hist (word.Block p b) w.items)) ≡ true = grind (arith, nat_tests) in
    rw (pooled, below) refl
