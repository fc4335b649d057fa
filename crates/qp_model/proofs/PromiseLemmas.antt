-- Why lawful words keep their promises.
use Rattle.std.proofs.Common.{◌≡◌, ℕ, zero, suc, ◌+◌, ◌<◌, ◌≤◌, ◌==◌, nat_lt, nat_le, nat_eq, Bool, true, false, ◌&&◌, ◌||◌, cond, List, [], ◌∷◌, ◌++◌, length, drop, refl, sym, ◌∙◌, ap, subst, Option, Some, None, arith, append_assoc, append-nil, length-append}
use Rattle.std.specs.List.{filter, filter_map, list_all, list_any, cons_option}
use Rattle.std.specs.List.Sorted.{IsPermutation}
use Rattle.std.proofs.lemmas.Bool.{and_from, and_parts}
use Rattle.std.proofs.lemmas.List.Sorted.{IsPermutation-refl, IsPermutation-trans, IsPermutation-cons, IsPermutation-append_left, IsPermutation-append_comm}
use Rattle.std.proofs.lemmas.List.{drop-append-le}
use Rattle.std.proofs.lemmas.Bool.Decides.{nat_tests}
use Rattle.qp_chart.specs.StateTree.{has}
use Rattle.qp_model.specs.declared.record.Rec.{Rec}
use Rattle.qp_model.specs.declared.systems.System.{System}
use Rattle.qp_model.specs.declared.words.Word.{Word}
use Rattle.qp_model.specs.declared.words.Word.TheVariants as word
use Rattle.qp_model.specs.declared.bodies.Entry.{Entry}
use Rattle.qp_model.specs.declared.bodies.Body.{Body}
use Rattle.qp_model.specs.declared.bodies.Body.TheVariants.{New, Inc, Dec, Post, Lifo, Took}
use Rattle.qp_model.specs.Record.{Item}
use Rattle.qp_model.specs.Lists.{without_one, is_first}
use Rattle.qp_model.specs.History.{touch, drawn_as, total, numbered, hist, is_numbered, all_items}
use Rattle.qp_model.specs.Machine.{after, after_from, is_allowed, allowed_from}
use Rattle.qp_model.specs.FreeBlocks.{free_blocks}
use Rattle.qp_model.specs.References.{Refs, references, refs_may, refs_next}
use Rattle.qp_model.specs.Line.{Line, line, line_may, line_next, same_entry, is_front}
use Rattle.qp_model.specs.Lives.{edge_of, edges, is_empty, refs_at, edges_empty}
use Rattle.qp_model.specs.Sites.{ring_of, blocks_of}
use Rattle.qp_model.specs.WordLaw.{is_pool, is_block}
use Rattle.qp_model.specs.Promises as promise
use Rattle.qp_model.specs.Promises.{operations, NumberedOnce, posted_by, entries_posted, entry_taken, entries_taken, is_lifo_post, entries_queued, waiting_after, waiting, first_in_by, entries_first_in, plainly_taken_by, plainly_taken, may_take, comes_and_goes}
use Rattle.qp_model.proofs.ListLemmas.{all_below_at, list_all-has}
use Rattle.qp_model.proofs.MachineLemmas.{allowed_from-front, allowed_from-rest, is_allowed-at, is_allowed-front, is_allowed-rest, after-keeps, keeps-from}
use Rattle.qp_model.proofs.LineLemmas.{line_is, same_number}
use Rattle.qp_model.proofs.RecordLemmas.{same_entry-is}

-- the edge that a `new` states is one of the edges
edge-among : (b o p n from sig : ℕ) (pars : List ℕ) (earlier later : List Item)
    → has (filter_map (λ i. edge_of b i.body) (earlier ++ record { of = o; body = New p n b from sig pars } ∷ later)) from ≡ true
edge-among b o p n from sig pars [] later =
    let same : (b == b) ≡ true = grind (arith, nat_tests) in
    let here : (from == from) ≡ true = grind (arith, nat_tests) in
    rw (same, here) refl
edge-among b o p n from sig pars (i ∷ earlier) later = joined (edge_of b i.body) (edge-among b o p n from sig pars earlier later)
  where
    joined : (e : Option ℕ) → has (filter_map (λ i. edge_of b i.body) (earlier ++ record { of = o; body = New p n b from sig pars } ∷ later)) from ≡ true
        → has (cons_option e (filter_map (λ i. edge_of b i.body) (earlier ++ record { of = o; body = New p n b from sig pars } ∷ later))) from ≡ true
    joined None h = h
    joined (Some x) h = at (x == from) h
      where
        at : (same : Bool) → has (filter_map (λ i. edge_of b i.body) (earlier ++ record { of = o; body = New p n b from sig pars } ∷ later)) from ≡ true
            → (same || has (filter_map (λ i. edge_of b i.body) (earlier ++ record { of = o; body = New p n b from sig pars } ∷ later)) from) ≡ true
        at true h = refl
        at false h = h

pub pool_has : (sys : System) (p b : ℕ) → is_block sys p b ≡ true → is_pool sys p ≡ true
unfolding is_block
pool_has sys p b h = (and_parts (is_pool sys p) (nat_lt b (blocks_of sys p)) h).0

empty-is : (xs : List ℕ) → is_empty xs ≡ true → xs ≡ []
empty-is [] h = refl
empty-is (x ∷ xs) h = cc

pub first-has : (b : ℕ) (xs : List ℕ) → is_first b xs ≡ true → has xs b ≡ true
first-has b [] e = cc
first-has b (x ∷ xs) e = rw e refl

pub given_out_unreferenced : promise.GivenOutUnreferenced
unfolding operations edges_empty edges
given_out_unreferenced sys lanes words p b h earlier later o n from sig pars is =
    let i : Item = record { of = o; body = New p n b from sig pars } in
    let block : List Item = operations (word.Block p b) lanes in
    let pool : is_allowed (free_blocks (blocks_of sys p)) (earlier ++ i ∷ later) ≡ true = rw is at (words.pools p (pool_has sys p b h)).allowed in
    let least : (nat_eq n (after (free_blocks (blocks_of sys p)) earlier).count && is_first b (after (free_blocks (blocks_of sys p)) earlier).free) ≡ true =
    is_allowed-at (free_blocks (blocks_of sys p)) earlier later i pool in
    let all : edges_empty b (earlier ++ i ∷ later) block ≡ true = rw is at (words.lives p b h).empty in
    let edge : (nat_le from (length block) && is_empty (refs_at from block)) ≡ true =
    list_all-has (λ n. nat_le n (length block) && is_empty (refs_at n block)) (edges b (earlier ++ i ∷ later)) from all (edge-among b o p n from sig pars earlier later) in
    let within : nat_le from (length block) ≡ true = (and_parts _ _ edge).0 in
    record {
      free = first-has b (after (free_blocks (blocks_of sys p)) earlier).free (and_parts _ _ least).1;
      counted = grind (arith, nat_tests);
      unreferenced = empty-is _ (and_parts _ _ edge).1;
    }

pub dropped_stood : promise.DroppedStood
unfolding operations
dropped_stood sys lanes words p b h earlier later o d k is =
    let i : Item = record { of = o; body = Dec p b d k } in
    let allowed : is_allowed references (earlier ++ i ∷ later) ≡ true = rw is at (words.blocks p b h).allowed in
    let may : (nat_eq d (after references earlier).count && has (after references earlier).names k) ≡ true = is_allowed-at references earlier later i allowed in
    (and_parts _ _ may).1

-- how often a number stands in a list
times : ℕ → List ℕ → ℕ
times k [] = 0
times k (x ∷ xs) = cond (x == k) (suc (times k xs)) (times k xs)

times-has : (k : ℕ) (xs : List ℕ) → has xs k ≡ true → 0 < times k xs
unfolding times
times-has k [] h = cc
times-has k (x ∷ xs) h = go (x == k) h (times-has k xs)
  where
    go : (same : Bool) → (same || has xs k) ≡ true → (has xs k ≡ true → 0 < times k xs) → 0 < cond same (suc (times k xs)) (times k xs)
    go true e later = omega arith
    go false e later = omega (arith, later e)

-- dropping a number takes one of it away, and adds none of any
times-without_same : (k : ℕ) (xs : List ℕ) → times k xs ≤ 1 → times k (without_one k xs) ≡ 0
unfolding times
times-without_same k [] h = refl
times-without_same k (x ∷ xs) h = go (x == k) refl h (times-without_same k xs)
  where
    go : (same : Bool) → (x == k) ≡ same → cond same (suc (times k xs)) (times k xs) ≤ 1 → (times k xs ≤ 1 → times k (without_one k xs) ≡ 0) → times k (cond same xs (x ∷ without_one k xs)) ≡ 0
    go true e h later = omega arith
    go false e h later = rw e (later (omega arith))

times-without_le : (k l : ℕ) (xs : List ℕ) → times k (without_one l xs) ≤ times k xs
unfolding times
times-without_le k l [] = omega arith
times-without_le k l (x ∷ xs) = go (x == l) (x == k) (times-without_le k l xs)
  where
    at : (is : Bool) → times k (without_one l xs) ≤ times k xs → cond is (suc (times k (without_one l xs))) (times k (without_one l xs)) ≤ cond is (suc (times k xs)) (times k xs)
    at true h = omega (arith, h)
    at false h = h

    more : (is : Bool) → times k xs ≤ cond is (suc (times k xs)) (times k xs)
    more true = omega arith
    more false = omega arith

    go : (same is : Bool) → times k (without_one l xs) ≤ times k xs → times k (cond same xs (x ∷ without_one l xs)) ≤ cond (x == k) (suc (times k xs)) (times k xs)
    go true is h = more (x == k)
    go false is h = at (x == k) h

-- each name stands once, and only numbers of operations so far are names
record AreNames (s : Refs) : Type 0 where
  once : (k : ℕ) → times k s.names ≤ 1
  known : (k : ℕ) → s.count ≤ k → times k s.names ≡ 0

names_stay : (s : Refs) (b : Body) → refs_may s b ≡ true → AreNames s → AreNames (refs_next s b)
unfolding times
names_stay s (Inc p b r) h are =
    let is : r ≡ s.count = grind (arith, nat_tests) in
    record {
      once = λ k. at r k is (r == k) refl;
      known = λ k le. above r k is (r == k) refl le;
    }
  where
    at : (r k : ℕ) → r ≡ s.count → (same : Bool) → (r == k) ≡ same → cond same (suc (times k s.names)) (times k s.names) ≤ 1
    at r k is true e = let here : r ≡ k = grind (arith, nat_tests) in omega (arith, are.known k (omega arith))
    at r k is false e = omega (arith, are.once k)

    above : (r k : ℕ) → r ≡ s.count → (same : Bool) → (r == k) ≡ same → s.count + 1 ≤ k → cond same (suc (times k s.names)) (times k s.names) ≡ 0
    above r k is true e le = let here : r ≡ k = grind (arith, nat_tests) in absurd (omega arith)
    above r k is false e le = are.known k (omega arith)
names_stay s (Dec p b d k) h are = record {
  once = λ n. omega (arith, times-without_le n k s.names, are.once n);
  known = λ n le. omega (arith, times-without_le n k s.names, are.known n (omega arith));
}
names_stay s _ h are = cc

-- a name that was dropped never stands again
record IsGone (k : ℕ) (s : Refs) : Type 0 where
  past : k < s.count
  none : times k s.names ≡ 0

gone_stays : (k : ℕ) (s : Refs) (b : Body) → refs_may s b ≡ true → IsGone k s → IsGone k (refs_next s b)
unfolding times
gone_stays k s (Inc p b r) h gone =
    let is : r ≡ s.count = grind (arith, nat_tests) in
    record { past = omega (arith, gone.past); none = at r is (r == k) refl }
  where
    at : (r : ℕ) → r ≡ s.count → (same : Bool) → (r == k) ≡ same → cond same (suc (times k s.names)) (times k s.names) ≡ 0
    at r is true e = let here : r ≡ k = grind (arith, nat_tests) in absurd (omega (arith, gone.past))
    at r is false e = gone.none
gone_stays k s (Dec p b d l) h gone = record { past = omega (arith, gone.past); none = omega (arith, times-without_le k l s.names, gone.none) }
gone_stays k s _ h gone = cc

below_count : (k : ℕ) (s : Refs) → AreNames s → 0 < times k s.names → k < s.count
below_count k s are one = go (nat_lt k s.count) refl
  where
    go : (below : Bool) → nat_lt k s.count ≡ below → k < s.count
    go true e = grind (arith, nat_tests)
    go false e = let le : s.count ≤ k = grind (arith, nat_tests) in absurd (omega (arith, are.known k le))

not_again : (k l : ℕ) (s : Refs) → IsGone k s → has s.names l ≡ true → k ≡ l → ⊥
unfolding times
not_again k l s gone stood same =
    let again : has s.names k ≡ true = rw same stood in
    let one : 0 < times k s.names = times-has k s.names again in
    omega (arith, gone.none)

pub dropped_once : promise.DroppedOnce
unfolding operations allowed_from times
dropped_once sys lanes words p b h earlier between later o q d e k l is =
    let i : Item = record { of = o; body = Dec p b d k } in
    let j : Item = record { of = q; body = Dec p b e l } in
    let history : operations (word.Block p b) lanes ≡ earlier ++ (i ∷ (between ++ j ∷ later)) = is ∙ append_assoc earlier (i ∷ between) (j ∷ later) in
    let allowed : is_allowed references (earlier ++ (i ∷ (between ++ j ∷ later))) ≡ true = rw history at (words.blocks p b h).allowed in
    let s : Refs = after references earlier in
    let may : (nat_eq d s.count && has s.names k) ≡ true = is_allowed-at references earlier (between ++ j ∷ later) i allowed in
    let stood : has s.names k ≡ true = (and_parts _ _ may).1 in
    let names : AreNames s = after-keeps references AreNames (λ t x may are. names_stay t x.body may are) (record { once = λ n. omega arith; known = λ n le. refl }) earlier
    (is_allowed-front references earlier (i ∷ (between ++ j ∷ later)) allowed) in
    let known : k < s.count = below_count k s names (times-has k s.names stood) in
    let gone : IsGone k (references.next s i) = record { past = omega arith; none = times-without_same k s.names (names.once k) } in
    let rest : allowed_from references s (i ∷ (between ++ j ∷ later)) ≡ true = is_allowed-rest references earlier (i ∷ (between ++ j ∷ later)) allowed in
    let behind : allowed_from references (references.next s i) (between ++ j ∷ later) ≡ true = (and_parts _ _ rest).1 in
    let still : IsGone k (after_from references (references.next s i) between) =
    keeps-from references (IsGone k) (λ t x may gone. gone_stays k t x.body may gone) (references.next s i) between (allowed_from-front references (references.next s i) between (j ∷ later) behind) gone in
    let second : allowed_from references (after_from references (references.next s i) between) (j ∷ later) ≡ true = allowed_from-rest references (references.next s i) between (j ∷ later) behind in
    let again : (nat_eq e (after_from references (references.next s i) between).count && has (after_from references (references.next s i) between).names l) ≡ true = (and_parts _ _ second).0 in
    not_again k l (after_from references (references.next s i) between) still (and_parts _ _ again).1

-- the front of a list that begins with the entry
front-is : (e : Entry) (es : List Entry) → is_front e es ≡ true → es ≡ e ∷ drop 1 es
front-is e [] h = cc
front-is e (x ∷ xs) h = ap (λ y. y ∷ xs) (same_entry-is x e h)

-- the front of what is behind the first n entries
drop-front : (n : ℕ) (d : Entry) (xs ys : List Entry) → is_front d (drop n xs) ≡ true → is_front d (drop n (xs ++ ys)) ≡ true
drop-front n d [] ys h = absurd (nothing n h)
  where
    nothing : (n : ℕ) → is_front d (drop n []) ≡ true → ⊥
    nothing zero h = cc
    nothing (suc n) h = cc
drop-front zero d (x ∷ xs) ys h = h
drop-front (suc n) d (x ∷ xs) ys h = drop-front n d xs ys h

drop-drop : (n : ℕ) (xs : List Entry) → drop n (drop 1 xs) ≡ drop (suc n) xs
drop-drop zero [] = refl
drop-drop (suc n) [] = refl
drop-drop n (x ∷ xs) = refl

-- the entries so far and those posted are those taken and those left, in order, where none is posted last-in
order_from : (ring : ℕ) (s : Line) (history : List Item) → allowed_from (line ring) s history ≡ true → list_any (λ i. is_lifo_post i.body) history ≡ false
    → s.entries ++ entries_posted history ≡ entries_taken history ++ (after_from (line ring) s history).entries
unfolding allowed_from after_from entries_posted entries_taken
order_from ring s [] h none = append-nil s.entries
order_from ring s (i ∷ is) h none = go i.body (and_parts _ _ h).0 (λ t allowed none. order_from ring t is allowed none) (and_parts _ _ h).1 none
  where
    go : (b : Body) → line_may ring s b ≡ true
        → ((t : Line) → allowed_from (line ring) t is ≡ true → list_any (λ i. is_lifo_post i.body) is ≡ false → t.entries ++ entries_posted is ≡ entries_taken is ++ (after_from (line ring) t is).entries)
        → allowed_from (line ring) (line_next s b) is ≡ true → (is_lifo_post b || list_any (λ i. is_lifo_post i.body) is) ≡ false
        → s.entries ++ cons_option (posted_by b) (entries_posted is) ≡ cons_option (entry_taken b) (entries_taken is) ++ (after_from (line ring) (line_next s b) is).entries
    go (Post a f l m e) may later allowed none = sym (append_assoc s.entries (e ∷ []) (entries_posted is)) ∙ later (line_next s (Post a f l m e)) allowed none
    go (Lifo f l m e) may later allowed none = cc
    go (Took f l m e) may later allowed none =
        let front : s.entries ≡ e ∷ drop 1 s.entries = front-is e s.entries (and_parts _ _ may).1 in
        ap (λ es. es ++ entries_posted is) front ∙ ap (λ es. e ∷ es) (later (line_next s (Took f l m e)) allowed none)
    go _ may later allowed none = cc

pub queue_keeps_order : promise.QueueKeepsOrder
unfolding operations entries_queued is_allowed after
queue_keeps_order sys lanes words a h none =
    order_from (ring_of sys a) (line (ring_of sys a)).first (operations (word.Queue a) lanes) (words.queues a h).allowed none

-- so are the first-in ones whatever is posted last-in, where n last-in entries stand in front of them
first_in_from : (ring n : ℕ) (s : Line) (history : List Item) → allowed_from (line ring) s history ≡ true → n ≤ length s.entries
    → drop n s.entries ++ entries_first_in history ≡ plainly_taken n history ++ drop (waiting n history) (after_from (line ring) s history).entries
unfolding allowed_from after_from entries_first_in plainly_taken waiting
first_in_from ring n s [] h few = append-nil (drop n s.entries)
first_in_from ring n s (i ∷ is) h few = go n i.body (and_parts _ _ h).0 few (λ n t allowed few. first_in_from ring n t is allowed few) (and_parts _ _ h).1
  where
    go : (n : ℕ) (b : Body) → line_may ring s b ≡ true → n ≤ length s.entries
        → ((n : ℕ) (t : Line) → allowed_from (line ring) t is ≡ true → n ≤ length t.entries
        → drop n t.entries ++ entries_first_in is ≡ plainly_taken n is ++ drop (waiting n is) (after_from (line ring) t is).entries)
        → allowed_from (line ring) (line_next s b) is ≡ true
        → drop n s.entries ++ cons_option (first_in_by b) (entries_first_in is)
        ≡ cons_option (plainly_taken_by b n) (plainly_taken (waiting_after b n) is) ++ drop (waiting (waiting_after b n) is) (after_from (line ring) (line_next s b) is).entries
    go n (Post a f l m e) may few later allowed =
        sym (append_assoc (drop n s.entries) (e ∷ []) (entries_first_in is))
        ∙ ap (λ es. es ++ entries_first_in is) (sym (drop-append-le n s.entries (e ∷ []) few))
        ∙ later n (line_next s (Post a f l m e)) allowed (longer n (e ∷ []) few)
      where
        longer : (n : ℕ) (more : List Entry) → n ≤ length s.entries → n ≤ length (s.entries ++ more)
        longer n more few = omega (arith, length-append s.entries more)
    go n (Lifo f l m e) may few later allowed = later (suc n) (line_next s (Lifo f l m e)) allowed (omega (arith, few))
    go zero (Took f l m e) may few later allowed =
        let front : s.entries ≡ e ∷ drop 1 s.entries = front-is e s.entries (and_parts _ _ may).1 in
        ap (λ es. es ++ entries_first_in is) front ∙ ap (λ es. e ∷ es) (later 0 (line_next s (Took f l m e)) allowed (omega arith))
    go (suc n) (Took f l m e) may few later allowed =
        ap (λ es. es ++ entries_first_in is) (sym (drop-drop n s.entries)) ∙ later n (line_next s (Took f l m e)) allowed (shorter n s.entries few)
      where
        shorter : (n : ℕ) (es : List Entry) → suc n ≤ length es → n ≤ length (drop 1 es)
        shorter n [] few = absurd (omega (arith, few))
        shorter n (x ∷ xs) few = omega (arith, few)
    go n _ may few later allowed = cc

pub first_in_keep_order : promise.FirstInKeepOrder
unfolding operations entries_queued is_allowed after
first_in_keep_order sys lanes words a h =
    first_in_from (ring_of sys a) 0 (line (ring_of sys a)).first (operations (word.Queue a) lanes) (words.queues a h).allowed (omega arith)

-- the same in any order, also where some are posted last-in
balance_from : (ring : ℕ) (s : Line) (history : List Item) → allowed_from (line ring) s history ≡ true
    → IsPermutation (s.entries ++ entries_posted history) (entries_taken history ++ (after_from (line ring) s history).entries)
unfolding allowed_from after_from entries_posted entries_taken
balance_from ring s [] h = rw append-nil (IsPermutation-refl s.entries)
balance_from ring s (i ∷ is) h = go i.body (and_parts _ _ h).0 (λ t allowed. balance_from ring t is allowed) (and_parts _ _ h).1
  where
    go : (b : Body) → line_may ring s b ≡ true
        → ((t : Line) → allowed_from (line ring) t is ≡ true → IsPermutation (t.entries ++ entries_posted is) (entries_taken is ++ (after_from (line ring) t is).entries))
        → allowed_from (line ring) (line_next s b) is ≡ true
        → IsPermutation (s.entries ++ cons_option (posted_by b) (entries_posted is)) (cons_option (entry_taken b) (entries_taken is) ++ (after_from (line ring) (line_next s b) is).entries)
    go (Post a f l m e) may later allowed = rw (← append_assoc s.entries (e ∷ []) (entries_posted is)) (later (line_next s (Post a f l m e)) allowed)
    go (Lifo f l m e) may later allowed =
        IsPermutation-trans (s.entries ++ e ∷ entries_posted is) (e ∷ s.entries ++ entries_posted is) _ (moved e s.entries (entries_posted is)) (later (line_next s (Lifo f l m e)) allowed)
      where
        moved : (e : Entry) (xs ys : List Entry) → IsPermutation (xs ++ e ∷ ys) (e ∷ xs ++ ys)
        moved e xs ys =
            rw (← append_assoc xs (e ∷ []) ys)
            (IsPermutation-append_left ys (xs ++ e ∷ []) (e ∷ xs) (IsPermutation-append_comm xs (e ∷ [])))
    go (Took f l m e) may later allowed =
        let front : s.entries ≡ e ∷ drop 1 s.entries = front-is e s.entries (and_parts _ _ may).1 in
        rw front (IsPermutation-cons e (drop 1 s.entries ++ entries_posted is) (entries_taken is ++ (after_from (line ring) (line_next s (Took f l m e)) is).entries) (later (line_next s (Took f l m e)) allowed))
    go _ may later allowed = cc

pub queue_loses_nothing : promise.QueueLosesNothing
unfolding operations entries_queued is_allowed after
queue_loses_nothing sys lanes words a h =
    balance_from (ring_of sys a) (line (ring_of sys a)).first (operations (word.Queue a) lanes) (words.queues a h).allowed

pub queue_fits : promise.QueueFits
unfolding operations
queue_fits sys lanes words a h earlier later is =
    let allowed : is_allowed (line (ring_of sys a)) (earlier ++ later) ≡ true = rw is at (words.queues a h).allowed in
    (line_is (ring_of sys a) earlier (is_allowed-front (line (ring_of sys a)) earlier later allowed)).fits

-- what comes and goes in front of an entry leaves it there
front_stays : (ring n : ℕ) (d : Entry) (s : Line) (between : List Item) → comes_and_goes n between ≡ true → is_front d (drop n s.entries) ≡ true
    → is_front d (after_from (line ring) s between).entries ≡ true
unfolding after_from comes_and_goes
front_stays ring n d s [] goes h = let none : n ≡ 0 = grind (arith, nat_tests) in subst (λ n. is_front d (drop n s.entries) ≡ true) none h
front_stays ring n d s (i ∷ is) goes h =
    front_stays ring (waiting_after i.body n) d (line_next s i.body) is (and_parts _ _ goes).1 (step n i.body (and_parts _ _ goes).0 h)
  where
    step : (n : ℕ) (b : Body) → may_take b n ≡ true → is_front d (drop n s.entries) ≡ true → is_front d (drop (waiting_after b n) (line_next s b).entries) ≡ true
    step n (Post a f l m e) p h = drop-front n d s.entries (e ∷ []) h
    step n (Lifo f l m e) p h = h
    step zero (Took f l m e) p h = cc
    step (suc n) (Took f l m e) p h = subst (λ xs. is_front d xs ≡ true) (sym (drop-drop n s.entries)) h
    step n _ p h = h

pub last_in_is_next : promise.LastInIsNext
unfolding operations allowed_from
last_in_is_next sys lanes words a h earlier between later o q f l m g k n d e is goes =
    let ring : ℕ = ring_of sys a in
    let i : Item = record { of = o; body = Lifo f l m d } in
    let j : Item = record { of = q; body = Took g k n e } in
    let s : Line = after (line ring) earlier in
    let history : operations (word.Queue a) lanes ≡ earlier ++ (i ∷ (between ++ j ∷ later)) = is ∙ append_assoc earlier (i ∷ between) (j ∷ later) in
    let allowed : is_allowed (line ring) (earlier ++ (i ∷ (between ++ j ∷ later))) ≡ true = rw history at (words.queues a h).allowed in
    let rest : allowed_from (line ring) s (i ∷ (between ++ j ∷ later)) ≡ true = is_allowed-rest (line ring) earlier (i ∷ (between ++ j ∷ later)) allowed in
    let second : allowed_from (line ring) (after_from (line ring) (line_next s i.body) between) (j ∷ later) ≡ true =
    allowed_from-rest (line ring) (line_next s i.body) between (j ∷ later) (and_parts _ _ rest).1 in
    let taken_front : is_front e (after_from (line ring) (line_next s i.body) between).entries ≡ true = (and_parts _ _ (and_parts _ _ second).0).1 in
    let put_front : is_front d (after_from (line ring) (line_next s i.body) between).entries ≡ true =
    front_stays ring 0 d (line_next s i.body) between goes (same d) in
    one_front (after_from (line ring) (line_next s i.body) between).entries d e put_front taken_front
  where
    same : (d : Entry) → same_entry d d ≡ true
    same d = rw (same_number d.pool, same_number d.block, same_number d.name) refl

    one_front : (es : List Entry) (d e : Entry) → is_front d es ≡ true → is_front e es ≡ true → e ≡ d
    one_front [] d e x y = cc
    one_front (z ∷ zs) d e x y = sym (same_entry-is z e y) ∙ same_entry-is z d x

-- Numbers: each operation stands at its number.
in_place : Word → ℕ → List Item → Bool
in_place w n [] = true
in_place w n (i ∷ is) = drawn_as w n (touch i) && in_place w (suc n) is

in_place-append : (w : Word) (n : ℕ) (xs ys : List Item) → in_place w n xs ≡ true → in_place w (n + length xs) ys ≡ true → in_place w n (xs ++ ys) ≡ true
unfolding in_place
in_place-append w n [] ys h k = let same : n + 0 ≡ n = omega arith in subst (λ m. in_place w m ys ≡ true) same k
in_place-append w n (x ∷ xs) ys h k =
    let same : n + suc (length xs) ≡ suc n + length xs = omega arith in
    and_from _ _ (and_parts _ _ h).0 (in_place-append w (suc n) xs ys (and_parts _ _ h).1 (subst (λ m. in_place w m ys ≡ true) same k))

in_place-at : (w : Word) (n : ℕ) (earlier later : List Item) (i : Item) → in_place w n (earlier ++ i ∷ later) ≡ true → drawn_as w (n + length earlier) (touch i) ≡ true
unfolding in_place
in_place-at w n [] later i h = let same : n ≡ n + 0 = omega arith in subst (λ m. drawn_as w m (touch i) ≡ true) same (and_parts _ _ h).0
in_place-at w n (x ∷ earlier) later i h =
    let same : suc n + length earlier ≡ n + suc (length earlier) = omega arith in
    subst (λ m. drawn_as w m (touch i) ≡ true) same (in_place-at w (suc n) earlier later i (and_parts _ _ h).1)

list_all-filter : {X : Type 0} (p : X → Bool) (xs : List X) → list_all p (filter p xs) ≡ true
list_all-filter p [] = refl
list_all-filter {X} p (x ∷ xs) = go (p x) refl (list_all-filter p xs)
  where
    go : (b : Bool) → p x ≡ b → list_all p (filter p xs) ≡ true → list_all p (cond b (x ∷ filter p xs) (filter p xs)) ≡ true
    go true e h = and_from _ _ e h
    go false e h = h

pub one_of : {X : Type 0} (xs : List X) → length xs ≡ 1 → (x : X) × (xs ≡ x ∷ [])
one_of [] e = absurd (omega arith)
one_of (x ∷ []) e = (x, refl)
one_of (x ∷ y ∷ xs) e = absurd (omega arith)

placed_all : (w : Word) (items : List Item) (n : ℕ) → ((k : ℕ) → k < n → (length (filter (λ j. drawn_as w k (touch j)) items) == 1) ≡ true)
    → (in_place w 0 (numbered w items n) ≡ true) × (length (numbered w items n) ≡ n)
unfolding numbered in_place
placed_all w items zero h = (refl, refl)
placed_all w items (suc n) h =
    let before : (in_place w 0 (numbered w items n) ≡ true) × (length (numbered w items n) ≡ n) = placed_all w items n (λ k lt. h k (omega arith)) in
    let one : (length (filter (λ j. drawn_as w n (touch j)) items) == 1) ≡ true = h n (omega arith) in
    let single : length (filter (λ j. drawn_as w n (touch j)) items) ≡ 1 = grind (arith, nat_tests) in
    let here : (x : Item) × (filter (λ j. drawn_as w n (touch j)) items ≡ x ∷ []) = one_of (filter (λ j. drawn_as w n (touch j)) items) single in
    let draws : list_all (λ j. drawn_as w n (touch j)) (filter (λ j. drawn_as w n (touch j)) items) ≡ true = list_all-filter (λ j. drawn_as w n (touch j)) items in (
      in_place-append w 0 (numbered w items n) (filter (λ j. drawn_as w n (touch j)) items) before.0 (at (filter (λ j. drawn_as w n (touch j)) items) here draws (length (numbered w items n)) before.1),
      omega (arith, length-append (numbered w items n) (filter (λ j. drawn_as w n (touch j)) items), before.1),
    )
  where
    at : (xs : List Item) → (x : Item) × (xs ≡ x ∷ []) → list_all (λ j. drawn_as w n (touch j)) xs ≡ true → (k : ℕ) → k ≡ n → in_place w (0 + k) xs ≡ true
    at xs here draws k is =
        let draw : list_all (λ j. drawn_as w n (touch j)) (here.0 ∷ []) ≡ true = rw here.1 at draws in
        let first : drawn_as w n (touch here.0) ≡ true = (and_parts _ _ draw).0 in
        let same : 0 + k ≡ n = omega arith in
        rw (here.1, same) (and_from _ _ first refl)

pub numbered_once : (w : Word) (lanes : List (List Rec)) → is_numbered w (all_items lanes) ≡ true → NumberedOnce w lanes
unfolding operations hist is_numbered
numbered_once w lanes h =
    let each : (k : ℕ) → k < total w (all_items lanes) → (length (filter (λ j. drawn_as w k (touch j)) (all_items lanes)) == 1) ≡ true =
    all_below_at (total w (all_items lanes)) (λ n. length (filter (λ j. drawn_as w n (touch j)) (all_items lanes)) == 1) (and_parts _ _ h).1 in
    let places : (in_place w 0 (numbered w (all_items lanes) (total w (all_items lanes))) ≡ true) × (length (numbered w (all_items lanes) (total w (all_items lanes))) ≡ total w (all_items lanes)) =
    placed_all w (all_items lanes) (total w (all_items lanes)) each in
    record {
      once = λ n lt. one_of (filter (λ j. drawn_as w n (touch j)) (all_items lanes)) (single n (each n lt));
      placed = λ earlier later i is.
          let there : in_place w 0 (earlier ++ i ∷ later) ≡ true = rw is at places.0 in
          let same : 0 + length earlier ≡ length earlier = omega arith in
          subst (λ n. drawn_as w n (touch i) ≡ true) same (in_place-at w 0 earlier later i there);
      all = places.1;
    }
  where
    single : (n : ℕ) → (length (filter (λ j. drawn_as w n (touch j)) (all_items lanes)) == 1) ≡ true → length (filter (λ j. drawn_as w n (touch j)) (all_items lanes)) ≡ 1
    single n e = grind (arith, nat_tests)

pub operations_are_numbered : promise.OperationsAreNumbered
operations_are_numbered sys lanes words = record {
  pools = λ p h. numbered_once (word.Pool p) lanes (words.pools p h).numbers;
  blocks = λ p b h. numbered_once (word.Block p b) lanes (words.blocks p b h).numbers;
  queues = λ a h. numbered_once (word.Queue a) lanes (words.queues a h).numbers;
  signals = λ s h. numbered_once (word.Signal s) lanes (words.signals s h).numbers;
  timers = λ t h. numbered_once (word.Timer t) lanes (words.timers t h).numbers;
}
