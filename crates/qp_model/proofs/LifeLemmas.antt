-- The lives of a block when it has one operation more, when it is given out, and when it comes back.
use Rattle.std.proofs.Common.{◌≡◌, ℕ, zero, suc, ◌+◌, ◌<◌, ◌≤◌, ◌==◌, nat_lt, nat_le, Bool, true, false, not, ◌&&◌, ◌||◌, cond, List, [], ◌∷◌, ◌++◌, length, refl, ◌∙◌, ap, subst, ◌⊎◌, inl, inr, Option, Some, None, arith, length-append, append-nil}
use borrow.Author.Count.{below_more}
use Rattle.std.specs.List.{list_all, cons_option}
use Rattle.std.proofs.lemmas.Bool.{and_from, and_parts}
use Rattle.std.proofs.lemmas.List.{take-append-le}
use Rattle.std.proofs.lemmas.List.Elements.{filter_map-append}
use Rattle.std.proofs.lemmas.List.Folds.{list_all-append, list_any-append}
use Rattle.std.proofs.lemmas.Bool.Decides.{nat_tests}
use Rattle.qp_chart.specs.StateTree.{has}
use Rattle.qp_model.specs.declared.bodies.Body.{Body}
use Rattle.qp_model.specs.declared.bodies.Body.TheVariants.{New, Back}
use Rattle.qp_model.specs.Record.{Item}
use Rattle.qp_model.specs.Lists.{all_below, without_all, with_number, count_up}
use Rattle.qp_model.specs.FreeBlocks.{Pool, pool_next, free_blocks}
use Rattle.qp_model.specs.Machine.{after_from, after}
use Rattle.qp_model.specs.References.{references}
use Rattle.qp_model.specs.Lives.{Life, life_of, life_next, life_may, edge_of, edges, is_empty, refs_at, edges_empty, lives_cover, lives_referred, HasLives}
use Rattle.qp_model.proofs.ListLemmas.{all_below_at, all_below_from, list_all-has}
use Rattle.qp_model.proofs.LineLemmas.{same_number}
use Rattle.qp_model.proofs.MachineLemmas.{after-append, is_allowed-append}

-- the references at a place within a history stay when it grows
refs_at-more : (n : ℕ) (block : List Item) (i : Item) → n ≤ length block → refs_at n (block ++ i ∷ []) ≡ refs_at n block
unfolding refs_at
refs_at-more n block i le = ap (λ h. (after references h).names) (take-append-le n block (i ∷ []) le)

edges-append : (b : ℕ) (pool : List Item) (i : Item) → edges b (pool ++ i ∷ []) ≡ edges b pool ++ cons_option (edge_of b i.body) []
unfolding edges
edges-append b pool i = filter_map-append (λ j. edge_of b j.body) pool (i ∷ [])

-- edges that are empty stay so when the block's history grows
edges_empty-grow : (at : List ℕ) (block : List Item) (i : Item) → list_all (λ n. nat_le n (length block) && is_empty (refs_at n block)) at ≡ true
    → list_all (λ n. nat_le n (length (block ++ i ∷ [])) && is_empty (refs_at n (block ++ i ∷ []))) at ≡ true
edges_empty-grow [] block i h = refl
edges_empty-grow (x ∷ xs) block i h =
    let within : nat_le x (length block) ≡ true = (and_parts _ _ (and_parts _ _ h).0).0 in
    let le : x ≤ length block = grind (arith, nat_tests) in
    let more : nat_le x (length (block ++ i ∷ [])) ≡ true = longer x block i le in
    let none : is_empty (refs_at x block) ≡ true = (and_parts _ _ (and_parts _ _ h).0).1 in
    and_from _ _ (and_from _ _ more (rw (refs_at-more x block i le) none)) (edges_empty-grow xs block i (and_parts _ _ h).1)
  where
    longer : (x : ℕ) (block : List Item) (i : Item) → x ≤ length block → nat_le x (length (block ++ i ∷ [])) ≡ true
    longer x block i le = grind (arith, nat_tests, length-append block (i ∷ []))

-- an operation more on a block that is given out, where its life has just begun or a reference stands
pub lives-grow : (b : ℕ) (pool block : List Item) (i : Item) → HasLives b pool block → (after (life_of b) pool).out ≡ true
    → (has (edges b pool) (length block) || not (is_empty (refs_at (length block) block))) ≡ true → HasLives b pool (block ++ i ∷ [])
unfolding edges_empty lives_cover lives_referred
lives-grow b pool block i old out here = record {
  alternate = old.alternate;
  empty = edges_empty-grow (edges b pool) block i old.empty;
  cover = rw out refl;
  referred = rw (longer block i) (all_below_from (suc (length block)) (λ n. has (edges b pool) n || not (is_empty (refs_at n (block ++ i ∷ []))))
      (λ n below. at n below));
}
  where
    longer : (block : List Item) (i : Item) → length (block ++ i ∷ []) ≡ suc (length block)
    longer block i = omega (arith, length-append block (i ∷ []))

    at : (n : ℕ) → n < suc (length block) → (has (edges b pool) n || not (is_empty (refs_at n (block ++ i ∷ [])))) ≡ true
    at n below =
        below_more (λ k. (has (edges b pool) k || not (is_empty (refs_at k (block ++ i ∷ [])))) ≡ true) (length block)
        (λ k lt. let le : k ≤ length block = omega arith in
        rw (refs_at-more k block i le) (all_below_at (length block) (λ n. has (edges b pool) n || not (is_empty (refs_at n block))) old.referred k lt))
        (let le : length block ≤ length block = omega arith in rw (refs_at-more (length block) block i le) here)
        n (omega arith)

-- the edge stated last is 0 before any, and one of the edges
edge-from : (b : ℕ) (s : Life) (pool : List Item) → ((after_from (life_of b) s pool).edge ≡ s.edge) ⊎ (has (edges b pool) (after_from (life_of b) s pool).edge ≡ true)
unfolding after_from edges
edge-from b s [] = inl refl
edge-from b s (i ∷ is) = go i.body (λ t. edge-from b t is)
  where
    joined : (o : Option ℕ) (x : ℕ) → has (edges b is) x ≡ true → has (cons_option o (edges b is)) x ≡ true
    joined None x h = h
    joined (Some y) x h = at (y == x) h
      where
        at : (same : Bool) → has (edges b is) x ≡ true → (same || has (edges b is) x) ≡ true
        at true h = refl
        at false h = h

    -- the edge stated here, or the one before
    step : (same : Bool) (out : Bool) (edge : ℕ)
        → ((t : Life) → ((after_from (life_of b) t is).edge ≡ t.edge) ⊎ (has (edges b is) (after_from (life_of b) t is).edge ≡ true))
        → let t : Life = cond same (record { out = out; edge = edge }) s in
        let o : Option ℕ = cond same (Some edge) None in
        ((after_from (life_of b) t is).edge ≡ s.edge) ⊎ (has (cons_option o (edges b is)) (after_from (life_of b) t is).edge ≡ true)
    step true out edge later = elim (later (record { out = out; edge = edge })) [ inl e ↦ inr (rw (e, same_number edge) refl) | inr h ↦ inr (joined (Some edge) _ h) ]
    step false out edge later = later s

    go : (c : Body) → ((t : Life) → ((after_from (life_of b) t is).edge ≡ t.edge) ⊎ (has (edges b is) (after_from (life_of b) t is).edge ≡ true))
        → ((after_from (life_of b) (life_next b s c) is).edge ≡ s.edge) ⊎ (has (cons_option (edge_of b c) (edges b is)) (after_from (life_of b) (life_next b s c) is).edge ≡ true)
    go (New p n c from sig pars) later = step (c == b) true from later
    go (Back p n c to) later = step (c == b) false to later
    go _ later = later s

-- a block that isn't given out has no reference after its last operation
not_out-empty : (b : ℕ) (pool block : List Item) → HasLives b pool block → (after (life_of b) pool).out ≡ false → is_empty (refs_at (length block) block) ≡ true
unfolding edges_empty lives_cover after refs_at after_from
not_out-empty b pool block old out =
    let covers : (false || ((after (life_of b) pool).edge == length block)) ≡ true = rw out at old.cover in
    let ends : (after (life_of b) pool).edge ≡ length block = grind (arith, nat_tests) in
    elim (edge-from b (life_of b).first pool) [ inl first ↦ none block (ends_first first ends) | inr at ↦ at_edge (edges b pool) ends old.empty at ]
  where
    ends_first : (after (life_of b) pool).edge ≡ 0 → (after (life_of b) pool).edge ≡ length block → length block ≡ 0
    ends_first e f = omega arith

    none : (xs : List Item) → length xs ≡ 0 → is_empty (refs_at (length xs) xs) ≡ true
    none [] e = refl
    none (x ∷ xs) e = absurd (omega arith)

    at_edge : (at : List ℕ) → (after (life_of b) pool).edge ≡ length block → list_all (λ n. nat_le n (length block) && is_empty (refs_at n block)) at ≡ true
        → has at (after (life_of b) pool).edge ≡ true → is_empty (refs_at (length block) block) ≡ true
    at_edge at e all h =
        let here : (nat_le (length block) (length block) && is_empty (refs_at (length block) block)) ≡ true =
        subst (λ n. (nat_le n (length block) && is_empty (refs_at n block)) ≡ true) e
        (list_all-has (λ n. nat_le n (length block) && is_empty (refs_at n block)) at (after (life_of b) pool).edge all h) in
        (and_parts (nat_le (length block) (length block)) (is_empty (refs_at (length block) block)) here).1

-- the edge that a `new` or `back` of the block adds is within its history, and no reference stands there
edge_added : (at : List ℕ) (block : List Item) → list_all (λ n. nat_le n (length block) && is_empty (refs_at n block)) at ≡ true
    → is_empty (refs_at (length block) block) ≡ true → list_all (λ n. nat_le n (length block) && is_empty (refs_at n block)) (at ++ length block ∷ []) ≡ true
edge_added at block all none =
    let within : nat_le (length block) (length block) ≡ true = grind (arith, nat_tests) in
    rw (list_all-append (λ n. nat_le n (length block) && is_empty (refs_at n block)) at (length block ∷ []), all, within, none) refl

-- an edge more leaves the rest of the block's history as it was
referred_more : (at more : List ℕ) (block : List Item) → all_below (length block) (λ n. has at n || not (is_empty (refs_at n block))) ≡ true
    → all_below (length block) (λ n. has (at ++ more) n || not (is_empty (refs_at n block))) ≡ true
referred_more at more block h =
    all_below_from (length block) (λ n. has (at ++ more) n || not (is_empty (refs_at n block)))
    (λ n below. rw (list_any-append (λ y. y == n) at more) (either (has at n) (has more n) (not (is_empty (refs_at n block)))
    (all_below_at (length block) (λ n. has at n || not (is_empty (refs_at n block))) h n below)))
  where
    either : (a m r : Bool) → (a || r) ≡ true → ((a || m) || r) ≡ true
    either true m r e = refl
    either false true r e = refl
    either false false r e = e

-- the block is given out where it isn't yet; its word has had as many operations as `from` states
pub lives-new : (b : ℕ) (pool block : List Item) (o p n sig : ℕ) (pars : List ℕ) → HasLives b pool block → (after (life_of b) pool).out ≡ false
    → HasLives b (pool ++ record { of = o; body = New p n b (length block) sig pars } ∷ []) block
unfolding edges_empty lives_cover lives_referred
lives-new b pool block o p n sig pars old out =
    let i : Item = record { of = o; body = New p n b (length block) sig pars } in
    let covers : (false || ((after (life_of b) pool).edge == length block)) ≡ true = rw out at old.cover in
    let ends : (length block == (after (life_of b) pool).edge) ≡ true = grind (arith, nat_tests) in
    let added : edges b (pool ++ i ∷ []) ≡ edges b pool ++ length block ∷ [] = edges-append b pool i ∙ rw (same_number b) refl in
    record {
      alternate = is_allowed-append (life_of b) pool i old.alternate (rw (same_number b, out, ends) refl);
      empty = rw added (edge_added (edges b pool) block old.empty (not_out-empty b pool block old out));
      cover = rw (after-append (life_of b) pool i, same_number b) refl;
      referred = rw added (referred_more (edges b pool) (length block ∷ []) block old.referred);
    }

-- the block comes back where it is out, has had an operation since, and has no reference; `to` states the operations of its word
pub lives-back : (b : ℕ) (pool block : List Item) (o p n : ℕ) → HasLives b pool block → (after (life_of b) pool).out ≡ true
    → (after (life_of b) pool).edge < length block → is_empty (refs_at (length block) block) ≡ true
    → HasLives b (pool ++ record { of = o; body = Back p n b (length block) } ∷ []) block
unfolding edges_empty lives_cover lives_referred
lives-back b pool block o p n old out lt none =
    let i : Item = record { of = o; body = Back p n b (length block) } in
    let above : nat_lt (after (life_of b) pool).edge (length block) ≡ true = grind (arith, nat_tests) in
    let added : edges b (pool ++ i ∷ []) ≡ edges b pool ++ length block ∷ [] = edges-append b pool i ∙ rw (same_number b) refl in
    record {
      alternate = is_allowed-append (life_of b) pool i old.alternate (rw (same_number b, out, above) refl);
      empty = rw added (edge_added (edges b pool) block old.empty none);
      cover = rw (after-append (life_of b) pool i, same_number b, same_number (length block)) refl;
      referred = rw added (referred_more (edges b pool) (length block ∷ []) block old.referred);
    }

-- an operation of the pool on another block
pub lives-other : (b : ℕ) (pool block : List Item) (i : Item) → edge_of b i.body ≡ None → HasLives b pool block → HasLives b (pool ++ i ∷ []) block
unfolding edges_empty lives_cover lives_referred
lives-other b pool block i other old =
    let same : edges b (pool ++ i ∷ []) ≡ edges b pool = edges-append b pool i ∙ rw other (append-nil (edges b pool)) in
    let stays : after (life_of b) (pool ++ i ∷ []) ≡ after (life_of b) pool = after-append (life_of b) pool i ∙ next_stays i.body other (after (life_of b) pool) in
    record {
      alternate = is_allowed-append (life_of b) pool i old.alternate (may_stay i.body other (after (life_of b) pool));
      empty = rw same old.empty;
      cover = rw stays old.cover;
      referred = rw same old.referred;
    }
  where
    not_same : (same : Bool) (x : ℕ) → cond same (Some x) None ≡ None → same ≡ false
    not_same true x e = cc
    not_same false x e = refl

    next_stays : (d : Body) → edge_of b d ≡ None → (s : Life) → life_next b s d ≡ s
    next_stays (New p n c from sig pars) e s = rw (not_same (c == b) from e) refl
    next_stays (Back p n c to) e s = rw (not_same (c == b) to e) refl
    next_stays _ e s = refl

    may_stay : (d : Body) → edge_of b d ≡ None → (s : Life) → life_may b s d ≡ true
    may_stay (New p n c from sig pars) e s = rw (not_same (c == b) from e) refl
    may_stay (Back p n c to) e s = rw (not_same (c == b) to e) refl
    may_stay _ e s = refl

pub has-without_same : (b : ℕ) (xs : List ℕ) → has (without_all b xs) b ≡ false
has-without_same b [] = refl
has-without_same b (x ∷ xs) = go (x == b) refl (has-without_same b xs)
  where
    go : (same : Bool) → (x == b) ≡ same → has (without_all b xs) b ≡ false → has (cond same (without_all b xs) (x ∷ without_all b xs)) b ≡ false
    go true e h = h
    go false e h = rw (e, h) refl

has-without_other : (b c : ℕ) (xs : List ℕ) → (c == b) ≡ false → has (without_all c xs) b ≡ has xs b
has-without_other b c [] other = refl
has-without_other b c (x ∷ xs) other = go (x == c) refl (has-without_other b c xs other)
  where
    go : (same : Bool) → (x == c) ≡ same → has (without_all c xs) b ≡ has xs b → has (cond same (without_all c xs) (x ∷ without_all c xs)) b ≡ ((x == b) || has xs b)
    go true e h =
        let is : x ≡ c = grind (arith, nat_tests) in
        let not_b : (x == b) ≡ false = rw is other in
        rw not_b h
    go false e h = ap (λ v. (x == b) || v) h

has-with_same : (b : ℕ) (xs : List ℕ) → has (with_number b xs) b ≡ true
has-with_same b [] = rw (same_number b) refl
has-with_same b (x ∷ xs) = go (nat_lt b x) (b == x) refl (has-with_same b xs)
  where
    here : has (b ∷ x ∷ xs) b ≡ true
    here = rw (same_number b) refl

    later : (v : Bool) → (v || true) ≡ true
    later true = refl
    later false = refl

    go : (below same : Bool) → (b == x) ≡ same → has (with_number b xs) b ≡ true → has (cond below (b ∷ x ∷ xs) (cond same (x ∷ xs) (x ∷ with_number b xs))) b ≡ true
    go true same e h = here
    go false true e h = let is : (x == b) ≡ true = grind (arith, nat_tests) in rw is refl
    go false false e h = rw h (later (x == b))

has-with_other : (b c : ℕ) (xs : List ℕ) → (c == b) ≡ false → has (with_number c xs) b ≡ has xs b
has-with_other b c [] other = rw other refl
has-with_other b c (x ∷ xs) other = go (nat_lt c x) (c == x) (has-with_other b c xs other)
  where
    go : (below same : Bool) → has (with_number c xs) b ≡ has xs b → has (cond below (c ∷ x ∷ xs) (cond same (x ∷ xs) (x ∷ with_number c xs))) b ≡ ((x == b) || has xs b)
    go true same h = rw other refl
    go false true h = refl
    go false false h = ap (λ v. (x == b) || v) h

has-count_up : (from n b : ℕ) → from ≤ b → b < from + n → has (count_up from n) b ≡ true
has-count_up from zero b le lt = absurd (omega arith)
has-count_up from (suc n) b le lt = go (λ next below. has-count_up (from + 1) n b next below) (from == b) refl
  where
    go : (from + 1 ≤ b → b < from + 1 + n → has (count_up (from + 1) n) b ≡ true) → (same : Bool) → (from == b) ≡ same → (same || has (count_up (from + 1) n) b) ≡ true
    go later true e = refl
    go later false e =
        let next : from + 1 ≤ b = grind (arith, nat_tests) in
        later next (omega arith)

free_step : (b : ℕ) (s : Pool) (t : Life) (c : Body) → has s.free b ≡ not t.out → has (pool_next s c).free b ≡ not (life_next b t c).out
free_step b s t (New p n c from sig pars) h = go (c == b) refl
  where
    go : (same : Bool) → (c == b) ≡ same → has (without_all c s.free) b ≡ not (cond same (record { out = true; edge = from }) t).out
    go true e = let is : c ≡ b = grind (arith, nat_tests) in rw is (has-without_same b s.free)
    go false e = has-without_other b c s.free e ∙ h
free_step b s t (Back p n c to) h = go (c == b) refl
  where
    go : (same : Bool) → (c == b) ≡ same → has (with_number c s.free) b ≡ not (cond same (record { out = false; edge = to }) t).out
    go true e = let is : c ≡ b = grind (arith, nat_tests) in rw is (has-with_same b s.free)
    go false e = has-with_other b c s.free e ∙ h
free_step b s t _ h = h

free-from : (blocks b : ℕ) (s : Pool) (t : Life) (pool : List Item) → has s.free b ≡ not t.out
    → has (after_from (free_blocks blocks) s pool).free b ≡ not (after_from (life_of b) t pool).out
unfolding after_from
free-from blocks b s t [] h = h
free-from blocks b s t (i ∷ is) h = free-from blocks b (pool_next s i.body) (life_next b t i.body) is (free_step b s t i.body h)

-- a block of the pool is free exactly where it isn't given out
pub free-out : (blocks b : ℕ) (pool : List Item) → b < blocks → has (after (free_blocks blocks) pool).free b ≡ not (after (life_of b) pool).out
unfolding after
free-out blocks b pool lt = free-from blocks b (free_blocks blocks).first (life_of b).first pool (has-count_up 0 blocks b (omega arith) (omega arith))

-- the life of a block that is out begins within its history
pub edge-within : (b : ℕ) (pool block : List Item) → HasLives b pool block → (after (life_of b) pool).edge ≤ length block
unfolding edges_empty after
edge-within b pool block old = elim (edge-from b (life_of b).first pool) [ inl first ↦ zero_within first | inr at ↦ one_within (edges b pool) old.empty at ]
  where
    zero_within : (after (life_of b) pool).edge ≡ 0 → (after (life_of b) pool).edge ≤ length block
    zero_within e = omega arith

    one_within : (at : List ℕ) → list_all (λ n. nat_le n (length block) && is_empty (refs_at n block)) at ≡ true → has at (after (life_of b) pool).edge ≡ true
        → (after (life_of b) pool).edge ≤ length block
    one_within at all h =
        let here : (nat_le (after (life_of b) pool).edge (length block) && is_empty (refs_at (after (life_of b) pool).edge block)) ≡ true =
        list_all-has (λ n. nat_le n (length block) && is_empty (refs_at n block)) at (after (life_of b) pool).edge all h in
        let test : nat_le (after (life_of b) pool).edge (length block) ≡ true =
        (and_parts (nat_le (after (life_of b) pool).edge (length block)) (is_empty (refs_at (after (life_of b) pool).edge block)) here).0 in
        grind (arith, nat_tests)
