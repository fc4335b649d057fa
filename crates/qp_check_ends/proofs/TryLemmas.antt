-- Tries that were seen before.
use Rattle.std.proofs.Common.{◌≡◌, ◌∙◌, ℕ, ◌+◌, ◌<◌, ◌==◌, nat_lt, Bool, true, false, cond, not, ◌&&◌, ◌||◌, List, [], ◌∷◌, ◌++◌, length, take, drop, get_or, Some, None, Ordering, Less, Equal, Greater, ap, sym, refl, subst, arith, append-nil}
use Rattle.std.proofs.lemmas.Bool.Decides.{nat_tests}
use Rattle.std.proofs.lemmas.List.Elements.{filter_map-append}
use Rattle.std.proofs.lemmas.List.Folds.{list_any-append}
use Rattle.std.specs.declared.option.Option.{Option}
use Rattle.std.specs.List.{list_any, filter_map}
use Rattle.std.specs.Cmp.Lexicographic.{slice_cmp}
use Rattle.std.specs.Ordering.{nat_cmp, is_eq, ordering_then}
use Rattle.std.specs.BTreeSet.{BTreeSet, contains}
use Rattle.qp_model.specs.declared.record.Rec.{Rec}
use Rattle.qp_model.specs.Record.{Item, item_of}
use Rattle.qp_model.specs.History.{lane_items}
use Rattle.qp_model.specs.Sources.{entry_seen, same_list, none_twice}
use Rattle.qp_check_ends.specs.Tries.{entries_seen, SetHolds, with_seen, repeats}
use Rattle.qp_model.proofs.RecordLemmas.{items-up_to, items-split}

-- the order tells lists apart as the test does
first-same : (x y : ℕ) (o : Ordering) (same : Bool) → is_eq o ≡ same → is_eq (ordering_then (nat_cmp x y) o) ≡ ((y == x) && same)
first-same x y o same e = by (nat_lt x y) (x == y) (y == x) refl refl refl
  where
    by : (less alike back : Bool) → nat_lt x y ≡ less → (x == y) ≡ alike → (y == x) ≡ back
        → is_eq (ordering_then (cond less Less (cond alike Equal Greater)) o) ≡ (back && same)
    by true alike true l a b = absurd (grind (arith, nat_tests))
    by true alike false l a b = refl
    by false true true l a b = e
    by false true false l a b = absurd (grind (arith, nat_tests))
    by false false true l a b = absurd (grind (arith, nat_tests))
    by false false false l a b = refl

cmp-same : (xs ys : List ℕ) → is_eq (slice_cmp nat_cmp xs ys) ≡ same_list ys xs
cmp-same [] [] = refl
cmp-same [] (y ∷ ys) = refl
cmp-same (x ∷ xs) [] = refl
cmp-same (x ∷ xs) (y ∷ ys) = first-same x y (slice_cmp nat_cmp xs ys) (same_list ys xs) (cmp-same xs ys)

same_list-turned : (xs ys : List ℕ) → same_list xs ys ≡ same_list ys xs
same_list-turned [] [] = refl
same_list-turned [] (y ∷ ys) = refl
same_list-turned (x ∷ xs) [] = refl
same_list-turned (x ∷ xs) (y ∷ ys) =
    let turned : (x == y) ≡ (y == x) = by (x == y) (y == x) refl refl in
    rw (turned, same_list-turned xs ys) refl
  where
    by : (a b : Bool) → (x == y) ≡ a → (y == x) ≡ b → (x == y) ≡ (y == x)
    by true true e f = cc
    by false false e f = cc
    by true false e f = absurd (grind (arith, nat_tests))
    by false true e f = absurd (grind (arith, nat_tests))

-- a key that is put in the set
pub new-holds : (old new : BTreeSet (List ℕ)) (key : List ℕ) (added : Bool) → added ≡ not (contains (slice_cmp nat_cmp) old key)
    → ((q : List ℕ) → contains (slice_cmp nat_cmp) new q ≡ cond (is_eq (slice_cmp nat_cmp key q)) true (contains (slice_cmp nat_cmp) old q))
    → (xs : List (List ℕ)) → SetHolds old xs → (added ≡ not (repeats xs (Some key))) × SetHolds new (with_seen xs (Some key))
unfolding SetHolds
new-holds old new key added e updates xs held = (e ∙ ap not (held key), λ q. updates q ∙ one q)
  where
    or-last : (a b : Bool) → cond a true b ≡ (b || (a || false))
    or-last true true = refl
    or-last true false = refl
    or-last false true = refl
    or-last false false = refl

    one : (q : List ℕ) → cond (is_eq (slice_cmp nat_cmp key q)) true (contains (slice_cmp nat_cmp) old q) ≡ list_any (same_list q) (xs ++ key ∷ [])
    one q =
        ap (λ b. cond b true (contains (slice_cmp nat_cmp) old q)) (cmp-same key q)
        ∙ ap (λ b. cond (same_list q key) true b) (held q)
        ∙ or-last (same_list q key) (list_any (same_list q) xs) ∙ sym (list_any-append (same_list q) xs (key ∷ []))

-- one more, and none twice
none-bools : (a b c d : Bool) → (not (a || (b || false)) && (c && not d)) ≡ ((not a && c) && not (b || d))
none-bools true b c d = refl
none-bools false true true d = refl
none-bools false true false d = refl
none-bools false false true d = refl
none-bools false false false d = refl

none-one : (xs : List (List ℕ)) (x : List ℕ) → none_twice (xs ++ x ∷ []) ≡ (none_twice xs && not (list_any (same_list x) xs))
unfolding none_twice
none-one [] x = refl
none-one (y ∷ ys) x =
    ap (λ b. not b && none_twice (ys ++ x ∷ [])) (list_any-append (same_list y) ys (x ∷ []))
    ∙ ap (λ b. not (list_any (same_list y) ys || (same_list y x || false)) && b) (none-one ys x)
    ∙ none-bools (list_any (same_list y) ys) (same_list y x) (none_twice ys) (list_any (same_list x) ys)
    ∙ ap (λ b. (not (list_any (same_list y) ys) && none_twice ys) && not (b || list_any (same_list x) ys)) (same_list-turned y x)

and-true : (b : Bool) → b ≡ (b && true)
and-true true = refl
and-true false = refl

none-more : (xs : List (List ℕ)) (key : Option (List ℕ)) → none_twice (with_seen xs key) ≡ (none_twice xs && not (repeats xs key))
none-more xs None = and-true (none_twice xs)
none-more xs (Some x) = none-one xs x

none-front : (xs ys : List (List ℕ)) → none_twice xs ≡ false → none_twice (xs ++ ys) ≡ false
unfolding none_twice
none-front [] ys h = absurd (cc)
none-front (x ∷ xs) ys h =
    ap (λ b. not b && none_twice (xs ++ ys)) (list_any-append (same_list x) xs ys) ∙ by (list_any (same_list x) xs) (none_twice xs) refl (λ e. none-front xs ys e) h
  where
    none-right : (b : Bool) → (not b && false) ≡ false
    none-right true = refl
    none-right false = refl

    by : (a b : Bool) → none_twice xs ≡ b → (none_twice xs ≡ false → none_twice (xs ++ ys) ≡ false) → (not a && b) ≡ false
        → (not (a || list_any (same_list x) ys) && none_twice (xs ++ ys)) ≡ false
    by true b e front k = refl
    by false true e front k = absurd (cc)
    by false false e front k = ap (λ b. not (list_any (same_list x) ys) && b) (front e) ∙ none-right (list_any (same_list x) ys)

pub seen-none : (set : BTreeSet (List ℕ)) → ((q : List ℕ) → contains (slice_cmp nat_cmp) set q ≡ false) → SetHolds set (entries_seen (lane_items []))
unfolding SetHolds entries_seen lane_items
seen-none set empty = λ q. empty q

pub differ-none : none_twice (entries_seen (lane_items [])) ≡ true
unfolding none_twice entries_seen lane_items
differ-none = refl

with-one : (h : Item → Option (List ℕ)) (i : Item) (xs : List (List ℕ)) → xs ++ filter_map h (i ∷ []) ≡ with_seen xs (h i)
with-one h i xs = by (h i) refl
  where
    unfolded : (o : Option (List ℕ)) → h i ≡ o → filter_map h (i ∷ []) ≡ with_seen [] o
    unfolded None e = rw e refl
    unfolded (Some x) e = rw e refl

    by : (o : Option (List ℕ)) → h i ≡ o → xs ++ filter_map h (i ∷ []) ≡ with_seen xs o
    by None e = ap (λ us. xs ++ us) (unfolded None e) ∙ append-nil xs
    by (Some x) e = ap (λ us. xs ++ us) (unfolded (Some x) e)

module _ (lane : List Rec) (i : ℕ) (r : Rec) (inside : i < length lane) (is : r ≡ get_or lane i r) where
  seen-more : entries_seen (lane_items (take (i + 1) lane)) ≡ with_seen (entries_seen (lane_items (take i lane))) (entry_seen (item_of r).body)
  unfolding entries_seen
  seen-more =
      let h : Item → Option (List ℕ) = λ i. entry_seen i.body in
      ap (filter_map h) (items-up_to lane i r inside is) ∙ filter_map-append h (lane_items (take i lane)) (item_of r ∷ []) ∙ with-one h (item_of r) (filter_map h (lane_items (take i lane)))

  -- a record more, with what was seen before
  pub seen-next : (new : Bool) (next : BTreeSet (List ℕ)) (key : Option (List ℕ)) → key ≡ entry_seen (item_of r).body
      → (new ≡ not (repeats (entries_seen (lane_items (take i lane))) key)) × SetHolds next (with_seen (entries_seen (lane_items (take i lane))) key)
      → none_twice (entries_seen (lane_items (take i lane))) ≡ true → new ≡ true
      → SetHolds next (entries_seen (lane_items (take (i + 1) lane))) × (none_twice (entries_seen (lane_items (take (i + 1) lane))) ≡ true)
  seen-next new next key e h before fresh =
      let more : entries_seen (lane_items (take (i + 1) lane)) ≡ with_seen (entries_seen (lane_items (take i lane))) key = seen-more ∙ ap (with_seen (entries_seen (lane_items (take i lane)))) (sym e) in
      let tests : (none_twice (entries_seen (lane_items (take i lane))) && not (repeats (entries_seen (lane_items (take i lane))) key)) ≡ true = rw (before, sym h.0) fresh in
      (subst (SetHolds next) (sym more) h.1, ap none_twice more ∙ none-more (entries_seen (lane_items (take i lane))) key ∙ tests)

  pub seen-again : (new : Bool) (next : BTreeSet (List ℕ)) (key : Option (List ℕ)) → key ≡ entry_seen (item_of r).body
      → (new ≡ not (repeats (entries_seen (lane_items (take i lane))) key)) × SetHolds next (with_seen (entries_seen (lane_items (take i lane))) key)
      → new ≡ false → false ≡ none_twice (entries_seen (lane_items lane))
  unfolding entries_seen
  seen-again new next key e h old =
      let h' : Item → Option (List ℕ) = λ i. entry_seen i.body in
      let more : entries_seen (lane_items (take (i + 1) lane)) ≡ with_seen (entries_seen (lane_items (take i lane))) key = seen-more ∙ ap (with_seen (entries_seen (lane_items (take i lane)))) (sym e) in
      let front : none_twice (entries_seen (lane_items (take (i + 1) lane))) ≡ false =
      ap none_twice more ∙ none-more (entries_seen (lane_items (take i lane))) key
      ∙ ap (λ b. none_twice (entries_seen (lane_items (take i lane))) && b) (sym h.0 ∙ old) ∙ and-false (none_twice (entries_seen (lane_items (take i lane)))) in
      let split : entries_seen (lane_items lane) ≡ entries_seen (lane_items (take (i + 1) lane)) ++ entries_seen (lane_items (drop (i + 1) lane)) =
      ap (filter_map h') (items-split lane (i + 1)) ∙ filter_map-append h' (lane_items (take (i + 1) lane)) (lane_items (drop (i + 1) lane)) in
      sym (ap none_twice split ∙ none-front (entries_seen (lane_items (take (i + 1) lane))) (entries_seen (lane_items (drop (i + 1) lane))) front)
    where
      and-false : (b : Bool) → (b && false) ≡ false
      and-false true = refl
      and-false false = refl
