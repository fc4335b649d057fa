-- Groups when a record is added.
use Rattle.std.proofs.Common.{◌≡◌, ℕ, zero, suc, ◌+◌, ◌≤◌, ◌<◌, Bool, true, false, List, [], ◌∷◌, ◌++◌, length, set, get_or, refl, ap, sym, ◌∙◌, Some, None, cond, arith, append-nil, append_assoc}
use Rattle.std.specs.declared.option.Option.{Option}
use Rattle.std.specs.List.{filter}
use Rattle.std.proofs.lemmas.Bool.Decides.{nat_tests}
use Rattle.qp_model.specs.Record.{Item}
use Rattle.qp_check_lanes.specs.Groups.{has_key, of_key, grouped_from, grouped, empty_groups, put_at, groups_joined}

pub empty_groups-more : (n : ℕ) → empty_groups n ++ [] ∷ [] ≡ empty_groups (n + 1)
unfolding empty_groups
empty_groups-more zero = refl
empty_groups-more (suc n) =
    let e : suc n + 1 ≡ suc (n + 1) = omega arith in
    rw e (ap (λ gs. [] ∷ gs) (empty_groups-more n))

none_from : (key : Item → Option ℕ) (k n : ℕ) → grouped_from key k n [] ≡ empty_groups n
unfolding grouped_from empty_groups of_key
none_from key k zero = refl
none_from key k (suc n) = ap (λ gs. [] ∷ gs) (none_from key (suc k) n)

pub grouped-none : (key : Item → Option ℕ) (size : ℕ) → grouped key size [] ≡ empty_groups size
unfolding grouped
grouped-none key size = none_from key 0 size

-- writing a longer group puts the record
pub put_at-set : (k : ℕ) (i : Item) (gs : List (List Item)) (d : List Item) → k < length gs → set gs k (get_or gs k d ++ i ∷ []) ≡ put_at k i gs
unfolding put_at
put_at-set k i [] d lt = absurd (omega arith)
put_at-set zero i (g ∷ gs) d lt = refl
put_at-set (suc k) i (g ∷ gs) d lt = ap (λ hs. g ∷ hs) (put_at-set k i gs d (omega arith))

pub put_at-none : (k : ℕ) (i : Item) (gs : List (List Item)) → length gs ≤ k → put_at k i gs ≡ gs
unfolding put_at
put_at-none k i [] le = refl
put_at-none zero i (g ∷ gs) le = absurd (omega arith)
put_at-none (suc k) i (g ∷ gs) le = ap (λ hs. g ∷ hs) (put_at-none k i gs (omega arith))

filter-last_no : (p : Item → Bool) (xs : List Item) (i : Item) → p i ≡ false → filter p (xs ++ i ∷ []) ≡ filter p xs
filter-last_no p [] i h = rw h refl
filter-last_no p (x ∷ xs) i h = rw (filter-last_no p xs i h) refl

filter-last_yes : (p : Item → Bool) (xs : List Item) (i : Item) → p i ≡ true → filter p (xs ++ i ∷ []) ≡ filter p xs ++ i ∷ []
filter-last_yes p [] i h = rw h refl
filter-last_yes p (x ∷ xs) i h = go (p x) (filter-last_yes p xs i h)
  where
    go : (b : Bool) → filter p (xs ++ i ∷ []) ≡ filter p xs ++ i ∷ [] → cond b (x ∷ filter p (xs ++ i ∷ [])) (filter p (xs ++ i ∷ [])) ≡ cond b (x ∷ filter p xs) (filter p xs) ++ i ∷ []
    go true e = ap (λ ys. x ∷ ys) e
    go false e = e

module _ (key : Item → Option ℕ) (xs : List Item) (i : Item) where
  keep_from : (k n : ℕ) → ((j : ℕ) → k ≤ j → has_key j (key i) ≡ false) → grouped_from key k n (xs ++ i ∷ []) ≡ grouped_from key k n xs
  unfolding grouped_from of_key
  keep_from k zero h = refl
  keep_from k (suc n) h =
      rw (filter-last_no (λ j. has_key k (key j)) xs i (h k (omega arith)), keep_from (suc k) n (λ j le. h j (omega arith))) refl

  -- a record without a key
  pub grouped-keep : (size : ℕ) → key i ≡ None → grouped key size (xs ++ i ∷ []) ≡ grouped key size xs
  unfolding grouped
  grouped-keep size none = keep_from 0 size (λ j le. rw none refl)

  not_above : (k j : ℕ) → key i ≡ Some k → suc k ≤ j → has_key j (key i) ≡ false
  not_above k j is le = rw is (grind (arith, nat_tests))

  put_from : (k n j : ℕ) → key i ≡ Some (k + j) → put_at j i (grouped_from key k n xs) ≡ grouped_from key k n (xs ++ i ∷ [])
  unfolding grouped_from of_key put_at
  put_from k zero j is = refl
  put_from k (suc n) zero is =
      let here : key i ≡ Some k = is ∙ ap Some (omega arith) in
      let same : has_key k (key i) ≡ true = rw here (grind (arith, nat_tests)) in
      rw (filter-last_yes (λ j. has_key k (key j)) xs i same, keep_from (suc k) n (λ j le. not_above k j here le)) refl
  put_from k (suc n) (suc j) is =
      let later : key i ≡ Some (suc k + j) = is ∙ ap Some (omega arith) in
      let other : has_key k (key i) ≡ false = rw is (grind (arith, nat_tests)) in
      rw (filter-last_no (λ j. has_key k (key j)) xs i other, put_from (suc k) n j later) refl

  -- a record with its key
  pub grouped-put : (size k : ℕ) → key i ≡ Some k → put_at k i (grouped key size xs) ≡ grouped key size (xs ++ i ∷ [])
  unfolding grouped
  grouped-put size k is = put_from 0 size k (is ∙ ap Some (omega arith))

-- one group more
pub joined-append : (gs : List (List Item)) (g : List Item) → groups_joined (gs ++ g ∷ []) ≡ groups_joined gs ++ g
joined-append [] g = append-nil g
joined-append (h ∷ hs) g = ap (λ xs. h ++ xs) (joined-append hs g) ∙ sym (append_assoc h (groups_joined hs) g)

length_from : (key : Item → Option ℕ) (k n : ℕ) (xs : List Item) → length (grouped_from key k n xs) ≡ n
unfolding grouped_from
length_from key k zero xs = refl
length_from key k (suc n) xs = ap suc (length_from key (suc k) n xs)

pub length-grouped : (key : Item → Option ℕ) (size : ℕ) (xs : List Item) → length (grouped key size xs) ≡ size
unfolding grouped
length-grouped key size xs = length_from key 0 size xs
