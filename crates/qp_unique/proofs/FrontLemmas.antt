-- The records before a place of a run's order are the front of each word's history.
use Rattle.std.proofs.Common.{◌≡◌, ◌∙◌, ℕ, zero, suc, ◌<◌, ◌≤◌, ◌==◌, nat_lt, nat_le, Bool, true, false, not, ◌&&◌, ◌||◌, cond, List, [], ◌∷◌, ◌++◌, length, take, refl, sym, ap, subst, arith, append-nil, length-append}
use Rattle.std.proofs.lemmas.Bool.{and_parts}
use Rattle.std.proofs.lemmas.Bool.Decides.{nat_tests}
use Rattle.std.proofs.lemmas.List.{append_assoc}
use Rattle.std.proofs.lemmas.List.Elements.{filter-append}
use Rattle.std.proofs.Math.Seq.{take-append_seam}
use Rattle.std.specs.List.{filter, list_all, AllByRecursion}
use Rattle.qp_model.specs.declared.words.Word.{Word}
use Rattle.qp_model.specs.Record.{Item}
use Rattle.qp_model.specs.History.{Touch, Draws, Shows, touch, same_word, drawn_on, drawn_as, drawn_below, total, numbered, is_numbered, hist}
use Rattle.qp_model.specs.Places.{is_next, in_order}
use Rattle.qp_model.specs.Machine.{Machine, after, is_allowed, shown_by, is_shown}
use Rattle.qp_model.proofs.ListLemmas.{all_below_at}
use Rattle.qp_model.proofs.HistoryLemmas.{length-hist, same_word-refl, in_order-at}
use Rattle.qp_model.proofs.KnowingLemmas.{same_word-is}
use Rattle.qp_model.proofs.MachineLemmas.{Counts, is_allowed-at, is_allowed-front, count-after}
use Rattle.qp_unique.specs.Fronts.{draws_of_word}

-- a list by its last element
pub from-behind : {A : Type 0} (P : List A → Type 0) → P [] → ((xs : List A) (x : A) → P xs → P (xs ++ x ∷ [])) → (xs : List A) → P xs
from-behind {A} P none more xs = go [] xs none
  where
    go : (front rest : List A) → P front → P (front ++ rest)
    go front [] h = subst P (sym (append-nil front)) h
    go front (x ∷ rest) h = subst P (append_assoc front (x ∷ []) rest) (go (front ++ x ∷ []) rest (more front x h))

-- what each record of the list passes this one passes
pub in-list : (all : List Item) (i : Item) (p : Item → Bool) → ((P : Item → Type 0) → AllByRecursion P all → P i) → list_all p all ≡ true → p i ≡ true
in-list all i p inside h = inside (λ j. p j ≡ true) (each all h)
  where
    each : (xs : List Item) → list_all p xs ≡ true → AllByRecursion (λ j. p j ≡ true) xs
    each [] h = tt
    each (x ∷ xs) h = ((and_parts _ _ h).0, each xs (and_parts _ _ h).1)

-- no element passes, or no other than this one
none-passes : (p : Item → Bool) (xs : List Item) → filter p xs ≡ [] → AllByRecursion (λ j. p j ≡ true → ⊥) xs
none-passes p [] h = tt
none-passes p (x ∷ xs) h = go (p x) refl (λ k. none-passes p xs k) h
  where
    go : (b : Bool) → p x ≡ b → (filter p xs ≡ [] → AllByRecursion (λ j. p j ≡ true → ⊥) xs) → cond b (x ∷ filter p xs) (filter p xs) ≡ []
        → (p x ≡ true → ⊥) × AllByRecursion (λ j. p j ≡ true → ⊥) xs
    go true e later h = absurd (cc)
    go false e later h = (λ k. cc, later h)

weaken : (p : Item → Bool) (y : Item) (zs : List Item) → AllByRecursion (λ j. p j ≡ true → ⊥) zs → AllByRecursion (λ j. p j ≡ true → y ≡ j) zs
weaken p y [] h = tt
weaken p y (z ∷ zs) h = (λ e. absurd (h.0 e), weaken p y zs h.1)

one-passes : (p : Item → Bool) (xs : List Item) (y : Item) → filter p xs ≡ y ∷ [] → AllByRecursion (λ j. p j ≡ true → y ≡ j) xs
one-passes p [] y h = absurd (cc)
one-passes p (x ∷ xs) y h = go (p x) refl (λ k. one-passes p xs y k) h
  where
    go : (b : Bool) → p x ≡ b → (filter p xs ≡ y ∷ [] → AllByRecursion (λ j. p j ≡ true → y ≡ j) xs) → cond b (x ∷ filter p xs) (filter p xs) ≡ y ∷ []
        → (p x ≡ true → y ≡ x) × AllByRecursion (λ j. p j ≡ true → y ≡ j) xs
    go true e later h =
        let first : x ≡ y = cc in
        let rest : filter p xs ≡ [] = cc in
        (λ k. sym first, weaken p y xs (none-passes p xs rest))
    go false e later h = (λ k. absurd (let no : true ≡ false = sym k ∙ e in cc), later h)

-- the only one that passes
pub only-one : (p : Item → Bool) (all : List Item) (i : Item) → ((P : Item → Type 0) → AllByRecursion P all → P i) → p i ≡ true
    → (length (filter p all) == 1) ≡ true → filter p all ≡ i ∷ []
only-one p all i inside passes one = by (filter p all) refl one
  where
    by : (found : List Item) → filter p all ≡ found → (length found == 1) ≡ true → filter p all ≡ i ∷ []
    by [] is h = absurd (cc)
    by (y ∷ []) is h = let e : y ≡ i = inside (λ j. p j ≡ true → y ≡ j) (one-passes p all y is) passes in is ∙ ap (λ z. z ∷ []) e
    by (y ∷ z ∷ zs) is h = let no : suc (suc (length zs)) ≡ 1 = grind (arith, nat_tests) in absurd (omega (arith, no))

-- what draws a number of w
pub draws-is : (w : Word) (t : Touch) → drawn_on w t ≡ true → (mark : ℕ) × (t ≡ Draws w mark)
draws-is w (Draws v mark) h = (mark, ap (λ x. Draws x mark) (same_word-is v w h))
draws-is w _ h = absurd (cc)

-- the history up to a number
numbered-more : (w : Word) (all : List Item) (k n : ℕ) → k ≤ n → (more : List Item) × (numbered w all n ≡ numbered w all k ++ more)
unfolding numbered
numbered-more w all k zero h = let e : k ≡ 0 = omega (arith, h) in ([], rw e refl)
numbered-more w all k (suc n) h = by (nat_le k n) refl (λ le. numbered-more w all k n le)
  where
    by : (b : Bool) → nat_le k n ≡ b → (k ≤ n → (more : List Item) × (numbered w all n ≡ numbered w all k ++ more))
        → (more : List Item) × (numbered w all (suc n) ≡ numbered w all k ++ more)
    by true is later =
        let le : k ≤ n = grind (arith, nat_tests) in
        let before = later le in
        let last = filter (λ i. drawn_as w n (touch i)) all in
        (before.0 ++ last, ap (λ xs. xs ++ last) before.1 ∙ append_assoc (numbered w all k) before.0 last)
    by false is later =
        let gt : n < k = grind (arith, nat_tests) in let e : k ≡ suc n = omega (arith, gt, h) in ([], rw e (sym (append-nil _)))

-- the records of all lanes, and their order
module _ (all order : List Item) (inside : (P : Item → Type 0) → AllByRecursion P all → AllByRecursion P order) (ordered : in_order [] order ≡ true) where
  pub placed-in : (xs : List Item) (i : Item) (ys : List Item) → order ≡ xs ++ i ∷ ys → (P : Item → Type 0) → AllByRecursion P all → P i
  placed-in xs i ys is P h = at xs (subst (AllByRecursion P) is (inside P h))
    where
      at : (zs : List Item) → AllByRecursion P (zs ++ i ∷ ys) → P i
      at [] h = h.0
      at (z ∷ zs) h = at zs h.1

  pub is-next : (xs : List Item) (i : Item) (ys : List Item) → order ≡ xs ++ i ∷ ys → is_next xs (touch i) ≡ true
  is-next xs i ys is = in_order-at [] xs i ys (subst (λ zs. in_order [] zs ≡ true) is ordered)

  module _ (w : Word) (numbers : is_numbered w all ≡ true) where
    -- the number drawn is that of the operations before
    drawn-next : (xs : List Item) (i : Item) (ys : List Item) → order ≡ xs ++ i ∷ ys → drawn_on w (touch i) ≡ true → drawn_as w (total w xs) (touch i) ≡ true
    unfolding is_next
    drawn-next xs i ys is h =
        let at = draws-is w (touch i) h in
        let next : is_next xs (Draws w at.0) ≡ true = subst (λ t. is_next xs t ≡ true) at.1 (is-next xs i ys is) in
        rw (at.1, same_word-refl w) next

    pub drawn-below : (xs : List Item) (i : Item) (ys : List Item) → order ≡ xs ++ i ∷ ys → drawn_on w (touch i) ≡ true → total w xs < total w all
    unfolding is_numbered
    drawn-below xs i ys is h =
        let at = draws-is w (touch i) h in
        let below = in-list all i (λ j. drawn_below w (total w all) (touch j)) (placed-in xs i ys is) (and_parts _ _ numbers).0 in
        let one : (not (same_word w w) || (nat_lt 0 at.0 && nat_le at.0 (total w all))) ≡ true = subst (λ t. drawn_below w (total w all) t ≡ true) at.1 below in
        let two : (same_word w w && (at.0 == suc (total w xs))) ≡ true = subst (λ t. drawn_as w (total w xs) t ≡ true) at.1 (drawn-next xs i ys is h) in
        let yes : same_word w w ≡ true = same_word-refl w in
        let mark : at.0 ≡ suc (total w xs) = grind (arith, nat_tests) in
        let le : at.0 ≤ total w all = grind (arith, nat_tests) in
        omega (arith, mark, le)

    drawn-alone : (xs : List Item) (i : Item) (ys : List Item) → order ≡ xs ++ i ∷ ys → drawn_on w (touch i) ≡ true
        → filter (λ j. drawn_as w (total w xs) (touch j)) all ≡ i ∷ []
    unfolding is_numbered
    drawn-alone xs i ys is h =
        only-one (λ j. drawn_as w (total w xs) (touch j)) all i (placed-in xs i ys is) (drawn-next xs i ys is h)
        (all_below_at (total w all) (λ n. length (filter (λ j. drawn_as w n (touch j)) all) == 1) (and_parts _ _ numbers).1 (total w xs) (drawn-below xs i ys is h))

    -- up to a place of the order the history is what was drawn before it
    pub numbered-front : (xs ys : List Item) → order ≡ xs ++ ys → numbered w all (total w xs) ≡ draws_of_word w xs
    unfolding numbered total draws_of_word
    numbered-front = from-behind (λ xs. (ys : List Item) → order ≡ xs ++ ys → numbered w all (total w xs) ≡ draws_of_word w xs) none more
      where
        none : (ys : List Item) → order ≡ ys → numbered w all (total w []) ≡ draws_of_word w []
        none ys is = refl

        more : (xs : List Item) (i : Item) → ((ys : List Item) → order ≡ xs ++ ys → numbered w all (total w xs) ≡ draws_of_word w xs)
            → (ys : List Item) → order ≡ (xs ++ i ∷ []) ++ ys → numbered w all (total w (xs ++ i ∷ [])) ≡ draws_of_word w (xs ++ i ∷ [])
        more xs i before ys is = by (drawn_on w (touch i)) refl
          where
            at : order ≡ xs ++ i ∷ ys
            at = is ∙ append_assoc xs (i ∷ []) ys

            split : filter (λ j. drawn_on w (touch j)) (xs ++ i ∷ []) ≡ filter (λ j. drawn_on w (touch j)) xs ++ cond (drawn_on w (touch i)) (i ∷ []) []
            split = filter-append (λ j. drawn_on w (touch j)) xs (i ∷ [])

            by : (b : Bool) → drawn_on w (touch i) ≡ b
                → numbered w all (length (filter (λ j. drawn_on w (touch j)) (xs ++ i ∷ []))) ≡ filter (λ j. drawn_on w (touch j)) (xs ++ i ∷ [])
            by true h =
                let whole : filter (λ j. drawn_on w (touch j)) (xs ++ i ∷ []) ≡ filter (λ j. drawn_on w (touch j)) xs ++ i ∷ [] = split ∙ rw h refl in
                let size : length (filter (λ j. drawn_on w (touch j)) xs ++ i ∷ []) ≡ suc (length (filter (λ j. drawn_on w (touch j)) xs)) = omega (arith, length-append (filter (λ j. drawn_on w (touch j)) xs) (i ∷ [])) in
                let alone = drawn-alone xs i ys at h in
                rw (whole, size) (rw alone (ap (λ zs. zs ++ i ∷ []) (before (i ∷ ys) at)))
            by false h =
                let whole : filter (λ j. drawn_on w (touch j)) (xs ++ i ∷ []) ≡ filter (λ j. drawn_on w (touch j)) xs = split ∙ rw h (append-nil _) in
                rw whole (before (i ∷ ys) at)

    -- the history from there on
    pub hist-front : (xs ys : List Item) → order ≡ xs ++ ys → total w xs ≤ total w all → (more : List Item) × (hist w all ≡ draws_of_word w xs ++ more)
    unfolding hist
    hist-front xs ys is h =
        let at = numbered-more w all (total w xs) (total w all) h in (at.0, at.1 ∙ ap (λ zs. zs ++ at.0) (numbered-front xs ys is))

    pub hist-next : (xs : List Item) (i : Item) (ys : List Item) → order ≡ xs ++ i ∷ ys → drawn_on w (touch i) ≡ true → (more : List Item) × (hist w all ≡ draws_of_word w xs ++ i ∷ more)
    unfolding hist numbered
    hist-next xs i ys is h =
        let at = numbered-more w all (suc (total w xs)) (total w all) (drawn-below xs i ys is h) in
        let front : numbered w all (total w xs) ++ filter (λ j. drawn_as w (total w xs) (touch j)) all ≡ draws_of_word w xs ++ i ∷ [] =
        rw (drawn-alone xs i ys is h) (ap (λ zs. zs ++ i ∷ []) (numbered-front xs (i ∷ ys) is)) in
        (at.0, at.1 ∙ ap (λ zs. zs ++ at.0) front ∙ append_assoc (draws_of_word w xs) (i ∷ []) at.0)

    log-length : (xs : List Item) → length (draws_of_word w xs) ≡ total w xs
    unfolding draws_of_word total
    log-length xs = refl

    -- the first operations, as many as stand before the place
    pub take-front : (xs ys : List Item) → order ≡ xs ++ ys → total w xs ≤ total w all → take (total w xs) (hist w all) ≡ draws_of_word w xs
    take-front xs ys is h =
        let at = hist-front xs ys is h in
        ap (take (total w xs)) at.1 ∙ subst (λ n. take n (draws_of_word w xs ++ at.0) ≡ draws_of_word w xs) (log-length xs) (take-append_seam (draws_of_word w xs) at.0)

    pub take-next : (xs : List Item) (i : Item) (ys : List Item) → order ≡ xs ++ i ∷ ys → drawn_on w (touch i) ≡ true
        → take (suc (total w xs)) (hist w all) ≡ draws_of_word w xs ++ i ∷ []
    take-next xs i ys is h =
        let at = hist-next xs i ys is h in
        let front : hist w all ≡ (draws_of_word w xs ++ i ∷ []) ++ at.0 = at.1 ∙ sym (append_assoc (draws_of_word w xs) (i ∷ []) at.0) in
        let size : length (draws_of_word w xs ++ i ∷ []) ≡ suc (total w xs) = omega (arith, length-append (draws_of_word w xs) (i ∷ []), log-length xs) in
        ap (take (suc (total w xs))) front ∙ subst (λ n. take n ((draws_of_word w xs ++ i ∷ []) ++ at.0) ≡ draws_of_word w xs ++ i ∷ []) size (take-append_seam (draws_of_word w xs ++ i ∷ []) at.0)

    -- a record that draws a number may, after what was drawn before it
    module _ {S : Type 0} (m : Machine S) (allowed : is_allowed m (hist w all) ≡ true) where
      pub may-next : (xs : List Item) (i : Item) (ys : List Item) → order ≡ xs ++ i ∷ ys → drawn_on w (touch i) ≡ true → m.may (after m (draws_of_word w xs)) i ≡ true
      may-next xs i ys is h =
          let at = hist-next xs i ys is h in is_allowed-at m (draws_of_word w xs) at.0 i (subst (λ zs. is_allowed m zs ≡ true) at.1 allowed)

      module _ (shown : is_shown m w all ≡ true) where
        shown-both : (xs : List Item) (i : Item) (ys : List Item) (mark : ℕ) → order ≡ xs ++ i ∷ ys → touch i ≡ Shows w mark
            → (mark ≡ total w xs) × (mark ≤ total w all) × (m.says (after m (take mark (hist w all))) i.body ≡ true)
        unfolding is_shown shown_by is_next
        shown-both xs i ys mark is h =
            let next : (mark == total w xs) ≡ true = subst (λ t. is_next xs t ≡ true) h (is-next xs i ys is) in
            let one = in-list all i (λ j. shown_by m w (hist w all) j.body (touch j)) (placed-in xs i ys is) shown in
            let two : cond (same_word w w) (nat_le mark (length (hist w all)) && m.says (after m (take mark (hist w all))) i.body) true ≡ true =
            subst (λ t. shown_by m w (hist w all) i.body t ≡ true) h one in
            let three : (nat_le mark (length (hist w all)) && m.says (after m (take mark (hist w all))) i.body) ≡ true =
            subst (λ b. cond b (nat_le mark (length (hist w all)) && m.says (after m (take mark (hist w all))) i.body) true ≡ true) (same_word-refl w) two in
            let few : mark ≤ length (hist w all) = let test : nat_le mark (length (hist w all)) ≡ true = (and_parts _ _ three).0 in grind (arith, nat_tests) in
            let size : length (hist w all) ≡ total w all = length-hist w all numbers in
            let number : mark ≡ total w xs = grind (arith, nat_tests) in
            (number, omega (arith, few, size), (and_parts _ _ three).1)

        -- a record that shows the word says what it holds there
        pub says-next : (xs : List Item) (i : Item) (ys : List Item) (mark : ℕ) → order ≡ xs ++ i ∷ ys → touch i ≡ Shows w mark
            → (mark ≡ total w xs) × (total w xs ≤ total w all) × (m.says (after m (draws_of_word w xs)) i.body ≡ true)
        says-next xs i ys mark is h =
            let at = shown-both xs i ys mark is h in
            let few : total w xs ≤ total w all = omega (arith, at.0, at.1) in
            let front : take mark (hist w all) ≡ draws_of_word w xs = ap (λ n. take n (hist w all)) at.0 ∙ take-front xs (i ∷ ys) is few in
            (at.0, few, subst (λ zs. m.says (after m zs) i.body ≡ true) front at.2)

      -- the state's count is that of the records before
      pub count-next : Counts S m → (xs ys : List Item) → order ≡ xs ++ ys → total w xs ≤ total w all → m.count (after m (draws_of_word w xs)) ≡ total w xs
      count-next counts xs ys is h =
          let at = hist-front xs ys is h in
          count-after m counts (draws_of_word w xs) (is_allowed-front m (draws_of_word w xs) at.0 (subst (λ zs. is_allowed m zs ≡ true) at.1 allowed)) ∙ log-length xs
