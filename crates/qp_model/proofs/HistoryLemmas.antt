-- Histories when a record is added at the end of a lane: the records are xs ++ ys before it, and xs ++ i ∷ ys after it.
use Rattle.std.proofs.Common.{◌≡◌, ℕ, zero, suc, ◌<◌, ◌≤◌, cond, ◌==◌, nat_lt, nat_le, Bool, true, false, not, ◌&&◌, ◌||◌, List, [], ◌∷◌, ◌++◌, length, refl, ap, arith, length-append, ◌+◌, ◌-◌, sym, append_assoc, append-nil, ◌∙◌}
use borrow.Author.Count.{below_more}
use Rattle.std.specs.List.{filter, list_all}
use Rattle.std.proofs.lemmas.Bool.{and_from, and_parts}
use Rattle.std.proofs.lemmas.Bool.Decides.{nat_tests}
use Rattle.std.proofs.lemmas.List.Elements.{filter-append}
use Rattle.qp_model.specs.declared.words.Word.{Word}
use Rattle.qp_model.specs.Record.{Item}
use Rattle.qp_model.specs.History.{touch, same_word, Touch, Draws, drawn_on, drawn_as, drawn_below, total, numbered, hist, is_numbered}
use Rattle.qp_model.proofs.ListLemmas.{all_below_at, all_below_from, filter-insert_not, length_filter-insert, filter-insert_only, filter-none, list_all-insert}
use Rattle.qp_model.specs.Places.{in_order, is_next}
use Rattle.qp_model.specs.declared.words.Word.TheVariants as word

-- the number that a record draws is one
pub drawn_as-on : (w : Word) (n : ℕ) (t : Touch) → drawn_as w n t ≡ true → drawn_on w t ≡ true
drawn_as-on w n (Draws v k) h = (and_parts _ _ h).0
drawn_as-on w n _ h = cc

drawn_as-other : (w : Word) (n k : ℕ) (t : Touch) → drawn_as w n t ≡ true → k < n → drawn_as w k t ≡ false
drawn_as-other w n k (Draws v j) h lt =
    let here : (j == suc n) ≡ true = (and_parts _ _ h).1 in
    let same : same_word v w ≡ true = (and_parts _ _ h).0 in
    rw same (grind (arith, nat_tests))
drawn_as-other w n k _ h lt = refl

pub drawn_as-below : (w : Word) (n : ℕ) (t : Touch) → drawn_as w n t ≡ true → drawn_below w (suc n) t ≡ true
drawn_as-below w n (Draws v j) h =
    let here : (j == suc n) ≡ true = (and_parts _ _ h).1 in
    let same : same_word v w ≡ true = (and_parts _ _ h).0 in
    rw same (grind (arith, nat_tests))
drawn_as-below w n _ h = refl

drawn_below-not : (w : Word) (n : ℕ) (t : Touch) → drawn_below w n t ≡ true → drawn_as w n t ≡ false
drawn_below-not w n (Draws v j) h = go (same_word v w) h
  where
    go : (b : Bool) → (not b || (nat_lt 0 j && nat_le j n)) ≡ true → (b && (j == suc n)) ≡ false
    go true e = grind (arith, nat_tests)
    go false e = refl
drawn_below-not w n _ h = refl

drawn_below-more : (w : Word) (n : ℕ) (t : Touch) → drawn_below w n t ≡ true → drawn_below w (suc n) t ≡ true
drawn_below-more w n (Draws v j) h = go (same_word v w) h
  where
    go : (b : Bool) → (not b || (nat_lt 0 j && nat_le j n)) ≡ true → (not b || (nat_lt 0 j && nat_le j (suc n))) ≡ true
    go true e = grind (arith, nat_tests)
    go false e = refl
drawn_below-more w n _ h = refl

not_drawn : (w : Word) (n : ℕ) (t : Touch) → drawn_on w t ≡ false → drawn_as w n t ≡ false
not_drawn w n (Draws v k) h = rw h refl
not_drawn w n _ h = refl

not_drawn_below : (w : Word) (n : ℕ) (t : Touch) → drawn_on w t ≡ false → drawn_below w n t ≡ true
not_drawn_below w n (Draws v k) h = rw h refl
not_drawn_below w n _ h = refl

-- a history has as many records as numbers are drawn
length-numbered : (w : Word) (items : List Item) (n : ℕ) → ((k : ℕ) → k < n → (length (filter (λ j. drawn_as w k (touch j)) items) == 1) ≡ true) → length (numbered w items n) ≡ n
unfolding numbered
length-numbered w items zero h = refl
length-numbered w items (suc n) h =
    let before : length (numbered w items n) ≡ n = length-numbered w items n (λ k lt. h k (omega arith)) in
    let here : (length (filter (λ j. drawn_as w n (touch j)) items) == 1) ≡ true = h n (omega arith) in
    let one : length (filter (λ j. drawn_as w n (touch j)) items) ≡ 1 = grind (arith, nat_tests) in
    omega (arith, length-append (numbered w items n) (filter (λ j. drawn_as w n (touch j)) items))

pub length-hist : (w : Word) (items : List Item) → is_numbered w items ≡ true → length (hist w items) ≡ total w items
unfolding hist is_numbered
length-hist w items h =
    length-numbered w items (total w items) (all_below_at (total w items) (λ n. length (filter (λ j. drawn_as w n (touch j)) items) == 1) (and_parts _ _ h).1)

module _ (w : Word) (xs : List Item) (i : Item) (ys : List Item) where
  pub total-draws : drawn_on w (touch i) ≡ true → total w (xs ++ i ∷ ys) ≡ suc (total w (xs ++ ys))
  unfolding total
  total-draws h = length_filter-insert _ xs i ys h

  pub total-other : drawn_on w (touch i) ≡ false → total w (xs ++ i ∷ ys) ≡ total w (xs ++ ys)
  unfolding total
  total-other h = ap length (filter-insert_not _ xs i ys h)

  -- where the record draws no number below n, the history below n stays
  pub numbered-insert : (n : ℕ) → ((k : ℕ) → k < n → drawn_as w k (touch i) ≡ false) → numbered w (xs ++ i ∷ ys) n ≡ numbered w (xs ++ ys) n
  unfolding numbered
  numbered-insert zero h = refl
  numbered-insert (suc n) h =
      rw (numbered-insert n (λ k lt. h k (omega arith)), filter-insert_not (λ j. drawn_as w n (touch j)) xs i ys (h n (omega arith))) refl

-- A record more that draws the next number of w.
module _ (w : Word) (xs : List Item) (i : Item) (ys : List Item)
    (numbers : is_numbered w (xs ++ ys) ≡ true) (next : drawn_as w (total w (xs ++ ys)) (touch i) ≡ true) where
  total-next : total w (xs ++ i ∷ ys) ≡ suc (total w (xs ++ ys))
  total-next = total-draws w xs i ys (drawn_as-on w _ (touch i) next)

  only-next : filter (λ j. drawn_as w (total w (xs ++ ys)) (touch j)) (xs ++ i ∷ ys) ≡ i ∷ []
  unfolding is_numbered
  only-next =
      filter-insert_only (λ j. drawn_as w (total w (xs ++ ys)) (touch j)) xs i ys next
      (filter-none (λ j. drawn_as w (total w (xs ++ ys)) (touch j)) (λ j. drawn_below w (total w (xs ++ ys)) (touch j)) (xs ++ ys)
      (λ j. drawn_below-not w _ (touch j)) (and_parts _ _ numbers).0)

  -- the history has it at its end
  pub hist-draws : hist w (xs ++ i ∷ ys) ≡ hist w (xs ++ ys) ++ i ∷ []
  unfolding hist is_numbered numbered
  hist-draws =
      rw (
        total-next,
        numbered-insert w xs i ys (total w (xs ++ ys)) (λ k lt. drawn_as-other w _ k (touch i) next lt),
        only-next,
      )
      refl

  once : (k : ℕ) → k < suc (total w (xs ++ ys)) → (length (filter (λ j. drawn_as w k (touch j)) (xs ++ i ∷ ys)) == 1) ≡ true
  unfolding is_numbered
  once k lt =
      below_more (λ n. (length (filter (λ j. drawn_as w n (touch j)) (xs ++ i ∷ ys)) == 1) ≡ true) (total w (xs ++ ys))
      (λ n below. rw (filter-insert_not (λ j. drawn_as w n (touch j)) xs i ys (drawn_as-other w _ n (touch i) next below))
      (all_below_at _ (λ n. length (filter (λ j. drawn_as w n (touch j)) (xs ++ ys)) == 1) (and_parts _ _ numbers).1 n below))
      (rw only-next refl) k (omega arith)

  -- and the numbers are still 0, 1 and so on, each once
  pub is_numbered-draws : is_numbered w (xs ++ i ∷ ys) ≡ true
  unfolding is_numbered
  is_numbered-draws =
      rw total-next
      (and_from _ _
      (list_all-insert _ _ xs i ys (λ j. drawn_below-more w _ (touch j)) (drawn_as-below w _ (touch i) next) (and_parts _ _ numbers).0)
      (all_below_from (suc (total w (xs ++ ys))) (λ n. length (filter (λ j. drawn_as w n (touch j)) (xs ++ i ∷ ys)) == 1) once))

-- A record more that draws no number of w.
module _ (w : Word) (xs : List Item) (i : Item) (ys : List Item) (other : drawn_on w (touch i) ≡ false) where
  pub hist-other : hist w (xs ++ i ∷ ys) ≡ hist w (xs ++ ys)
  unfolding hist
  hist-other = rw (total-other w xs i ys other) (numbered-insert w xs i ys (total w (xs ++ ys)) (λ k lt. not_drawn w k (touch i) other))

  module _ (numbers : is_numbered w (xs ++ ys) ≡ true) where
    still_once : (k : ℕ) → k < total w (xs ++ ys) → (length (filter (λ j. drawn_as w k (touch j)) (xs ++ i ∷ ys)) == 1) ≡ true
    unfolding is_numbered
    still_once k lt =
        rw (filter-insert_not (λ j. drawn_as w k (touch j)) xs i ys (not_drawn w k (touch i) other))
        (all_below_at (total w (xs ++ ys)) (λ n. length (filter (λ j. drawn_as w n (touch j)) (xs ++ ys)) == 1) (and_parts _ _ numbers).1 k lt)

    pub is_numbered-other : is_numbered w (xs ++ i ∷ ys) ≡ true
    unfolding is_numbered
    is_numbered-other =
        rw (total-other w xs i ys other)
        (and_from _ _
        (list_all-insert _ _ xs i ys (λ j e. e) (not_drawn_below w (total w (xs ++ ys)) (touch i) other) (and_parts _ _ numbers).0)
        (all_below_from (total w (xs ++ ys)) (λ n. length (filter (λ j. drawn_as w n (touch j)) (xs ++ i ∷ ys)) == 1) still_once))

-- no more draws than items
pub total-length : (w : Word) (is : List Item) → total w is ≤ length is
unfolding total
total-length w [] = omega arith
total-length w (i ∷ is) = go (drawn_on w (touch i)) (total-length w is)
  where
    go : (u : Bool) → length (filter (λ j. drawn_on w (touch j)) is) ≤ length is
        → length (cond u (i ∷ filter (λ j. drawn_on w (touch j)) is) (filter (λ j. drawn_on w (touch j)) is)) ≤ suc (length is)
    go true later = omega (arith, later)
    go false later = omega (arith, later)

-- nothing was drawn where there is nothing
pub no-hist : (w : Word) → hist w [] ≡ []
unfolding hist total numbered
no-hist w = refl

pub no-total : (w : Word) → total w [] ≡ 0
unfolding total
no-total w = refl

pub same_word-refl : (w : Word) → same_word w w ≡ true
same_word-refl (word.Block p b) = let one : (p == p) ≡ true = grind (arith, nat_tests) in let two : (b == b) ≡ true = grind (arith, nat_tests) in and_from _ _ one two
same_word-refl _ = grind (arith, nat_tests)

-- a record's place in an order
pub in_order-at : (before xs : List Item) (i : Item) (ys : List Item) → in_order before (xs ++ i ∷ ys) ≡ true → is_next (before ++ xs) (touch i) ≡ true
unfolding in_order
in_order-at before [] i ys h = rw (append-nil before) (and_parts _ _ h).0
in_order-at before (x ∷ xs) i ys h = rw (sym (append_assoc before (x ∷ []) xs)) (in_order-at (before ++ x ∷ []) xs i ys (and_parts _ _ h).1)

pub in_order-front : (before xs ys : List Item) → in_order before (xs ++ ys) ≡ true → in_order before xs ≡ true
unfolding in_order
in_order-front before [] ys h = refl
in_order-front before (x ∷ xs) ys h =
    let parts = and_parts (is_next before (touch x)) _ h in
    and_from _ _ parts.0 (in_order-front (before ++ x ∷ []) xs ys parts.1)

pub total-append : (w : Word) (xs ys : List Item) → total w (xs ++ ys) ≡ total w xs + total w ys
unfolding total
total-append w xs ys = ap length (filter-append (λ i. drawn_on w (touch i)) xs ys) ∙ length-append (filter (λ i. drawn_on w (touch i)) xs) (filter (λ i. drawn_on w (touch i)) ys)

-- what passes one test passes another
pub filtered-pass : (p q : Item → Bool) (xs : List Item) → ((i : Item) → q i ≡ true → p i ≡ true) → list_all p (filter q xs) ≡ true
filtered-pass p q [] h = refl
filtered-pass p q (x ∷ xs) h = go (q x) refl (filtered-pass p q xs h)
  where
    go : (b : Bool) → q x ≡ b → list_all p (filter q xs) ≡ true → list_all p (cond b (x ∷ filter q xs) (filter q xs)) ≡ true
    go true e later = and_from _ _ (h x e) later
    go false e later = later

-- one record more
pub total-snoc : (w : Word) (A : List Item) (i : Item) → total w (A ++ i ∷ []) ≡ total w A + cond (drawn_on w (touch i)) 1 0
unfolding total
total-snoc w A i =
    let p : Item → Bool = λ i. drawn_on w (touch i) in
    ap length (filter-append p A (i ∷ [])) ∙ length-append (filter p A) (filter p (i ∷ [])) ∙ ap (λ k. length (filter p A) + k) (go (drawn_on w (touch i)))
  where
    go : (b : Bool) → length (cond b (i ∷ []) []) ≡ cond b 1 0
    go true = refl
    go false = refl
