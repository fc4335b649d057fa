-- What a word holds when a record is added at the end of a lane.
use Rattle.std.proofs.Common.{◌≡◌, ℕ, suc, ◌+◌, ◌≤◌, nat_le, Bool, true, false, ◌&&◌, cond, List, [], ◌∷◌, ◌++◌, length, take, refl, arith, length-append}
use Rattle.std.proofs.lemmas.Bool.{and_from, and_parts}
use Rattle.std.proofs.lemmas.List.{take-append-le}
use Rattle.std.proofs.lemmas.Bool.Decides.{nat_tests}
use Rattle.qp_model.specs.declared.words.Word.{Word}
use Rattle.qp_model.specs.declared.bodies.Body.{Body}
use Rattle.qp_model.specs.Record.{Item}
use Rattle.qp_model.specs.History.{touch, same_word, Touch, Draws, Shows, drawn_on, shown_on, hist, total, is_numbered, drawn_as}
use Rattle.qp_model.specs.Machine.{Machine, after_from, after, allowed_from, is_allowed, shown_by, is_shown}
use Rattle.qp_model.proofs.ListLemmas.{list_all-insert}
use Rattle.qp_model.proofs.HistoryLemmas.{hist-draws, hist-other, drawn_as-on}

-- each allowed operation counts
pub record Counts (S : Type 0) (m : Machine S) : Type 0 where
  pub begins : m.count m.first ≡ 0
  pub rises : (s : S) (i : Item) → m.may s i ≡ true → m.count (m.next s i) ≡ suc (m.count s)

module _ {S : Type 0} (m : Machine S) where
  pub after_from-append : (s : S) (xs ys : List Item) → after_from m s (xs ++ ys) ≡ after_from m (after_from m s xs) ys
  unfolding after_from
  after_from-append s [] ys = refl
  after_from-append s (x ∷ xs) ys = after_from-append (m.next s x) xs ys

  pub allowed_from-append : (s : S) (xs ys : List Item) → allowed_from m s xs ≡ true → allowed_from m (after_from m s xs) ys ≡ true → allowed_from m s (xs ++ ys) ≡ true
  unfolding allowed_from after_from
  allowed_from-append s [] ys h k = k
  allowed_from-append s (x ∷ xs) ys h k = and_from _ _ (and_parts _ _ h).0 (allowed_from-append (m.next s x) xs ys (and_parts _ _ h).1 k)

  -- an allowed history in two parts
  pub allowed_from-front : (s : S) (xs ys : List Item) → allowed_from m s (xs ++ ys) ≡ true → allowed_from m s xs ≡ true
  unfolding allowed_from
  allowed_from-front s [] ys h = refl
  allowed_from-front s (x ∷ xs) ys h = and_from _ _ (and_parts _ _ h).0 (allowed_from-front (m.next s x) xs ys (and_parts _ _ h).1)

  pub allowed_from-rest : (s : S) (xs ys : List Item) → allowed_from m s (xs ++ ys) ≡ true → allowed_from m (after_from m s xs) ys ≡ true
  unfolding allowed_from after_from
  allowed_from-rest s [] ys h = h
  allowed_from-rest s (x ∷ xs) ys h = allowed_from-rest (m.next s x) xs ys (and_parts _ _ h).1

  pub is_allowed-front : (xs ys : List Item) → is_allowed m (xs ++ ys) ≡ true → is_allowed m xs ≡ true
  unfolding is_allowed
  is_allowed-front xs ys h = allowed_from-front m.first xs ys h

  -- each operation of an allowed history is allowed after those before it
  pub is_allowed-at : (xs ys : List Item) (i : Item) → is_allowed m (xs ++ i ∷ ys) ≡ true → m.may (after m xs) i ≡ true
  unfolding is_allowed after allowed_from
  is_allowed-at xs ys i h = (and_parts _ _ (allowed_from-rest m.first xs (i ∷ ys) h)).0

  pub is_allowed-rest : (xs ys : List Item) → is_allowed m (xs ++ ys) ≡ true → allowed_from m (after m xs) ys ≡ true
  unfolding is_allowed after
  is_allowed-rest xs ys h = allowed_from-rest m.first xs ys h

  -- one operation more
  pub after-append : (xs : List Item) (i : Item) → after m (xs ++ i ∷ []) ≡ m.next (after m xs) i
  unfolding after after_from
  after-append xs i = after_from-append m.first xs (i ∷ [])

  pub is_allowed-append : (xs : List Item) (i : Item) → is_allowed m xs ≡ true → m.may (after m xs) i ≡ true → is_allowed m (xs ++ i ∷ []) ≡ true
  unfolding is_allowed after allowed_from
  is_allowed-append xs i h may = allowed_from-append m.first xs (i ∷ []) h (and_from _ _ may refl)

  count-from : Counts S m → (s : S) (xs : List Item) → allowed_from m s xs ≡ true → m.count (after_from m s xs) ≡ m.count s + length xs
  unfolding allowed_from after_from
  count-from counts s [] h = omega arith
  count-from counts s (x ∷ xs) h =
      omega (arith, count-from counts (m.next s x) xs (and_parts _ _ h).1, counts.rises s x (and_parts _ _ h).0)

  -- a word has had as many operations as its history is long
  pub count-after : Counts S m → (xs : List Item) → is_allowed m xs ≡ true → m.count (after m xs) ≡ length xs
  unfolding is_allowed after
  count-after counts xs h = omega (arith, count-from counts m.first xs h, counts.begins)

  pub keeps-from : (P : S → Type 0) → ((s : S) (i : Item) → m.may s i ≡ true → P s → P (m.next s i)) → (s : S) (xs : List Item) → allowed_from m s xs ≡ true → P s → P (after_from m s xs)
  unfolding allowed_from after_from
  keeps-from P step s [] h p = p
  keeps-from P step s (x ∷ xs) h p = keeps-from P step (m.next s x) xs (and_parts _ _ h).1 (step s x (and_parts _ _ h).0 p)

  -- what holds at first and is kept by each allowed operation, holds after all
  pub after-keeps : (P : S → Type 0) → ((s : S) (i : Item) → m.may s i ≡ true → P s → P (m.next s i)) → P m.first → (xs : List Item) → is_allowed m xs ≡ true → P (after m xs)
  unfolding is_allowed after
  after-keeps P step first xs h = keeps-from P step m.first xs h first

  -- what was shown stays shown when the history grows
  module _ (w : Word) (history : List Item) (i : Item) where
    within : (b : Body) (n : ℕ) → (nat_le n (length history) && m.says (after m (take n history)) b) ≡ true
        → (nat_le n (length (history ++ i ∷ [])) && m.says (after m (take n (history ++ i ∷ []))) b) ≡ true
    within b n h =
        let test : nat_le n (length history) ≡ true = (and_parts _ _ h).0 in
        let le : n ≤ length history = grind (arith, nat_tests) in
        rw (take-append-le n history (i ∷ []) le)
        (and_from _ _ (longer n le) (and_parts _ _ h).1)
      where
        longer : (n : ℕ) → n ≤ length history → nat_le n (length (history ++ i ∷ [])) ≡ true
        longer n le = grind (arith, nat_tests, length-append history (i ∷ []))

    pub shown_by-more : (b : Body) (t : Touch) → shown_by m w history b t ≡ true → shown_by m w (history ++ i ∷ []) b t ≡ true
    unfolding shown_by
    shown_by-more b (Shows v n) h = go (same_word v w) h
      where
        go : (same : Bool) → cond same (nat_le n (length history) && m.says (after m (take n history)) b) true ≡ true
            → cond same (nat_le n (length (history ++ i ∷ [])) && m.says (after m (take n (history ++ i ∷ []))) b) true ≡ true
        go true e = within b n e
        go false e = refl
    shown_by-more b _ h = refl

  -- a record that doesn't show the word shows nothing wrong of it
  pub shown_by-none : (w : Word) (history : List Item) (b : Body) (t : Touch) → shown_on w t ≡ false → shown_by m w history b t ≡ true
  unfolding shown_by
  shown_by-none w history b (Shows v n) h = rw h refl
  shown_by-none w history b _ h = refl

  drawn-not_shown : (w : Word) (t : Touch) → drawn_on w t ≡ true → shown_on w t ≡ false
  drawn-not_shown w (Draws v n) h = refl
  drawn-not_shown w _ h = cc

  pub is_shown-draws : (w : Word) (xs : List Item) (i : Item) (ys : List Item) → is_numbered w (xs ++ ys) ≡ true → drawn_as w (total w (xs ++ ys)) (touch i) ≡ true
      → is_shown m w (xs ++ ys) ≡ true → is_shown m w (xs ++ i ∷ ys) ≡ true
  unfolding is_shown
  is_shown-draws w xs i ys numbers next h =
      rw (hist-draws w xs i ys numbers next)
      (list_all-insert _ _ xs i ys (λ j. shown_by-more w (hist w (xs ++ ys)) i j.body (touch j))
      (shown_by-none w (hist w (xs ++ ys) ++ i ∷ []) i.body (touch i) (drawn-not_shown w (touch i) (drawn_as-on w _ (touch i) next))) h)

  pub is_shown-other : (w : Word) (xs : List Item) (i : Item) (ys : List Item) → drawn_on w (touch i) ≡ false
      → shown_by m w (hist w (xs ++ ys)) i.body (touch i) ≡ true → is_shown m w (xs ++ ys) ≡ true → is_shown m w (xs ++ i ∷ ys) ≡ true
  unfolding is_shown
  is_shown-other w xs i ys other said h =
      rw (hist-other w xs i ys other)
      (list_all-insert (λ j. shown_by m w (hist w (xs ++ ys)) j.body (touch j)) _ xs i ys (λ j e. e) said h)
