-- Of the records on a word alone, their numbers and their history are those of the word.
use Rattle.std.proofs.Common.{◌≡◌, ℕ, zero, suc, ◌+◌, ◌^◌, ◌≤◌, ◌<◌, ◌==◌, nat_lt, nat_le, Bool, true, false, not, ◌&&◌, ◌||◌, List, [], ◌∷◌, ◌++◌, length, refl, ap, sym, ◌∙◌, Some, None, cond, arith, append_assoc, append-nil}
use Rattle.std.specs.List.{filter, list_all}
use Rattle.std.proofs.Math.Bool.{and-true, and_assoc}
use Rattle.std.proofs.lemmas.Bool.Decides.{nat_tests}
use Rattle.qp_model.specs.declared.words.Word.{Word}
use Rattle.qp_model.specs.Record.{Item}
use Rattle.qp_model.specs.Lists.{all_below}
use Rattle.qp_model.specs.History.{Touch, Draws, Shows, Neither, touch, same_word, drawn_on, drawn_as, drawn_below, total, numbered, hist, is_numbered}
use Rattle.qp_model.specs.WordOf.{number_before}
use Rattle.qp_check_lanes.specs.Groups.{has_key, of_key, grouped_from, grouped, groups_joined}
use Rattle.qp_check_words.specs.Marks.{word_use, touched, draws_number, draws_below, draw_count, drawn_number, drawn_key, by_number, has_one, numbers_hold, history_of}

-- where all that pass p pass q, and r is p there
pub filter_within : (p q r : Item → Bool) → ((i : Item) → q i ≡ true → r i ≡ p i) → ((i : Item) → q i ≡ false → p i ≡ false) → (xs : List Item) → filter r (filter q xs) ≡ filter p xs
filter_within p q r same other [] = refl
filter_within p q r same other (x ∷ xs) = go (q x) refl (filter_within p q r same other xs)
  where
    go : (b : Bool) → q x ≡ b → filter r (filter q xs) ≡ filter p xs → filter r (cond b (x ∷ filter q xs) (filter q xs)) ≡ cond (p x) (x ∷ filter p xs) (filter p xs)
    go true e h = rw (same x e, h) refl
    go false e h = rw (other x e) h

-- where all that fail p pass q, and r is p there
pub list_all_within : (p q r : Item → Bool) → ((i : Item) → q i ≡ true → r i ≡ p i) → ((i : Item) → q i ≡ false → p i ≡ true) → (xs : List Item) → list_all r (filter q xs) ≡ list_all p xs
list_all_within p q r same other [] = refl
list_all_within p q r same other (x ∷ xs) = go (q x) refl (list_all_within p q r same other xs)
  where
    go : (b : Bool) → q x ≡ b → list_all r (filter q xs) ≡ list_all p xs → list_all r (cond b (x ∷ filter q xs) (filter q xs)) ≡ (p x && list_all p xs)
    go true e h = rw (same x e, h) refl
    go false e h = rw (other x e) h

and-both : {a b c d : Bool} → a ≡ c → b ≡ d → (a && b) ≡ (c && d)
and-both h k = rw (h, k) refl

draws-on : (w : Word) (t : Touch) → word_use w t ≡ true → draws_number t ≡ drawn_on w t
draws-on w (Draws v n) h = go (same_word v w) h
  where
    go : (b : Bool) → (b || false) ≡ true → true ≡ b
    go true e = refl
    go false e = cc
draws-on w (Shows v n) h = refl
draws-on w Neither h = refl

off-drawn : (w : Word) (t : Touch) → word_use w t ≡ false → drawn_on w t ≡ false
off-drawn w (Draws v n) h = go (same_word v w) h
  where
    go : (b : Bool) → (b || false) ≡ false → b ≡ false
    go true e = cc
    go false e = refl
off-drawn w (Shows v n) h = refl
off-drawn w Neither h = refl

pub total-touched : (w : Word) (items : List Item) → draw_count (touched w items) ≡ total w items
unfolding draw_count touched total
total-touched w items =
    ap length (filter_within (λ i. drawn_on w (touch i)) (λ i. word_use w (touch i)) (λ i. draws_number (touch i)) (λ i. draws-on w (touch i)) (λ i. off-drawn w (touch i)) items)

before-is : (n k : ℕ) → n < 2 ^ 64 → has_key n (number_before k) ≡ (k == suc n)
before-is n zero lt = grind (arith, nat_tests)
before-is n (suc j) lt = go (nat_lt j (2 ^ 64)) refl
  where
    go : (b : Bool) → nat_lt j (2 ^ 64) ≡ b → has_key n (cond b (Some j) None) ≡ (suc j == suc n)
    go true e = grind (arith, nat_tests)
    go false e = grind (arith, nat_tests)

drawn-key : (w : Word) (n : ℕ) → n < 2 ^ 64 → (t : Touch) → word_use w t ≡ true → has_key n (drawn_number t) ≡ drawn_as w n t
drawn-key w n lt (Draws v k) h = go (same_word v w) h
  where
    go : (b : Bool) → (b || false) ≡ true → has_key n (number_before k) ≡ (b && (k == suc n))
    go true e = before-is n k lt
    go false e = cc
drawn-key w n lt (Shows v k) h = refl
drawn-key w n lt Neither h = refl

off-drawn_as : (w : Word) (n : ℕ) (t : Touch) → word_use w t ≡ false → drawn_as w n t ≡ false
off-drawn_as w n (Draws v k) h = go (same_word v w) h
  where
    go : (b : Bool) → (b || false) ≡ false → (b && (k == suc n)) ≡ false
    go true e = cc
    go false e = refl
off-drawn_as w n (Shows v k) h = refl
off-drawn_as w n Neither h = refl

below-on : (w : Word) (n : ℕ) (t : Touch) → word_use w t ≡ true → draws_below n t ≡ drawn_below w n t
below-on w n (Draws v k) h = go (same_word v w) h
  where
    go : (b : Bool) → (b || false) ≡ true → (nat_lt 0 k && nat_le k n) ≡ (not b || (nat_lt 0 k && nat_le k n))
    go true e = refl
    go false e = cc
below-on w n (Shows v k) h = refl
below-on w n Neither h = refl

off-below : (w : Word) (n : ℕ) (t : Touch) → word_use w t ≡ false → drawn_below w n t ≡ true
off-below w n (Draws v k) h = go (same_word v w) h
  where
    go : (b : Bool) → (b || false) ≡ false → (not b || (nat_lt 0 k && nat_le k n)) ≡ true
    go true e = cc
    go false e = refl
off-below w n (Shows v k) h = refl
off-below w n Neither h = refl

module _ (w : Word) (items : List Item) where
  of_number : (n : ℕ) → n < 2 ^ 64 → of_key drawn_key n (touched w items) ≡ filter (λ i. drawn_as w n (touch i)) items
  unfolding of_key touched
  of_number n lt =
      filter_within (λ i. drawn_as w n (touch i)) (λ i. word_use w (touch i)) (λ i. has_key n (drawn_key i)) (λ i. drawn-key w n lt (touch i)) (λ i. off-drawn_as w n (touch i)) items

  numbered_from : (k n : ℕ) → k + n ≤ 2 ^ 64 → numbered w items k ++ groups_joined (grouped_from drawn_key k n (touched w items)) ≡ numbered w items (k + n)
  unfolding numbered grouped_from
  numbered_from k zero le = let e : k ≡ k + zero = omega arith in append-nil (numbered w items k) ∙ ap (numbered w items) e
  numbered_from k (suc n) le =
      let e : suc k + n ≡ k + suc n = omega arith in
      rw (of_number k (omega arith)) (sym (append_assoc (numbered w items k) _ _) ∙ numbered_from (suc k) n (omega arith) ∙ ap (numbered w items) e)

  -- the history of a word
  pub history-touched : total w items ≤ 2 ^ 64 → history_of (touched w items) ≡ hist w items
  unfolding history_of by_number grouped hist numbered
  history-touched le =
      let e : 0 + total w items ≡ total w items = omega arith in
      rw (total-touched w items) (numbered_from 0 (total w items) (omega arith) ∙ ap (numbered w items) e)

  -- each number of a word once
  module _ (test : ℕ → Bool) (tests : (n : ℕ) → test n ≡ (length (filter (λ i. drawn_as w n (touch i)) items) == 1)) where
    once_from : (k n : ℕ) → k + n ≤ 2 ^ 64 → (all_below k test && list_all has_one (grouped_from drawn_key k n (touched w items))) ≡ all_below (k + n) test
    unfolding all_below grouped_from
    once_from k zero le = let e : k ≡ k + zero = omega arith in and-true (all_below k test) ∙ ap (λ n. all_below n test) e
    once_from k (suc n) le =
        let later : (all_below (suc k) test && list_all has_one (grouped_from drawn_key (suc k) n (touched w items))) ≡ all_below (suc k + n) test = once_from (suc k) n (omega arith) in
        let here : has_one (of_key drawn_key k (touched w items)) ≡ test k = ap has_one (of_number k (omega arith)) ∙ sym (tests k) in
        let e : suc k + n ≡ k + suc n = omega arith in
        rw here (sym (and_assoc (all_below k test) (test k) _) ∙ later ∙ ap (λ n. all_below n test) e)

  pub numbers-touched : total w items ≤ 2 ^ 64 → numbers_hold (touched w items) ≡ is_numbered w items
  unfolding numbers_hold by_number grouped is_numbered all_below touched
  numbers-touched le =
      let e : 0 + total w items ≡ total w items = omega arith in
      let test : ℕ → Bool = λ n. length (filter (λ i. drawn_as w n (touch i)) items) == 1 in
      rw (total-touched w items)
      (and-both
      (list_all_within (λ i. drawn_below w (total w items) (touch i)) (λ i. word_use w (touch i)) (λ i. draws_below (total w items) (touch i)) (λ i. below-on w (total w items) (touch i)) (λ i. off-below w (total w items) (touch i)) items)
      (once_from test (λ n. refl) 0 (total w items) (omega arith) ∙ ap (λ n. all_below n test) e))
