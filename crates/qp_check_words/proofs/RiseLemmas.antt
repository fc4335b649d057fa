-- Marks that rise, by the records on a word alone.
use Rattle.std.proofs.Common.{◌≡◌, ℕ, nat_le, nat_lt, Bool, true, false, not, ◌&&◌, ◌||◌, cond, List, [], ◌∷◌, ◌++◌, refl, ap, sym, ◌∙◌, Some, None, arith, append-nil}
use Rattle.std.specs.List.{list_all}
use Rattle.std.proofs.Math.Bool.{and-true, and_assoc, or-false}
use Rattle.std.proofs.lemmas.Bool.{and_from, and_parts}
use Rattle.std.proofs.lemmas.List.Elements.{filter-append}
use Rattle.std.proofs.lemmas.Bool.Decides.{nat_tests}
use Rattle.qp_model.specs.declared.words.Word.{Word}
use Rattle.qp_model.specs.Record.{Item}
use Rattle.qp_model.specs.Lists.{never_falls}
use Rattle.qp_model.specs.declared.record.Rec.{Rec}
use Rattle.qp_model.specs.History.{Touch, Draws, Shows, Neither, touch, same_word, mark_of, marks, marks_rise, lane_items}
use Rattle.qp_check_words.specs.MarkOrder.{last_mark}
use Rattle.qp_check_words.specs.Marks.{word_use, touched, mark_number, rises_from}

-- marks that rise, by the records on the word alone
rises : ℕ → List ℕ → Bool
rises a [] = true
rises a (x ∷ xs) = nat_le a x && rises x xs

mark-on : (w : Word) (t : Touch) → word_use w t ≡ true → mark_of w t ≡ Some (mark_number t)
mark-on w (Draws v n) h = go (same_word v w) h
  where
    go : (b : Bool) → (b || false) ≡ true → cond b (Some n) None ≡ Some n
    go true e = refl
    go false e = cc
mark-on w (Shows v n) h = rw h refl
mark-on w Neither h = cc

mark-off : (w : Word) (t : Touch) → word_use w t ≡ false → mark_of w t ≡ None
mark-off w (Draws v n) h = go (same_word v w) h
  where
    go : (b : Bool) → (b || false) ≡ false → cond b (Some n) None ≡ None
    go true e = cc
    go false e = refl
mark-off w (Shows v n) h = rw h refl
mark-off w Neither h = refl

rises-marks : (w : Word) (a : ℕ) (items : List Item) → rises_from a (touched w items) ≡ rises a (marks w items)
unfolding rises_from touched rises
rises-marks w a [] = refl
rises-marks w a (i ∷ is) = go (word_use w (touch i)) refl (rises-marks w (mark_number (touch i)) is) (rises-marks w a is)
  where
    go : (b : Bool) → word_use w (touch i) ≡ b
        → rises_from (mark_number (touch i)) (touched w is) ≡ rises (mark_number (touch i)) (marks w is) → rises_from a (touched w is) ≡ rises a (marks w is)
        → rises_from a (cond b (i ∷ touched w is) (touched w is)) ≡ rises a (marks w (i ∷ is))
    go true e later same = rw (mark-on w (touch i) e) (ap (λ b. nat_le a (mark_number (touch i)) && b) later)
    go false e later same = rw (mark-off w (touch i) e) same

at_least : (a b : ℕ) (xs : List ℕ) → nat_le a b ≡ true → list_all (λ y. nat_le b y) xs ≡ true → list_all (λ y. nat_le a y) xs ≡ true
at_least a b [] h k = refl
at_least a b (x ∷ xs) h k =
    let le : nat_le b x ≡ true = (and_parts _ _ k).0 in
    let here : nat_le a x ≡ true = grind (arith, nat_tests) in
    and_from _ _ here (at_least a b xs h (and_parts _ _ k).1)

rises-falls : (a : ℕ) (xs : List ℕ) → rises a xs ≡ (list_all (λ y. nat_le a y) xs && never_falls xs)
unfolding rises
rises-falls a [] = refl
rises-falls a (x ∷ xs) = ap (λ b. nat_le a x && b) (rises-falls x xs) ∙ go (nat_le a x) refl (list_all (λ y. nat_le x y) xs) refl (never_falls xs)
  where
    go : (b : Bool) → nat_le a x ≡ b → (c : Bool) → list_all (λ y. nat_le x y) xs ≡ c → (d : Bool) → (b && (c && d)) ≡ ((b && list_all (λ y. nat_le a y) xs) && (c && d))
    go false e c f d = refl
    go true e true f d = rw (at_least a x xs e f) refl
    go true e false f d = end (list_all (λ y. nat_le a y) xs)
      where
        end : (b : Bool) → false ≡ (b && false)
        end true = refl
        end false = refl

above_zero : (xs : List ℕ) → list_all (λ y. nat_le 0 y) xs ≡ true
above_zero [] = refl
above_zero (x ∷ xs) = let here : nat_le 0 x ≡ true = grind (arith, nat_tests) in and_from _ _ here (above_zero xs)

pub rises-touched : (w : Word) (items : List Item) → rises_from 0 (touched w items) ≡ never_falls (marks w items)
rises-touched w items = rises-marks w 0 items ∙ rises-falls 0 (marks w items) ∙ ap (λ b. b && never_falls (marks w items)) (above_zero (marks w items))

-- lanes in which no mark falls
pub lanes-rise : (w : Word) (lanes : List (List Rec)) → list_all (λ lane. rises_from 0 (touched w (lane_items lane))) lanes ≡ marks_rise w lanes
unfolding marks_rise
lanes-rise w [] = refl
lanes-rise w (lane ∷ lanes) = rw (rises-touched w (lane_items lane), lanes-rise w lanes) refl

-- one record more
pub touched-append : (w : Word) (xs ys : List Item) → touched w (xs ++ ys) ≡ touched w xs ++ touched w ys
unfolding touched
touched-append w xs ys = filter-append (λ i. word_use w (touch i)) xs ys

pub touched-one : (w : Word) (i : Item) → touched w (i ∷ []) ≡ cond (word_use w (touch i)) (i ∷ []) []
unfolding touched
touched-one w i = refl

-- a record more in the row of its word
pub row-more : (w : Word) (row : List Item) (i : Item) → cond (word_use w (touch i)) (row ++ i ∷ []) row ≡ row ++ touched w (i ∷ [])
row-more w row i = go (word_use w (touch i)) ∙ ap (λ l. row ++ l) (sym (touched-one w i))
  where
    go : (b : Bool) → cond b (row ++ i ∷ []) row ≡ row ++ cond b (i ∷ []) []
    go true = refl
    go false = sym (append-nil row)

rises-more : (a : ℕ) (xs : List Item) (i : Item) → rises_from a (xs ++ i ∷ []) ≡ (rises_from a xs && nat_le (last_mark a xs) (mark_number (touch i)))
unfolding rises_from
rises-more a [] i = and-true (nat_le a (mark_number (touch i)))
rises-more a (x ∷ xs) i =
    ap (λ b. nat_le a (mark_number (touch x)) && b) (rises-more (mark_number (touch x)) xs i)
    ∙ sym (and_assoc (nat_le a (mark_number (touch x))) (rises_from (mark_number (touch x)) xs) (nat_le (last_mark (mark_number (touch x)) xs) (mark_number (touch i))))

last-more : (a : ℕ) (xs : List Item) (i : Item) → last_mark a (xs ++ i ∷ []) ≡ mark_number (touch i)
last-more a [] i = refl
last-more a (x ∷ xs) i = last-more (mark_number (touch x)) xs i

module _ (front : List Item) (i : Item) (last : ℕ) (before : last ≡ last_mark 0 front) where
  pub last-next : (uses : Bool) → cond uses (mark_number (touch i)) last ≡ last_mark 0 (front ++ cond uses (i ∷ []) [])
  last-next true = sym (last-more 0 front i)
  last-next false = before ∙ ap (last_mark 0) (sym (append-nil front))

  pub fall-next : (old fell uses : Bool) → fell ≡ (old || not (rises_from 0 front))
      → (fell || (uses && nat_lt (mark_number (touch i)) last)) ≡ (old || not (rises_from 0 (front ++ cond uses (i ∷ []) [])))
  fall-next old fell false e = or-false fell ∙ e ∙ ap (λ l. old || not (rises_from 0 l)) (sym (append-nil front))
  fall-next old fell true e =
      ap (λ b. b || nat_lt (mark_number (touch i)) last) e
      ∙ go old (rises_from 0 front) (nat_le last (mark_number (touch i))) refl
      ∙ ap (λ n. old || not (rises_from 0 front && nat_le n (mark_number (touch i)))) before
      ∙ ap (λ b. old || not b) (sym (rises-more 0 front i))
    where
      go : (a r le : Bool) → nat_le last (mark_number (touch i)) ≡ le → ((a || not r) || nat_lt (mark_number (touch i)) last) ≡ (a || not (r && le))
      go true r le h = refl
      go false false le h = refl
      go false true true h = grind (arith, nat_tests)
      go false true false h = grind (arith, nat_tests)

-- one lane more
pub lane-falls : (fell all rises : Bool) → fell ≡ not all → (fell || not rises) ≡ not (all && (rises && true))
lane-falls fell true true e = rw e refl
lane-falls fell true false e = rw e refl
lane-falls fell false r e = rw e refl
