-- The greatest number drawn on a word stands in the records of some lane.
use Rattle.std.proofs.Common.{◌≡◌, ℕ, zero, suc, ◌+◌, ◌<◌, ◌≤◌, ◌==◌, nat_le, Bool, true, false, ◌&&◌, cond, List, [], ◌∷◌, length, refl, ◌∙◌, ap, arith, Some, None}
use Rattle.std.specs.Prelude.{slice_get}
use Rattle.std.specs.List.{cons_option, filter, list_all}
use Rattle.std.proofs.lemmas.Bool.{and_parts}
use Rattle.std.proofs.lemmas.Bool.Decides.{nat_tests}
use Rattle.std.proofs.lemmas.List.{length-append}
use Rattle.std.proofs.lemmas.List.Elements.{filter-append}
use Rattle.qp_model.specs.declared.record.Rec.{Rec}
use Rattle.qp_model.specs.declared.words.Word.{Word}
use Rattle.qp_model.specs.Record.{Item}
use Rattle.qp_model.specs.Lists.{all_below}
use Rattle.qp_model.specs.History.{Touch, Draws, Shows, Neither, all_items, drawn_as, drawn_below, is_numbered, lane_items, mark_of, marks, same_word, total, touch}
use Rattle.qp_model.proofs.ListLemmas.{all_below_at}

-- a lane that has such a record
pub record HasOne (p : Item → Bool) (lanes : List (List Rec)) : Type 0 where
  pub at : ℕ
  pub lane : List Rec
  pub there : slice_get lanes at ≡ Some lane
  pub some : 0 < length (filter p (lane_items lane))

pub has-one : (p : Item → Bool) (lanes : List (List Rec)) → 0 < length (filter p (all_items lanes)) → HasOne p lanes
unfolding all_items
has-one p [] h = absurd (omega (arith, h))
has-one p (x ∷ lanes) h = by (length (filter p (lane_items x))) refl (has-one p lanes)
  where
    parts : length (filter p (all_items (x ∷ lanes))) ≡ length (filter p (lane_items x)) + length (filter p (all_items lanes))
    parts = ap length (filter-append p (lane_items x) (all_items lanes)) ∙ length-append (filter p (lane_items x)) (filter p (all_items lanes))

    by : (n : ℕ) → length (filter p (lane_items x)) ≡ n → (0 < length (filter p (all_items lanes)) → HasOne p lanes) → HasOne p (x ∷ lanes)
    by (suc n) e go = record { at = 0; lane = x; there = refl; some = omega (arith, e) }
    by zero e go =
        let two = parts in
        let later = go (omega (arith, two, e, h)) in
        record { at = suc later.at; lane = later.lane; there = later.there; some = later.some }

-- what is to be shown of the records behind one
abbrev Later : Word → ℕ → ℕ → List Item → Type 0
Later w n most is = list_all (λ m. nat_le m most) (marks w is) ≡ true → 0 < length (filter (λ i. drawn_as w n (touch i)) is) → suc n ≤ most

-- a record that draws number n is among those whose marks are bounded
pub drawn-bounded : (w : Word) (n most : ℕ) (is : List Item) → list_all (λ m. nat_le m most) (marks w is) ≡ true → 0 < length (filter (λ i. drawn_as w n (touch i)) is) → suc n ≤ most
drawn-bounded w n most [] all h = absurd (omega (arith, h))
drawn-bounded w n most (i ∷ is) all h = go (touch i) all h (drawn-bounded w n most is)
  where
    draws : (b : Bool) (mark : ℕ) → list_all (λ m. nat_le m most) (cons_option (cond b (Some mark) None) (marks w is)) ≡ true
        → 0 < length (cond (b && (mark == suc n)) (i ∷ filter (λ i. drawn_as w n (touch i)) is) (filter (λ i. drawn_as w n (touch i)) is)) → Later w n most is → suc n ≤ most
    draws false mark all h later = later all h
    draws true mark all h later = here (mark == suc n) refl (and_parts (nat_le mark most) (list_all (λ m. nat_le m most) (marks w is)) all) h
      where
        here : (c : Bool) → (mark == suc n) ≡ c → (nat_le mark most ≡ true) × (list_all (λ m. nat_le m most) (marks w is) ≡ true)
            → 0 < length (cond c (i ∷ filter (λ i. drawn_as w n (touch i)) is) (filter (λ i. drawn_as w n (touch i)) is)) → suc n ≤ most
        here true e parts h = let one = parts.0 in grind (arith, nat_tests, e, one)
        here false e parts h = later parts.1 h

    shows : (b : Bool) (mark : ℕ) → list_all (λ m. nat_le m most) (cons_option (cond b (Some mark) None) (marks w is)) ≡ true → list_all (λ m. nat_le m most) (marks w is) ≡ true
    shows false mark all = all
    shows true mark all = (and_parts (nat_le mark most) (list_all (λ m. nat_le m most) (marks w is)) all).1

    go : (t : Touch) → list_all (λ m. nat_le m most) (cons_option (mark_of w t) (marks w is)) ≡ true
        → 0 < length (cond (drawn_as w n t) (i ∷ filter (λ i. drawn_as w n (touch i)) is) (filter (λ i. drawn_as w n (touch i)) is)) → Later w n most is → suc n ≤ most
    go (Draws v mark) all h later = draws (same_word v w) mark all h later
    go (Shows v mark) all h later = later (shows (same_word v w) mark all) h
    go Neither all h later = later all h

-- the number before the last is drawn
last-drawn : (w : Word) (items : List Item) (k : ℕ) → is_numbered w items ≡ true → total w items ≡ suc k → 0 < length (filter (λ i. drawn_as w k (touch i)) items)
unfolding is_numbered
last-drawn w items k h all =
    let parts = and_parts (list_all (λ i. drawn_below w (total w items) (touch i)) items) (all_below (total w items) (λ n. length (filter (λ i. drawn_as w n (touch i)) items) == 1)) h in
    let one = all_below_at (total w items) (λ n. length (filter (λ i. drawn_as w n (touch i)) items) == 1) parts.1 k (omega (arith, all)) in
    some (length (filter (λ i. drawn_as w k (touch i)) items)) one
  where
    some : (n : ℕ) → (n == 1) ≡ true → 0 < n
    some n e = grind (arith, nat_tests, e)

pub histories_are_seen : (w : Word) (lanes : List (List Rec)) (most : ℕ) → is_numbered w (all_items lanes) ≡ true
    → ((n : ℕ) (lane : List Rec) → slice_get lanes n ≡ Some lane → list_all (λ m. nat_le m most) (marks w (lane_items lane)) ≡ true)
    → total w (all_items lanes) ≤ most
histories_are_seen w lanes most numbered bounded = by (total w (all_items lanes)) refl
  where
    by : (n : ℕ) → total w (all_items lanes) ≡ n → total w (all_items lanes) ≤ most
    by zero e = omega (arith, e)
    by (suc k) e =
        let one = has-one (λ i. drawn_as w k (touch i)) lanes (last-drawn w (all_items lanes) k numbered e) in
        let least = drawn-bounded w k most (lane_items one.lane) (bounded one.at one.lane one.there) one.some in
        omega (arith, e, least)
