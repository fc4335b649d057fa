-- Lanes whose starts and later records lie apart.
use Rattle.std.proofs.Common.{◌≡◌, inl, inr, ℕ, zero, suc, ◌+◌, ◌≤◌, Bool, true, false, cond, List, [], ◌∷◌, ◌++◌, Option, Some, None, sym, ◌∙◌, ap, subst, arith}
use Rattle.std.specs.List.{AllByRecursion, cons_option}
use Rattle.std.proofs.lemmas.List.{map-append}
use Rattle.qp_model.specs.declared.words.Word.{Word}
use Rattle.qp_model.specs.History.{Touch, mark_of, marks, same_word, touch}
use Rattle.qp_model.specs.Record.{Item}
use Rattle.qp_model.specs.Told.{ToldItem, untold}
use Rattle.qp_model_order.specs.SourceRun.{untold_all}
use Rattle.qp_calls.specs.LaneView.{Advances, AreBetween, IsBetween, LaneView}
use Rattle.qp_kernel.specs.Starts.{AreStarts, IsStartAlone, up_to}
use Rattle.qp_model.specs.OutputSummary.{is_done_record}
use Rattle.qp_kernel.proofs.StartsLemmas.{starts-split}
use Rattle.qp_port_phases.specs.Turns.{AreReady}
use Rattle.qp_port_phases.specs.Floors.{AddsFrom, AllAdd, AllUnder, AreFrom, IsFrom}
use Rattle.qp_port_phases.specs.Lanes.{SameEach}
use Rattle.qp_port_phases.specs.Starting.{StartFirst}
use Rattle.qp_port_law.specs.StartsFirst.{IsApart, draw_on, draws}

-- what a lane knows is no less than its marks
between-below : (w : Word) (low high floor : ℕ) (ts : List ToldItem) → high ≤ floor → AreBetween w low high ts → AllByRecursion (λ k. k ≤ floor) (marks w (untold_all ts))
between-below w low high floor [] le h = tt
between-below w low high floor (t ∷ ts) le h = by (mark_of w (touch (untold t))) h.0 (between-below w low high floor ts le h.1)
  where
    by : (o : Option ℕ) → IsBetween low high o → AllByRecursion (λ k. k ≤ floor) (marks w (untold_all ts)) → AllByRecursion (λ k. k ≤ floor) (cons_option o (marks w (untold_all ts)))
    by None one more = more
    by (Some k) one more = (omega (arith, le, one.1), more)

-- the numbers drawn are among the marks
drawn-below : (w : Word) (floor : ℕ) (is : List Item) → AllByRecursion (λ k. k ≤ floor) (marks w is) → AllByRecursion (λ k. k ≤ floor) (draws w is)
drawn-below w floor [] h = tt
drawn-below w floor (i ∷ is) h = by (touch i) (drawn-below w floor is) h
  where
    drawn : (b : Bool) (m : ℕ) → (AllByRecursion (λ k. k ≤ floor) (marks w is) → AllByRecursion (λ k. k ≤ floor) (draws w is)) → AllByRecursion (λ k. k ≤ floor) (cons_option (cond b (Some m) None) (marks w is)) → AllByRecursion (λ k. k ≤ floor) (cons_option (cond b (Some m) None) (draws w is))
    drawn true m more k = (k.0, more k.1)
    drawn false m more k = more k

    shown : (b : Bool) (m : ℕ) → (AllByRecursion (λ k. k ≤ floor) (marks w is) → AllByRecursion (λ k. k ≤ floor) (draws w is)) → AllByRecursion (λ k. k ≤ floor) (cons_option (cond b (Some m) None) (marks w is)) → AllByRecursion (λ k. k ≤ floor) (draws w is)
    shown true m more k = more k.1
    shown false m more k = more k

    by : (t : Touch) → (AllByRecursion (λ k. k ≤ floor) (marks w is) → AllByRecursion (λ k. k ≤ floor) (draws w is)) → AllByRecursion (λ k. k ≤ floor) (cons_option (mark_of w t) (marks w is)) → AllByRecursion (λ k. k ≤ floor) (cons_option (draw_on w t) (draws w is))
    by (Touch.Draws x m) more k = drawn (same_word x w) m more k
    by (Touch.Shows x m) more k = shown (same_word x w) m more k
    by Touch.Neither more k = more k

-- a front of a lane
front-below : (w : Word) (floor n : ℕ) (is : List Item) → AllByRecursion (λ k. k ≤ floor) (marks w is) → AllByRecursion (λ k. k ≤ floor) (marks w (up_to n is))
front-below w floor zero is h = tt
front-below w floor (suc n) [] h = tt
front-below w floor (suc n) (i ∷ is) h = by (mark_of w (touch i)) (front-below w floor n is) (front-below w floor (suc n) is) h
  where
    rest : (c : Bool) → (AllByRecursion (λ k. k ≤ floor) (marks w is) → AllByRecursion (λ k. k ≤ floor) (marks w (up_to n is))) → (AllByRecursion (λ k. k ≤ floor) (marks w is) → AllByRecursion (λ k. k ≤ floor) (marks w (up_to (suc n) is)))
        → AllByRecursion (λ k. k ≤ floor) (marks w is) → AllByRecursion (λ k. k ≤ floor) (marks w (cond c (up_to n is) (up_to (suc n) is)))
    rest true one more k = one k
    rest false one more k = more k

    by : (o : Option ℕ) → (AllByRecursion (λ k. k ≤ floor) (marks w is) → AllByRecursion (λ k. k ≤ floor) (marks w (up_to n is))) → (AllByRecursion (λ k. k ≤ floor) (marks w is) → AllByRecursion (λ k. k ≤ floor) (marks w (up_to (suc n) is)))
        → AllByRecursion (λ k. k ≤ floor) (cons_option o (marks w is)) → AllByRecursion (λ k. k ≤ floor) (cons_option o (marks w (cond (is_done_record i.body) (up_to n is) (up_to (suc n) is))))
    by None one more k = rest (is_done_record i.body) one more k
    by (Some m) one more k = (k.0, rest (is_done_record i.body) one more k.1)

-- a lane in which nothing stands but its starts, or what came of them
pub apart-alone : (floor : Word → ℕ) (n : ℕ) (low high : Word → ℕ) (ts : List ToldItem) → IsStartAlone n (untold_all ts) → ((w : Word) → high w ≤ floor w) → ((w : Word) → AreBetween w (low w) (high w) ts) → IsApart floor n (untold_all ts)
apart-alone floor n low high ts alone le between = record {
  below = λ w. drawn-below w (floor w) (up_to n (untold_all ts)) (front-below w (floor w) n (untold_all ts) (between-below w (low w) (high w) (floor w) ts (le w) (between w)));
  above = λ w. subst (AllByRecursion (λ k. floor w ≤ k)) (sym (alone w)) tt;
}

-- one that went on behind its starts
pub apart-behind : (floor : Word → ℕ) (n : ℕ) (low high : Word → ℕ) (ts more : List ToldItem) → AreStarts n (untold_all ts) → ((w : Word) → high w ≤ floor w) → ((w : Word) → AreBetween w (low w) (high w) ts)
    → ((w : Word) → AllByRecursion (λ k. floor w ≤ k) (marks w (untold_all more))) → IsApart floor n (untold_all (ts ++ more))
apart-behind floor n low high ts more starts le between from =
    let parts = starts-split n (untold_all ts) (untold_all more) starts.0 starts.1 in
    subst (IsApart floor n) (sym (map-append untold ts more)) (record {
      below = λ w. subst (λ is. AllByRecursion (λ k. k ≤ floor w) (draws w is)) (sym parts.0) (drawn-below w (floor w) (untold_all ts) (between-below w (low w) (high w) (floor w) ts (le w) (between w)));
      above = λ w. subst (λ is. AllByRecursion (λ k. floor w ≤ k) (marks w is)) (sym parts.1) (from w);
    })

-- Rows of lanes.

-- the lanes of these, each with so many starts
pub record AreAllApart {T : Type 0} (starts : T → ℕ) (view : T → LaneView) (ws : List T) : Type 0 where
  pub floor : Word → ℕ
  pub each : AreReady (λ w. IsApart floor (starts w) (untold_all (view w).told)) ws

from-marks : (w : Word) (low : ℕ) (ts : List ToldItem) → AreFrom w low ts → AllByRecursion (λ k. low ≤ k) (marks w (untold_all ts))
from-marks w low [] h = tt
from-marks w low (t ∷ ts) h = by (mark_of w (touch (untold t))) h.0 (from-marks w low ts h.1)
  where
    by : (o : Option ℕ) → IsFrom low o → AllByRecursion (λ k. low ≤ k) (marks w (untold_all ts)) → AllByRecursion (λ k. low ≤ k) (cons_option o (marks w (untold_all ts)))
    by None one more = more
    by (Some k) one more = (one, more)

-- a lane that was new has all of its marks below what it knows
all-between : (v w : LaneView) → v.told ≡ [] → Advances v w → (x : Word) → AreBetween x (v.mark x) (w.mark x) w.told
all-between v w none a x = subst (AreBetween x (v.mark x) (w.mark x)) (sym (a.grows ∙ ap (λ ts. ts ++ a.more) none)) (a.between x)

alone-one : (floor : Word → ℕ) (n : ℕ) (v w : LaneView) → IsStartAlone n (untold_all w.told) → v.told ≡ [] → Advances v w → ((y : Word) → w.mark y ≤ floor y) → IsApart floor n (untold_all w.told)
alone-one floor n v w alone none a le = apart-alone floor n v.mark w.mark w.told alone le (all-between v w none a)

behind-one : (floor : Word → ℕ) (n m : ℕ) (u v w : LaneView) → n ≡ m → AreStarts n (untold_all v.told) → u.told ≡ [] → Advances u v → ((z : Word) → v.mark z ≤ floor z) → AddsFrom floor v w → IsApart floor m (untold_all w.told)
behind-one floor n m u v w same starts none a le adds =
    subst (λ k. IsApart floor k (untold_all w.told)) same
    (subst (λ ts. IsApart floor n (untold_all ts)) (sym adds.grows)
    (apart-behind floor n u.mark v.mark v.told adds.more starts le (all-between u v none a) (λ z. from-marks z (floor z) adds.more (adds.from z))))

module _ {T : Type 0} (starts : T → ℕ) (short : T → Bool) (view : T → LaneView) (Same : T → T → Type 0) (counts : (a b : T) → Same a b → starts a ≡ starts b) (advances : (a b : T) → Same a b → Advances (view a) (view b)) where
  -- all that lanes know
  abbrev total_of : List T → Word → ℕ
  total_of [] x = 0
  total_of (w ∷ ws) x = (view w).mark x + total_of ws x

  alone-each : (floor : Word → ℕ) (xs zs : List T) → ((x : Word) → total_of zs x ≤ floor x) → AreReady (λ w. short w ≡ false) zs → AreReady (λ w. short w ≡ false → IsStartAlone (starts w) (untold_all (view w).told)) zs
      → AreReady (λ w. (view w).told ≡ []) xs → SameEach Same xs zs → AreReady (λ w. IsApart floor (starts w) (untold_all (view w).told)) zs
  alone-each floor [] [] le long alone none same = tt
  alone-each floor (x ∷ xs) (z ∷ zs) le long alone none same = (
    alone-one floor (starts z) (view x) (view z) (alone.0 long.0) none.0 (advances x z same.0) (λ y. let k = le y in omega (arith, k)),
    alone-each floor xs zs (λ y. let k = le y in omega (arith, k)) long.1 alone.1 none.1 same.1,
  )
  alone-each floor [] (z ∷ zs) le long alone none same = absurd same
  alone-each floor (x ∷ xs) [] le long alone none same = absurd same

  behind-each : (floor : Word → ℕ) (xs ys zs : List T) → AreReady (λ w. (view w).told ≡ []) xs → SameEach Same xs ys → SameEach Same ys zs → AreReady (λ w. AreStarts (starts w) (untold_all (view w).told)) ys
      → AllUnder view floor ys → AllAdd view floor ys zs → AreReady (λ w. IsApart floor (starts w) (untold_all (view w).told)) zs
  behind-each floor [] [] [] none one two started under adds = tt
  behind-each floor (x ∷ xs) (y ∷ ys) (z ∷ zs) none one two started under adds = (
    behind-one floor (starts y) (starts z) (view x) (view y) (view z) (counts y z two.0) started.0 none.0 (advances x y one.0) under.0 adds.0,
    behind-each floor xs ys zs none.1 one.1 two.1 started.1 under.1 adds.1,
  )
  behind-each floor [] (y ∷ ys) zs none one two started under adds = absurd one
  behind-each floor (x ∷ xs) [] zs none one two started under adds = absurd one
  behind-each floor [] [] (z ∷ zs) none one two started under adds = absurd two
  behind-each floor (x ∷ xs) (y ∷ ys) [] none one two started under adds = absurd two

  pub apart-each : (xs zs : List T) → AreReady (λ w. (view w).told ≡ []) xs → SameEach Same xs zs → AreReady (λ w. short w ≡ false) zs
      → StartFirst view (λ w. short w ≡ false → IsStartAlone (starts w) (untold_all (view w).told)) (λ w. AreStarts (starts w) (untold_all (view w).told)) Same xs zs → AreAllApart starts view zs
  apart-each xs zs none same long (inl alone) = record { floor = total_of zs; each = alone-each (total_of zs) xs zs (λ x. omega arith) long alone none same }
  apart-each xs zs none same long (inr went) = record { floor = went.floor.floor; each = behind-each went.floor.floor xs went.between zs none went.before went.behind went.started went.floor.under went.floor.adds }
