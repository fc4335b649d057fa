-- Parts of a turn, one behind another.
use Rattle.std.proofs.Common.{◌≡◌, ◌⊎◌, ℕ, ◌+◌, ◌<◌, ◌%◌, ◌^◌, min, Bool, true, false, ◌||◌, List, [], ◌∷◌, ◌++◌, refl, sym, ◌∙◌, ap, subst, inl, inr, arith, append_assoc, append-nil}
use Rattle.qp_model.specs.Told.{ToldItem}
use Rattle.qp_port_lanes.specs.Takes.{AddsEmpty, AddsNoTake, AddsTook}
use Rattle.qp_wait_bells.specs.Tallies.{one_where}
use Rattle.qp_wait.specs.Wrapped.{ringing_view}
use Rattle.qp_wait.specs.declared.lane.BellLane.{BellLane}
use Rattle.qp_wait.specs.Lane.{SaysOne, bell_view}
use Rattle.qp_wait.specs.Parked.{parks_of}
use Rattle.qp_wait.specs.Pausing.{HasParkedAt, LaneRests}
use Rattle.qp_wait.specs.Steps.{FinishesNone, FinishesOne, KeepsCounts}
use Rattle.qp_wait.specs.Waiting.{IsWaiting, Waits, holds_place, is_nil_at, steps_in}
use Rattle.qp_wait.proofs.Nils.{AreParked, Begins, begins-empty, begins-none, begins-then, begins-took, empty-last, empty-parked, nil-inside, parked-none, parked-took, steps-append}

-- at least one was the last
left-more : (said last : Bool) (n : ℕ) → one_where said ≡ min n 1 → one_where (said || last) ≡ min (n + one_where last) 1
left-more true true n is = omega (arith, is)
left-more true false n is = omega (arith, is)
left-more false true n is = omega (arith, is)
left-more false false n is = omega (arith, is)

-- A turn begins.
pub waiting-none : (x : BellLane) → IsWaiting false x x
waiting-none x = record {
  ts = [];
  told = sym (append-nil (bell_view x).told);
  ended = omega arith;
  added = refl;
  looks = refl;
  left = 0;
  lasts = omega arith;
  once = refl;
  said_is = omega arith;
  ks = [];
  parks = sym (append-nil (parks_of x.perch));
  nils = λ n most is. let less = nil-inside (bell_view x).told n is in absurd (omega (arith, most, less));
}

module _ (x y : BellLane) (said : Bool) (h : IsWaiting said x y) where
  -- More records.
  module _ (n : ℕ) (new : List ToldItem) (b : Begins n (bell_view y).told new) where
    told-all : new ≡ (bell_view x).told ++ (h.ts ++ b.ts)
    told-all = b.told ∙ ap (λ l. l ++ b.ts) h.told ∙ append_assoc (bell_view x).told h.ts b.ts

    steps-all : steps_in (h.ts ++ b.ts) ≡ steps_in h.ts + n
    steps-all = let both = steps-append h.ts b.ts in let more = b.steps in omega (arith, both, more)

  -- A step began.
  module _ (z w : BellLane) (took : AddsTook (bell_view y).told (bell_view z).told) (keeps : KeepsCounts y z) (none : AddsNoTake (bell_view z).told (bell_view w).told) where
    both : Begins 1 (bell_view y).told (bell_view w).told
    both = begins-then 1 0 (bell_view y).told (bell_view z).told (bell_view w).told (begins-took (bell_view y).told (bell_view z).told took) (begins-none (bell_view z).told (bell_view w).told none)

    parked : AreParked (bell_view x).told h.ks (bell_view w).told
    parked =
        subst (AreParked (bell_view x).told h.ks) (sym none.told)
        (parked-none (bell_view x).told h.ks (bell_view z).told none.ts
        (subst (AreParked (bell_view x).told h.ks) (sym took.told) (parked-took (bell_view x).told h.ks (bell_view y).told took.t h.nils took.took)) none.none)

    -- and came to its end
    pub waiting-step : (now : Bool) → FinishesOne said now z w → IsWaiting now x w
    waiting-step now closes = record {
      ts = h.ts ++ both.ts;
      told = told-all 1 (bell_view w).told both;
      ended =
          let first = h.ended in
          let same = keeps.ended in
          let one = closes.ended in
          let all = steps-all 1 (bell_view w).told both in
          omega (arith, first, same, one, all);
      added = closes.added ∙ keeps.added ∙ h.added;
      looks = closes.looks ∙ keeps.looks ∙ h.looks;
      left = h.left + one_where closes.last;
      lasts =
          let first = h.lasts in
          let same = keeps.lasts in
          let more = closes.lasts in
          omega (arith, first, same, more);
      once = once-now;
      said_is =
          let first = h.said_is in
          let same = keeps.said in
          let more = closes.said in
          let before = h.once in
          let now_first = closes.first in
          omega (arith, first, same, more, before, now_first, once-now);
      ks = h.ks;
      parks = ap parks_of closes.perch ∙ ap parks_of keeps.perch ∙ h.parks;
      nils = parked;
    }
      where
        once-now : one_where now ≡ min (h.left + one_where closes.last) 1
        once-now = ap one_where closes.so_far ∙ left-more said closes.last h.left h.once

    -- or it didn't
    pub waits-within : (now : Bool) → FinishesNone said now z w → Waits false true 0 x w
    waits-within now cut = record {
      ts = h.ts ++ both.ts;
      told = told-all 1 (bell_view w).told both;
      finished = steps_in h.ts;
      steps = sym (steps-all 1 (bell_view w).told both);
      ended =
          let first = h.ended in
          let same = keeps.ended in
          let more = cut.keeps.ended in
          omega (arith, first, same, more);
      added = cut.keeps.added ∙ keeps.added ∙ h.added;
      looks =
          let first = h.looks in
          let same = keeps.looks in
          let more = cut.keeps.looks in
          omega (arith, first, same, more);
      left = h.left;
      lasts = cut.keeps.lasts ∙ keeps.lasts ∙ h.lasts;
      said =
          let first = h.said_is in
          let same = keeps.said in
          let more = cut.keeps.said in
          omega (arith, first, same, more);
      ks = h.ks;
      parks = ap parks_of cut.keeps.perch ∙ ap parks_of keeps.perch ∙ h.parks;
      nils = λ n most at. inl (parked n most at);
    }

  -- The run stops where a step would begin.
  pub waits-before : (z : BellLane) → AddsNoTake (bell_view y).told (bell_view z).told → KeepsCounts y z → Waits false false 0 x z
  waits-before z none keeps =
      let b = begins-none (bell_view y).told (bell_view z).told none in
      let all = steps-all 0 (bell_view z).told b in
      record {
        ts = h.ts ++ b.ts;
        told = told-all 0 (bell_view z).told b;
        finished = steps_in (h.ts ++ b.ts);
        steps = omega arith;
        ended =
            let first = h.ended in
            let same = keeps.ended in
            omega (arith, first, same, all);
        added = keeps.added ∙ h.added;
        looks =
            let first = h.looks in
            let same = keeps.looks in
            omega (arith, first, same);
        left = h.left;
        lasts = keeps.lasts ∙ h.lasts;
        said =
            let first = h.said_is in
            let same = keeps.said in
            omega (arith, first, same);
        ks = h.ks;
        parks = ap parks_of keeps.perch ∙ h.parks;
        nils = λ n most at. inl (subst (AreParked (bell_view x).told h.ks) (sym none.told) (parked-none (bell_view x).told h.ks (bell_view y).told none.ts h.nils none.none) n most at);
      }

  -- The queue was found empty.
  module _ (z w : BellLane) (me : ℕ) (e : AddsEmpty me (bell_view y).told (bell_view z).told) (keeps : KeepsCounts y z) where
    more : Begins 0 (bell_view y).told (bell_view z).told
    more = begins-empty me (bell_view y).told (bell_view z).told e

    parks-all : parks_of z.perch ≡ parks_of x.perch ++ h.ks
    parks-all = ap parks_of keeps.perch ∙ h.parks

    -- it parked
    pub waiting-parked : HasParkedAt me z w → IsWaiting said x w
    waiting-parked p =
        let all = steps-all 0 (bell_view z).told more in
        record {
          ts = h.ts ++ more.ts;
          told = p.told ∙ told-all 0 (bell_view z).told more;
          ended =
              let first = h.ended in
              let same = keeps.ended in
              let still = p.rests.ended in
              omega (arith, first, same, still, all);
          added = p.rests.added ∙ keeps.added ∙ h.added;
          looks =
              let first = h.looks in
              let same = keeps.looks in
              let still = p.rests.looks in
              omega (arith, first, same, still);
          left = h.left;
          lasts = p.rests.lasts ∙ keeps.lasts ∙ h.lasts;
          once = h.once;
          said_is =
              let first = h.said_is in
              let same = keeps.said in
              let still = p.rests.said in
              omega (arith, first, same, still);
          ks = h.ks ++ p.place ∷ [];
          parks = p.parks ∙ ap (λ ks. ks ++ p.place ∷ []) parks-all ∙ append_assoc (parks_of x.perch) h.ks (p.place ∷ []);
          nils = λ n most at.
              empty-parked (bell_view x).told h.ks me (bell_view y).told (bell_view z).told h.nils e p.place p.look p.last n most (ap (λ ts. is_nil_at ts n) (sym p.told) ∙ at);
        }

    -- or the turn is over, or stops
    pub waits-behind : (over : Bool) → (bell_view w).told ≡ (bell_view z).told → LaneRests over z w → parks_of w.perch ≡ parks_of z.perch → Waits over false 0 x w
    waits-behind over told rests parks =
        let all = steps-all 0 (bell_view z).told more in
        record {
          ts = h.ts ++ more.ts;
          told = told ∙ told-all 0 (bell_view z).told more;
          finished = steps_in (h.ts ++ more.ts);
          steps = omega arith;
          ended =
              let first = h.ended in
              let same = keeps.ended in
              let still = rests.ended in
              omega (arith, first, same, still, all);
          added = rests.added ∙ keeps.added ∙ h.added;
          looks =
              let first = h.looks in
              let same = keeps.looks in
              let still = rests.looks in
              omega (arith, first, same, still);
          left = h.left;
          lasts = rests.lasts ∙ keeps.lasts ∙ h.lasts;
          said =
              let first = h.said_is in
              let same = keeps.said in
              let still = rests.said in
              omega (arith, first, same, still);
          ks = h.ks;
          parks = parks ∙ parks-all;
          nils = λ n most at. last n (empty-last (bell_view x).told h.ks me (bell_view y).told (bell_view z).told h.nils e n most (subst (λ ts. is_nil_at ts n ≡ true) told at));
        }
      where
        last : (n : ℕ) → (holds_place h.ks n ≡ true) ⊎ ((k : ℕ) → n < k → is_nil_at (bell_view z).told k ≡ false) → (holds_place h.ks n ≡ true) ⊎ ((k : ℕ) → n < k → is_nil_at (bell_view w).told k ≡ false)
        last n (inl a) = inl a
        last n (inr b) = inr (λ k less. ap (λ ts. is_nil_at ts k) told ∙ b k less)

-- One farewell more.
pub waits-said : (busy : Bool) (x y w : BellLane) → Waits false busy 0 x y → SaysOne y w → Waits false busy 1 x w
waits-said busy x y w h says = record {
  ts = h.ts;
  told = same ∙ h.told;
  finished = h.finished;
  steps = h.steps;
  ended = ap (λ c. c.ended % 2 ^ 64) says.closings ∙ h.ended;
  added = ap (λ c. c.seat.me.0.added) says.closings ∙ h.added;
  looks = ap (λ c. c.seat.me.0.empty_looks) says.closings ∙ h.looks;
  left = h.left;
  lasts = ap (λ c. c.seat.me.0.last_takes) says.closings ∙ h.lasts;
  said =
      let first = h.said in
      let one = says.said in
      omega (arith, first, one);
  ks = h.ks;
  parks = ap parks_of says.perch ∙ h.parks;
  nils = λ n most at. last n (h.nils n most (ap (λ ts. is_nil_at ts n) (sym same) ∙ at));
}
  where
    same : (bell_view w).told ≡ (bell_view y).told
    same = ap (λ r. (ringing_view r).told) says.ringing

    last : (n : ℕ) → (holds_place h.ks n ≡ true) ⊎ ((k : ℕ) → n < k → is_nil_at (bell_view y).told k ≡ false) → (holds_place h.ks n ≡ true) ⊎ ((k : ℕ) → n < k → is_nil_at (bell_view w).told k ≡ false)
    last n (inl a) = inl a
    last n (inr b) = inr (λ k less. ap (λ ts. is_nil_at ts k) same ∙ b k less)
