-- The log of a world: it has each lane whole, and grows at its end.
use Rattle.std.proofs.Common.{◌≡◌, ◌≢◌, ℕ, zero, suc, ◌+◌, ◌<◌, ◌==◌, Bool, true, false, cond, List, [], ◌∷◌, ◌++◌, length, map, take, drop, slice_set, refl, sym, ◌∙◌, ap, subst, arith, length-append}
use Rattle.std.specs.List.{filter}
use Rattle.std.proofs.lemmas.Bool.{eqb-true, eqb-false}
use Rattle.std.proofs.lemmas.Bool.Decides.{nat_tests}
use Rattle.qp_model.specs.declared.record.Rec.{Rec}
use Rattle.qp_model.specs.Record.{item_of}
use Rattle.qp_model.specs.OneOrder.{Placed, items_placed}
use Rattle.qp_model.specs.History.{lane_items}
use Rattle.qp_model.proofs.ListLemmas.{slice_set-twice}
use Rattle.qp_calls.specs.Counting.{one_if, times}
use Rattle.qp_plain_sound.specs.Log.{lane_recs, first_placed, log_of, Orders, with_record}
use Rattle.qp_plain_sound.specs.Step.{Grown}
use Rattle.qp_plain_sound.proofs.Times.{times-append}

-- Places of lists.

set-swap : {X : Type 0} (xs : List X) (i j : ℕ) (x y : X) → i ≢ j → slice_set (slice_set xs i x) j y ≡ slice_set (slice_set xs j y) i x
set-swap [] i j x y differ = refl
set-swap (z ∷ zs) zero zero x y differ = absurd (differ refl)
set-swap (z ∷ zs) zero (suc j) x y differ = refl
set-swap (z ∷ zs) (suc i) zero x y differ = refl
set-swap (z ∷ zs) (suc i) (suc j) x y differ = ap (λ ws. z ∷ ws) (set-swap zs i j x y (λ e. differ (ap suc e)))

length-set_at : {X : Type 0} (xs : List X) (i : ℕ) (x : X) → length (slice_set xs i x) ≡ length xs
length-set_at [] i x = refl
length-set_at (z ∷ zs) zero x = refl
length-set_at (z ∷ zs) (suc i) x = ap suc (length-set_at zs i x)

pub lane-set_same : (lanes : List (List Rec)) (a : ℕ) (l : List Rec) → a < length lanes → lane_recs (slice_set lanes a l) a ≡ l
lane-set_same [] a l lt = absurd (omega (arith, lt))
lane-set_same (x ∷ xs) zero l lt = refl
lane-set_same (x ∷ xs) (suc a) l lt = lane-set_same xs a l (omega (arith, lt))

pub lane-set_other : (lanes : List (List Rec)) (a k : ℕ) (l : List Rec) → k ≢ a → lane_recs (slice_set lanes a l) k ≡ lane_recs lanes k
lane-set_other [] a k l differ = refl
lane-set_other (x ∷ xs) zero zero l differ = absurd (differ refl)
lane-set_other (x ∷ xs) zero (suc k) l differ = refl
lane-set_other (x ∷ xs) (suc a) zero l differ = refl
lane-set_other (x ∷ xs) (suc a) (suc k) l differ = lane-set_other xs a k l (λ e. differ (ap suc e))

-- a lane that has a record is there
pub lane-there : (lanes : List (List Rec)) (a : ℕ) → 0 < length (lane_recs lanes a) → a < length lanes
lane-there [] a some = absurd (omega (arith, some))
lane-there (x ∷ xs) zero some = omega arith
lane-there (x ∷ xs) (suc a) some = let k = lane-there xs a some in omega (arith, k)

-- The first record of a lane goes, and the order's first name with it.
module _ (lanes : List (List Rec)) (x : ℕ) (order : List ℕ) (orders : Orders lanes (x ∷ order)) where
  abbrev pub without_first : List (List Rec)
  without_first = slice_set lanes x (drop 1 (lane_recs lanes x))

  pub some-first : 0 < length (lane_recs lanes x)
  unfolding times
  some-first = let n = orders x in let z : one_if (x == x) ≡ 1 = rw (yes x) refl in omega (arith, n, z)
    where
      yes : (n : ℕ) → (n == n) ≡ true
      yes n = grind (arith, nat_tests)

  pub orders-rest : Orders without_first order
  unfolding times
  orders-rest a = go (x == a) refl
    where
      shorter : (l : List Rec) → 0 < length l → length (drop 1 l) + 1 ≡ length l
      shorter [] some = absurd (omega (arith, some))
      shorter (r ∷ rs) some = omega arith

      go : (u : Bool) → (x == a) ≡ u → times (λ y. y == a) order ≡ length (lane_recs without_first a)
      go true e =
          let is : x ≡ a = eqb-true x a e in
          let n = orders a in
          let z : one_if (x == a) ≡ 1 = rw e refl in
          let now : lane_recs without_first a ≡ drop 1 (lane_recs lanes x) = ap (lane_recs without_first) (sym is) ∙ lane-set_same lanes x (drop 1 (lane_recs lanes x)) (lane-there lanes x some-first) in
          let less = shorter (lane_recs lanes x) some-first in
          let same : length (lane_recs lanes a) ≡ length (lane_recs lanes x) = ap (λ k. length (lane_recs lanes k)) (sym is) in
          rw now (omega (arith, n, z, less, same))
      go false e =
          let n = orders a in
          let z : one_if (x == a) ≡ 0 = rw e refl in
          let now : lane_recs without_first a ≡ lane_recs lanes a = lane-set_other lanes x a (drop 1 (lane_recs lanes x)) (λ k. eqb-false x a e (sym k)) in
          rw now (omega (arith, n, z))

-- With one more record at the end of a lane, the log has it at its end: the first record of lane x stays the first.
module _ (lanes : List (List Rec)) (x : ℕ) (order : List ℕ) (orders : Orders lanes (x ∷ order)) (at : ℕ) (r : Rec)
    (later : log_of (with_record (without_first lanes x order orders) at r) (order ++ at ∷ []) ≡ log_of (without_first lanes x order orders) order ++ record { lane = at; item = item_of r } ∷ []) where
  abbrev rest : List (List Rec)
  rest = without_first lanes x order orders

  abbrev whole : List Rec
  whole = lane_recs lanes x

  first_more : (l : List Rec) (others more : List Placed) → others ≡ more ++ record { lane = at; item = item_of r } ∷ []
      → first_placed x l others ≡ first_placed x l more ++ record { lane = at; item = item_of r } ∷ []
  first_more [] others more e = e
  first_more (y ∷ ys) others more e = ap (λ zs. record { lane = x; item = item_of y } ∷ zs) e

  first_longer : (l : List Rec) (others : List Placed) → 0 < length l → first_placed x (l ++ r ∷ []) others ≡ first_placed x l others
  first_longer [] others some = absurd (omega (arith, some))
  first_longer (y ∷ ys) others some = refl

  drop_longer : (l : List Rec) → 0 < length l → drop 1 (l ++ r ∷ []) ≡ drop 1 l ++ r ∷ []
  drop_longer [] some = absurd (omega (arith, some))
  drop_longer (y ∷ ys) some = refl

  some : 0 < length whole
  some = some-first lanes x order orders

  there : x < length lanes
  there = lane-there lanes x some

  -- the lane of the record is the first one
  lane_here : lane_recs (with_record lanes x r) x ≡ whole ++ r ∷ []
  lane_here = lane-set_same lanes x (whole ++ r ∷ []) there

  lanes_here : slice_set (with_record lanes x r) x (drop 1 (whole ++ r ∷ [])) ≡ with_record rest x r
  lanes_here =
      let front : lane_recs rest x ≡ drop 1 whole = lane-set_same lanes x (drop 1 whole) there in
      slice_set-twice lanes x (whole ++ r ∷ []) (drop 1 (whole ++ r ∷ []))
      ∙ ap (slice_set lanes x) (drop_longer whole some)
      ∙ sym (ap (λ l. slice_set rest x (l ++ r ∷ [])) front ∙ slice_set-twice lanes x (drop 1 whole) (drop 1 whole ++ r ∷ []))

  -- or another one
  lane_elsewhere : x ≢ at → lane_recs (with_record lanes at r) x ≡ whole
  lane_elsewhere differ = lane-set_other lanes at x (lane_recs lanes at ++ r ∷ []) differ

  lanes_elsewhere : x ≢ at → slice_set (with_record lanes at r) x (drop 1 whole) ≡ with_record rest at r
  lanes_elsewhere differ =
      let kept : lane_recs rest at ≡ lane_recs lanes at = lane-set_other lanes x at (drop 1 whole) (λ e. differ (sym e)) in
      set-swap lanes at x (lane_recs lanes at ++ r ∷ []) (drop 1 whole) (λ e. differ (sym e))
      ∙ sym (ap (λ l. slice_set rest at (l ++ r ∷ [])) kept)

  grown_here : (now : List (List Rec)) → now ≡ with_record rest at r
      → first_placed x (whole ++ r ∷ []) (log_of now (order ++ at ∷ [])) ≡ first_placed x whole (log_of rest order) ++ record { lane = at; item = item_of r } ∷ []
  grown_here now is = ap (λ z. first_placed x (whole ++ r ∷ []) (log_of z (order ++ at ∷ []))) is ∙ first_longer whole _ some ∙ first_more whole _ _ later

  log-cons : log_of (with_record lanes at r) (x ∷ order ++ at ∷ []) ≡ log_of lanes (x ∷ order) ++ record { lane = at; item = item_of r } ∷ []
  unfolding log_of
  log-cons = go (x == at) refl
    where
      go : (u : Bool) → (x == at) ≡ u
          → first_placed x (lane_recs (with_record lanes at r) x) (log_of (slice_set (with_record lanes at r) x (drop 1 (lane_recs (with_record lanes at r) x))) (order ++ at ∷ []))
          ≡ first_placed x whole (log_of rest order) ++ record { lane = at; item = item_of r } ∷ []
      go true e =
          let is : x ≡ at = eqb-true x at e in
          let one_lane : lane_recs (with_record lanes at r) x ≡ whole ++ r ∷ [] = subst (λ k. lane_recs (with_record lanes k r) x ≡ whole ++ r ∷ []) is lane_here in
          let all_lanes : slice_set (with_record lanes at r) x (drop 1 (whole ++ r ∷ [])) ≡ with_record rest at r =
          subst (λ k. slice_set (with_record lanes k r) x (drop 1 (whole ++ r ∷ [])) ≡ with_record rest k r) is lanes_here in
          ap (λ l. first_placed x l (log_of (slice_set (with_record lanes at r) x (drop 1 l)) (order ++ at ∷ []))) one_lane
          ∙ grown_here (slice_set (with_record lanes at r) x (drop 1 (whole ++ r ∷ []))) all_lanes
      go false e =
          let differ = eqb-false x at e in
          ap (λ l. first_placed x l (log_of (slice_set (with_record lanes at r) x (drop 1 l)) (order ++ at ∷ []))) (lane_elsewhere differ)
          ∙ ap (λ z. first_placed x whole (log_of z (order ++ at ∷ []))) (lanes_elsewhere differ)
          ∙ first_more whole _ _ later

log-more : (lanes : List (List Rec)) (order : List ℕ) (at : ℕ) (r : Rec) → Orders lanes order → at < length lanes
    → log_of (with_record lanes at r) (order ++ at ∷ []) ≡ log_of lanes order ++ record { lane = at; item = item_of r } ∷ []
unfolding log_of times
log-more lanes [] at r orders lt =
    let empty : length (lane_recs lanes at) ≡ 0 = sym (orders at) in
    let now : lane_recs (with_record lanes at r) at ≡ lane_recs lanes at ++ r ∷ [] = lane-set_same lanes at (lane_recs lanes at ++ r ∷ []) lt in
    rw now (none (lane_recs lanes at) empty)
  where
    none : (l : List Rec) → length l ≡ 0 → first_placed at (l ++ r ∷ []) [] ≡ record { lane = at; item = item_of r } ∷ []
    none [] e = refl
    none (x ∷ xs) e = absurd (omega (arith, e))
log-more lanes (x ∷ order) at r orders lt =
    log-cons lanes x order orders at r
    (log-more (without_first lanes x order orders) order at r (orders-rest lanes x order orders) (rw (length-set_at lanes x (drop 1 (lane_recs lanes x))) lt))

pub log-grows : (lanes more : List (List Rec)) (order longer : List ℕ) (at : ℕ) (r : Rec) → Orders lanes order → Grown lanes order at r more longer
    → log_of more longer ≡ log_of lanes order ++ record { lane = at; item = item_of r } ∷ []
log-grows lanes more order longer at r orders grown = rw (grown.lanes_are, grown.order_is) (log-more lanes order at r orders grown.within)

-- the order still names each lane as often as it has records
pub orders-more : (lanes : List (List Rec)) (order : List ℕ) (at : ℕ) (r : Rec) → Orders lanes order → at < length lanes → Orders (with_record lanes at r) (order ++ at ∷ [])
unfolding times
orders-more lanes order at r orders lt a = go (at == a) refl
  where
    go : (u : Bool) → (at == a) ≡ u → times (λ x. x == a) (order ++ at ∷ []) ≡ length (lane_recs (with_record lanes at r) a)
    go true e =
        let is : at ≡ a = eqb-true at a e in
        let now : lane_recs (with_record lanes at r) a ≡ lane_recs lanes at ++ r ∷ [] = ap (lane_recs (with_record lanes at r)) (sym is) ∙ lane-set_same lanes at (lane_recs lanes at ++ r ∷ []) lt in
        let same : length (lane_recs lanes a) ≡ length (lane_recs lanes at) = ap (λ k. length (lane_recs lanes k)) (sym is) in
        let z : one_if (at == a) ≡ 1 = rw e refl in
        let split = times-append (λ x. x == a) order (at ∷ []) in
        let n = orders a in
        let long = length-append (lane_recs lanes at) (r ∷ []) in
        rw now (omega (arith, z, split, n, same, long))
    go false e =
        let now : lane_recs (with_record lanes at r) a ≡ lane_recs lanes a = lane-set_other lanes at a (lane_recs lanes at ++ r ∷ []) (λ k. eqb-false at a e (sym k)) in
        let z : one_if (at == a) ≡ 0 = rw e refl in
        let split = times-append (λ x. x == a) order (at ∷ []) in
        let n = orders a in
        rw now (omega (arith, z, split, n))

-- Each lane is what the log has of it.
pub lanes-log : (lanes : List (List Rec)) (order : List ℕ) → Orders lanes order → (a : ℕ) → items_placed (filter (λ x. x.lane == a) (log_of lanes order)) ≡ lane_items (lane_recs lanes a)
unfolding log_of times lane_items
lanes-log lanes [] orders a = none (lane_recs lanes a) (sym (orders a))
  where
    none : (l : List Rec) → length l ≡ 0 → [] ≡ map item_of l
    none [] e = refl
    none (x ∷ xs) e = absurd (omega (arith, e))
lanes-log lanes (x ∷ order) orders a =
    go (lane_recs lanes x) refl (some-first lanes x order orders) (lanes-log (without_first lanes x order orders) order (orders-rest lanes x order orders) a)
  where
    go : (l : List Rec) → lane_recs lanes x ≡ l → 0 < length l
        → items_placed (filter (λ y. y.lane == a) (log_of (without_first lanes x order orders) order)) ≡ map item_of (lane_recs (without_first lanes x order orders) a)
        → items_placed (filter (λ y. y.lane == a) (first_placed x l (log_of (without_first lanes x order orders) order))) ≡ map item_of (lane_recs lanes a)
    go [] e some later = absurd (omega (arith, some))
    go (r ∷ rs) e some later = split (x == a) refl
      where
        split : (u : Bool) → (x == a) ≡ u
            → items_placed (cond u (record { lane = x; item = item_of r } ∷ filter (λ y. y.lane == a) (log_of (without_first lanes x order orders) order)) (filter (λ y. y.lane == a) (log_of (without_first lanes x order orders) order)))
            ≡ map item_of (lane_recs lanes a)
        split true k =
            let is : x ≡ a = eqb-true x a k in
            let rest : lane_recs (without_first lanes x order orders) a ≡ rs =
            ap (lane_recs (without_first lanes x order orders)) (sym is) ∙ lane-set_same lanes x (drop 1 (lane_recs lanes x)) (lane-there lanes x (some-first lanes x order orders)) ∙ ap (drop 1) e in
            let whole : lane_recs lanes a ≡ r ∷ rs = ap (lane_recs lanes) (sym is) ∙ e in
            rw whole (ap (λ zs. item_of r ∷ zs) (later ∙ ap (map item_of) rest))
        split false k =
            let kept : lane_recs (without_first lanes x order orders) a ≡ lane_recs lanes a = lane-set_other lanes x a (drop 1 (lane_recs lanes x)) (λ e. eqb-false x a k (sym e)) in
            later ∙ ap (map item_of) kept

-- The lanes around the one that grows.
pub lanes-split : (lanes : List (List Rec)) (at : ℕ) → at < length lanes → lanes ≡ take at lanes ++ lane_recs lanes at ∷ drop (suc at) lanes
lanes-split [] at lt = absurd (omega (arith, lt))
lanes-split (x ∷ xs) zero lt = refl
lanes-split (x ∷ xs) (suc at) lt = ap (λ ys. x ∷ ys) (lanes-split xs at (omega (arith, lt)))

pub lanes-grown : (lanes : List (List Rec)) (at : ℕ) (l : List Rec) → at < length lanes → slice_set lanes at l ≡ take at lanes ++ l ∷ drop (suc at) lanes
lanes-grown [] at l lt = absurd (omega (arith, lt))
lanes-grown (x ∷ xs) zero l lt = refl
lanes-grown (x ∷ xs) (suc at) l lt = ap (λ ys. x ∷ ys) (lanes-grown xs at l (omega (arith, lt)))
