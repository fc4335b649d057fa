-- Seats are given and joined; the start, and the end.
use Rattle.std.proofs.Common.{◌≡◌, ℕ, zero, suc, ◌+◌, ◌<◌, ◌≤◌, ◌≢◌, Bool, true, false, cond, List, [], ◌∷◌, ◌++◌, length, map, set, get_or, replicate, refl, sym, ap, subst, ◌∙◌, ⊎_elim, arith, eqb, eqb-true, length-append}
use mathlib.Core.Option.{some, some-injective, some-ne-none}
use lib.ListN.{get_elem?}
use Rattle.atomic_table.proofs.Lists.{at_snoc, at_map, set_else}
use Rattle.qp_chart.specs.StateTree.{has}
use Rattle.qp_model.specs.declared.systems.System.{System}
use Rattle.qp_model.specs.declared.words.Word.TheVariants as word
use Rattle.qp_model.specs.Lists.{count_up}
use Rattle.qp_model.specs.Subscribers.{subscribers}
use Rattle.qp_model.specs.TimeEvents.{time_event}
use Rattle.qp_model.proofs.BeginningLemmas.{held-first}
use Rattle.qp_table.specs.Counting.{Each, sum_over, many, without}
use Rattle.qp_table.specs.Rule.{is_log, is_number, is_serve, mark_in, Logs}
use Rattle.qp_table.specs.After.{empty_view, passing, failing}
use Rattle.qp_table.specs.declared.view.SeatLog.{SeatLog}
use Rattle.qp_table.specs.declared.view.Glance.{Glance}
use Rattle.qp_table.specs.declared.view.Serve.{Serve}
use Rattle.qp_table.specs.declared.view.View.{View}
use Rattle.qp_table.proofs.Counting.{total-set, total-at, total-snoc, each-map, many-le, many-without, alone-total}
use Rattle.qp_table.proofs.Views.{total-two, SawFrom}
use Rattle.qp_plain_words.specs.Sets.{are_members}
use Rattle.qp_table.specs.First.{first_serves}
use Rattle.qp_table.proofs.Ends.{lane-once, replicate-get, replicate-each}
use Rattle.qp_table.proofs.Start.{object-within, serves-once}
use Rattle.qp_side.specs.Rule.{signal_at, timer_at, SideFitting, SideNow, AreSubscribers, KnowsItsOwn, SideHolds, views_of, member_from, member_in}
use Rattle.qp_side.specs.Told.{root_less, seat_with, served_by, both_of, no_seat, side_root}
use Rattle.qp_side.specs.Laws.{SeatsAreGiven, SeatsJoin, SideStarts, IsSideWhole, SideWholeIsKnown}
use Rattle.qp_side.specs.declared.view.SideView.{SideView}
use Rattle.qp_side.proofs.Places.{fits, signal-low, timer-low}
use Rattle.qp_side.proofs.StepLemmas.{at-view}
use Rattle.qp_table.proofs.Lanes.{each-append, many-append}

pub total-map : {A B : Type 0} (f : A → B) (g : B → ℕ) (xs : List A) → sum_over g (map f xs) ≡ sum_over (λ x. g (f x)) xs
total-map f g [] = refl
total-map f g (x ∷ xs) = ap (λ k. g (f x) + k) (total-map f g xs)

-- an element of a list that is mapped
pub from-map : {A B : Type 0} (f : A → B) (xs : List A) (i : ℕ) (y : B) → get_elem? (map f xs) i ≡ some y → (x : A) × (get_elem? xs i ≡ some x) × (f x ≡ y)
from-map f [] i y e = absurd (some-ne-none y (sym e))
from-map f (x ∷ xs) zero y e = (x, refl, some-injective (f x) y e)
from-map f (x ∷ xs) (suc i) y e = from-map f xs i y e

-- those that pass a test and those that don't are all
parted : (t u : Serve → Bool) (xs : List Serve) → many u (failing t xs) + many u (passing t xs) ≡ many u xs
parted t u [] = refl
parted t u (x ∷ xs) = go (t x) (parted t u xs)
  where
    go : (b : Bool) → many u (failing t xs) + many u (passing t xs) ≡ many u xs → many u (cond b (failing t xs) (x ∷ failing t xs)) + many u (cond b (x ∷ passing t xs) (passing t xs)) ≡ cond (u x) 1 0 + many u xs
    go true h = omega arith
    go false h = omega arith

pub fewer-one : (n : ℕ) (xs : List ℕ) → 0 < many (is_number n) xs → length (without (is_number n) xs) + 1 ≡ length xs
fewer-one n [] h = absurd (omega arith)
fewer-one n (x ∷ xs) h = go (is_number n x) h (fewer-one n xs)
  where
    go : (b : Bool) → 0 < cond b 1 0 + many (is_number n) xs → (0 < many (is_number n) xs → length (without (is_number n) xs) + 1 ≡ length xs) → length (cond b xs (x ∷ without (is_number n) xs)) + 1 ≡ suc (length xs)
    go true h r = omega arith
    go false h r = let z = r (omega arith) in omega arith

b2n : {x y : Bool} → x ≡ y → cond {A = ℕ} x 1 0 ≡ cond {A = ℕ} y 1 0
b2n e = ap (λ (b : Bool). cond {A = ℕ} b 1 0) e

-- one is taken out: there is one less of its number, and as many of others
pub less-one : (n k : ℕ) (xs : List ℕ) → 0 < many (is_number n) xs → many (is_number k) (without (is_number n) xs) + cond (eqb n k) 1 0 ≡ many (is_number k) xs
less-one n k xs h = many-without (is_number n) (is_number k) (eqb n k) (λ x e. ap (λ z. eqb z k) (eqb-true x n e)) xs h

-- A seat is given
module _ (sys : System) (words : List ℕ) (views : List SideView) (holds : SideHolds sys words views) (id : ℕ) (v : SideView) (at_id : get_elem? views id ≡ some v) (n : ℕ) (t : Serve → Bool) (few : n < 49) (mine : 0 < many (is_number n) v.view.lane_numbers) (bare : v.view.logs ≡ []) where
  abbrev root : SideView
  root = root_less n t v

  abbrev seat : SideView
  seat = seat_with n t v

  abbrev more : List SideView
  more = set views id root ++ seat ∷ []

  sums : (f : SideView → ℕ) → sum_over f more + f v ≡ sum_over f views + f root + f seat
  sums f = let a = total-set f views id v root at_id in let b = total-snoc f (set views id root) seat in omega arith

  each-more : (P : SideView → Type 0) → P root → P seat → ((j : ℕ) (x : SideView) → get_elem? views j ≡ some x → P x) → (j : ℕ) (x : SideView) → get_elem? more j ≡ some x → P x
  each-more P one two all j x e = ⊎_elim (λ (z : get_elem? (set views id root) j ≡ some x). fits P P views id root (λ i y ne there p. p) one all j x z) (λ (z : seat ≡ x). subst P z two) (at_snoc (set views id root) seat x j e)

  in-views : (P : View → Type 0) → ((j : ℕ) (x : SideView) → get_elem? more j ≡ some x → P x.view) → (j : ℕ) (y : View) → get_elem? (views_of more) j ≡ some y → P y
  in-views P all j y e = let z = from-map (λ (x : SideView). x.view) more j y e in subst P z.2 (all j z.0 z.1)

  total-views : (f : View → ℕ) → sum_over f (views_of more) ≡ sum_over (λ (x : SideView). f x.view) more
  total-views f = total-map (λ (x : SideView). x.view) f more

  total-before : (f : View → ℕ) → sum_over f (views_of views) ≡ sum_over (λ (x : SideView). f x.view) views
  total-before f = total-map (λ (x : SideView). x.view) f views

  sums-views : (f : View → ℕ) → sum_over f (views_of more) + f v.view ≡ sum_over f (views_of views) + f root.view + f seat.view
  sums-views f = let a = total-views f in let b = total-before f in let c = sums (λ x. f x.view) in omega arith

  some-there : 0 < sum_over (λ (x : View). many (is_number n) x.lane_numbers) (views_of views)
  some-there = let z = total-at (λ (x : View). many (is_number n) x.lane_numbers) (views_of views) id v.view (at-view sys words views holds id v at_id) in omega arith

  new-logs : Logs holds.lanes (views_of more)
  new-logs = record {
    count = holds.logs.count;
    own = in-views (λ x. Each (λ (g : SeatLog). get_elem? holds.lanes g.number ≡ some g.recs) x.logs)
        (each-more (λ x. Each (λ (g : SeatLog). get_elem? holds.lanes g.number ≡ some g.recs) x.view.logs) (holds.logs.own id v.view (at-view sys words views holds id v at_id)) (holds.logs.later n few some-there, tt)
        (λ j x e. holds.logs.own j x.view (at_map (λ (y : SideView). y.view) views j x e)));
    once = λ k l. let a = sums-views (λ x. many (is_log k) x.logs) in let b = sums-views (λ x. many (is_number k) x.lane_numbers) in let c = less-one n k v.view.lane_numbers mine in let o = holds.logs.once k l in omega arith;
    later = λ k l far. holds.logs.later k l (let b = sums-views (λ x. many (is_number k) x.lane_numbers) in let c = less-one n k v.view.lane_numbers mine in omega arith);
    rights = let a = sums-views (λ x. length x.logs + length x.lane_numbers) in let c = fewer-one n v.view.lane_numbers mine in let r = holds.logs.rights in omega arith;
    room = holds.logs.room;
  }

  pub gives : SideHolds sys words more
  unfolding member_from
  gives = let h = holds.stop in record {
    lanes = holds.lanes;
    now = holds.now;
    was = holds.was;
    fitting = holds.fitting;
    leaves = holds.leaves;
    shows = holds.shows;
    logs = new-logs;
    seen = record {
      now = holds.seen.now;
      each = in-views (λ x. Each (SawFrom words holds.was) x.seen)
          (each-more (λ x. Each (SawFrom words holds.was) x.view.seen) (holds.seen.each id v.view (at-view sys words views holds id v at_id)) tt (λ j x e. holds.seen.each j x.view (at_map (λ (y : SideView). y.view) views j x e)));
    };
    first = holds.first;
    serves = λ o. let a = sums (λ x. many (is_serve o) x.view.serves) in let p = parted t (is_serve o) v.view.serves in let s = holds.serves o in omega arith;
    home = each-more (KnowsItsOwn sys holds.now)
        (λ o s own is. holds.home id v at_id o s (let p = parted t (is_serve o) v.view.serves in omega arith) is)
        (λ o s own is. holds.home id v at_id o s (let p = parted t (is_serve o) v.view.serves in omega arith) is ∙ ap (member_in o s) bare)
        holds.home;
    idle = each-more (λ x. length x.view.logs ≡ 0 → x.stops ≡ []) (holds.idle id v at_id) (λ none. refl) holds.idle;
    stop = record {
      low = h.low;
      none = λ z. each-more (λ x. x.stops ≡ []) (h.none z id v at_id) refl (h.none z);
      some_seat = λ p. let a = h.some_seat p in let b = sums (λ x. many (eqb (get_or words 4488 0)) x.stops) in omega arith;
      found = each-more (λ x. Each (λ k. (k ≡ get_or words 4488 0) × (0 < get_or words 4488 0)) x.answered) (h.found id v at_id) tt h.found;
    };
  }

pub seats-given : SeatsAreGiven
seats-given sys words views holds id v at n t few mine bare = gives sys words views holds id v at n t few mine bare

-- The objects served: none more than before, and what the seat knows of them is by its own records.
served-le : (t : Serve → Bool) (logs : List SeatLog) (xs : List Serve) → many t (served_by logs xs) ≤ many t xs
served-le t [] xs = omega arith
served-le t (g ∷ gs) xs = omega arith

served-home : (o s : ℕ) (b : Bool) (logs more : List SeatLog) (xs : List Serve) → (0 < many (is_serve o) xs → b ≡ member_in o s logs) → 0 < many (is_serve o) (served_by logs xs) → b ≡ member_in o s (logs ++ more)
served-home o s b [] more xs h own = absurd (omega (arith, own))
served-home o s b (g ∷ gs) more xs h own = h own

-- A seat takes over another
module _ (sys : System) (words : List ℕ) (views : List SideView) (holds : SideHolds sys words views) (id : ℕ) (v : SideView) (at_id : get_elem? views id ≡ some v) (other : ℕ) (w : SideView) (apart : other ≢ id) (there : get_elem? (set views id (both_of v w)) other ≡ some w) where
  abbrev both : SideView
  both = both_of v w

  abbrev mid : List SideView
  mid = set views id both

  abbrev after : List SideView
  after = set mid other no_seat

  was-there : get_elem? views other ≡ some w
  was-there = sym (set_else views id other both apart) ∙ there

  both-sums : (f : SideView → ℕ) → sum_over f after + f v + f w ≡ sum_over f views + f both + f no_seat
  both-sums f = let a = total-set f views id v both at_id in let b = total-set f mid other w no_seat there in omega arith

  each-after : (P : SideView → Type 0) → P both → P no_seat → ((j : ℕ) (x : SideView) → get_elem? views j ≡ some x → P x) → (j : ℕ) (x : SideView) → get_elem? after j ≡ some x → P x
  each-after P one two all = fits P P mid other no_seat (λ j x ne e p. p) two (fits P P views id both (λ j x ne e p. p) one all)

  in-joined : (P : View → Type 0) → ((j : ℕ) (x : SideView) → get_elem? after j ≡ some x → P x.view) → (j : ℕ) (y : View) → get_elem? (views_of after) j ≡ some y → P y
  in-joined P all j y e = let z = from-map (λ (x : SideView). x.view) after j y e in subst P z.2 (all j z.0 z.1)

  joined-sums : (f : View → ℕ) → sum_over f (views_of after) + f v.view + f w.view ≡ sum_over f (views_of views) + f both.view + f empty_view
  joined-sums f = let a = total-map (λ (x : SideView). x.view) f after in let b = total-map (λ (x : SideView). x.view) f views in let c = both-sums (λ x. f x.view) in omega arith

  own-of : (j : ℕ) (x : SideView) → get_elem? views j ≡ some x → Each (λ (g : SeatLog). get_elem? holds.lanes g.number ≡ some g.recs) x.view.logs
  own-of j x e = holds.logs.own j x.view (at_map (λ (y : SideView). y.view) views j x e)

  seen-of : (j : ℕ) (x : SideView) → get_elem? views j ≡ some x → Each (SawFrom words holds.was) x.view.seen
  seen-of j x e = holds.seen.each j x.view (at_map (λ (y : SideView). y.view) views j x e)

  pub joins : SideHolds sys words after
  joins = let h = holds.stop in record {
    lanes = holds.lanes;
    now = holds.now;
    was = holds.was;
    fitting = holds.fitting;
    leaves = holds.leaves;
    shows = holds.shows;
    logs = record {
      count = holds.logs.count;
      own = in-joined (λ x. Each (λ (g : SeatLog). get_elem? holds.lanes g.number ≡ some g.recs) x.logs)
          (each-after (λ x. Each (λ (g : SeatLog). get_elem? holds.lanes g.number ≡ some g.recs) x.view.logs) (each-append (λ (g : SeatLog). get_elem? holds.lanes g.number ≡ some g.recs) v.view.logs w.view.logs (own-of id v at_id) (own-of other w was-there)) tt own-of);
      once = λ k l. let a = joined-sums (λ x. many (is_log k) x.logs) in let b = joined-sums (λ x. many (is_number k) x.lane_numbers) in let c = many-append (is_log k) v.view.logs w.view.logs in let d = many-append (is_number k) v.view.lane_numbers w.view.lane_numbers in let o = holds.logs.once k l in omega arith;
      later = λ k l far. holds.logs.later k l (let b = joined-sums (λ x. many (is_number k) x.lane_numbers) in let d = many-append (is_number k) v.view.lane_numbers w.view.lane_numbers in omega arith);
      rights = let a = joined-sums (λ x. length x.logs + length x.lane_numbers) in let c = length-append v.view.logs w.view.logs in let d = length-append v.view.lane_numbers w.view.lane_numbers in let r = holds.logs.rights in omega arith;
      room = holds.logs.room;
    };
    seen = record {
      now = holds.seen.now;
      each = in-joined (λ x. Each (SawFrom words holds.was) x.seen)
          (each-after (λ x. Each (SawFrom words holds.was) x.view.seen) (each-append (SawFrom words holds.was) v.view.seen w.view.seen (seen-of id v at_id) (seen-of other w was-there)) tt seen-of);
    };
    first = holds.first;
    serves = λ o. let a = both-sums (λ x. many (is_serve o) x.view.serves) in let k = served-le (is_serve o) v.view.logs v.view.serves in let s = holds.serves o in omega arith;
    home = each-after (KnowsItsOwn sys holds.now) (λ o s own is. served-home o s (has (holds.now.set s).members o) v.view.logs w.view.logs v.view.serves (λ mine. holds.home id v at_id o s mine is) own) (λ o s own is. absurd (omega arith)) holds.home;
    idle = each-after (λ x. length x.view.logs ≡ 0 → x.stops ≡ [])
        (λ none. let c = length-append v.view.logs w.view.logs in let a : v.stops ≡ [] = holds.idle id v at_id (omega arith) in let b : w.stops ≡ [] = holds.idle other w was-there (omega arith) in (λ i. a i ++ b i)) (λ none. refl) holds.idle;
    stop = record {
      low = h.low;
      none = λ z. each-after (λ x. x.stops ≡ []) (λ i. h.none z id v at_id i ++ h.none z other w was-there i) refl (h.none z);
      some_seat = λ p. let a = h.some_seat p in let b = both-sums (λ x. many (eqb (get_or words 4488 0)) x.stops) in let c = many-append (eqb (get_or words 4488 0)) v.stops w.stops in omega arith;
      found = each-after (λ x. Each (λ k. (k ≡ get_or words 4488 0) × (0 < get_or words 4488 0)) x.answered)
          (each-append (λ k. (k ≡ get_or words 4488 0) × (0 < get_or words 4488 0)) v.answered w.answered (h.found id v at_id) (h.found other w was-there)) tt h.found;
    };
  }

pub seats-join : SeatsJoin
seats-join sys words views holds id v at other w apart there = joins sys words views holds id v at other w apart there

-- The start
alone-view : {V : Type 0} (P : V → Type 0) (v : V) → P v → (id : ℕ) (u : V) → get_elem? (v ∷ []) id ≡ some u → P u
alone-view P v p zero u e = subst P (some-injective v u e) p
alone-view P v p (suc id) u e = absurd (some-ne-none u (sym e))

no-subscribers : (sys : System) → AreSubscribers sys []
unfolding are_members
no-subscribers sys = record { once = refl; known = tt; small = omega arith }

abbrev first_now : SideNow
first_now = record { set = λ s. record { count = 0; members = [] }; clock = λ t. record { count = 0; counter = 0; interval = 0 } }

pub starts : SideStarts
starts sys words sound wide zeros =
    let fit : SideFitting sys = record { few_signals = sound.few_signals; few_timers = sound.few_timers; objects = λ o h. let w = object-within sys sound o h in (w.0, w.1) } in
    let root : SideView = side_root (count_up 0 49) (first_serves sys 32) in
    let stop_zero : get_or words 4488 0 ≡ 0 = zeros 4488 (omega arith) in record {
      lanes = replicate 49 [];
      now = first_now;
      was = λ w k. 0;
      fitting = fit;
      leaves = record {
        law = record { signals = λ s h. (held-first subscribers (word.Signal s) 49).keeps; timers = λ t h. (held-first time_event (word.Timer t) 49).keeps };
        set = λ s h. (held-first subscribers (word.Signal s) 49).state;
        clock = λ t h. (held-first time_event (word.Timer t) 49).state;
      };
      shows = record {
        wide = wide;
        sets = λ s h. let l = signal-low sys fit s h in zeros (signal_at s) (omega arith);
        clocks = λ t h. let l = (timer-low sys fit t h).1 in zeros (timer_at t) (omega arith);
        members = λ s h. no-subscribers sys;
        small = λ t h. (omega arith, omega arith);
      };
      logs = record {
        count = refl;
        own = alone-view (λ (z : View). Each (λ (g : SeatLog). get_elem? (replicate 49 []) g.number ≡ some g.recs) z.logs) root.view tt;
        once = λ n l. let o = lane-once n l in omega arith;
        later = λ n l far. replicate-get 49 n l;
        rights = refl;
        room = replicate-each 49;
      };
      seen = record { now = λ w l. zeros w (omega arith); each = alone-view (λ (z : View). Each (SawFrom words (λ w k. 0)) z.seen) root.view tt };
      first = λ w. refl;
      serves = λ o. let s = serves-once sys sound o in omega arith;
      home = alone-view (KnowsItsOwn sys first_now) root (λ o s own is. refl);
      idle = alone-view (λ (z : SideView). length z.view.logs ≡ 0 → z.stops ≡ []) root (λ none. refl);
      stop = record {
        low = omega arith;
        none = λ z. alone-view (λ (y : SideView). y.stops ≡ []) root refl;
        some_seat = λ p. absurd (omega arith);
        found = alone-view (λ (y : SideView). Each (λ k. (k ≡ get_or words 4488 0) × (0 < get_or words 4488 0)) y.answered) root tt;
      };
    }

-- What the seat with all numbers knows
module _ (sys : System) (words : List ℕ) (views : List SideView) (holds : SideHolds sys words views) (id : ℕ) (v : SideView) (at_id : get_elem? views id ≡ some v) (all : length v.view.logs + length v.view.lane_numbers ≡ 49) where
  none-left : (j : ℕ) (x : SideView) → j ≢ id → get_elem? views j ≡ some x → length x.view.logs + length x.view.lane_numbers ≡ 0
  none-left j x ne there = let t = total-two (λ (y : SideView). length y.view.logs + length y.view.lane_numbers) views id j v x at_id there (λ e. ne (sym e)) in
      let m = total-map (λ (y : SideView). y.view) (λ (y : View). length y.logs + length y.lane_numbers) views in let r = holds.logs.rights in omega arith

  logs-alone : (n : ℕ) → sum_over (λ (x : View). many (is_log n) x.logs) (views_of views) ≡ many (is_log n) v.view.logs
  logs-alone n = total-map (λ (y : SideView). y.view) (λ (x : View). many (is_log n) x.logs) views
      ∙ alone-total (λ (x : SideView). many (is_log n) x.view.logs) views id v at_id (λ j x ne there. let z = none-left j x ne there in let l = many-le (is_log n) x.view.logs in omega arith)

  numbers-alone : (n : ℕ) → sum_over (λ (x : View). many (is_number n) x.lane_numbers) (views_of views) ≡ many (is_number n) v.view.lane_numbers
  numbers-alone n = total-map (λ (y : SideView). y.view) (λ (x : View). many (is_number n) x.lane_numbers) views
      ∙ alone-total (λ (x : SideView). many (is_number n) x.view.lane_numbers) views id v at_id (λ j x ne there. let z = none-left j x ne there in let l = many-le (is_number n) x.view.lane_numbers in omega arith)

  abbrev code : ℕ
  code = get_or words 4488 0

  stops-alone : sum_over (λ (x : SideView). many (eqb code) x.stops) views ≡ many (eqb code) v.stops
  stops-alone = alone-total (λ (x : SideView). many (eqb code) x.stops) views id v at_id (λ j x ne there. ap (many (eqb code)) (let z = none-left j x ne there in holds.idle j x there (omega arith)))

  knows : IsSideWhole sys v
  knows = record {
    words = words;
    now = holds.now;
    lanes = holds.lanes;
    count = holds.logs.count;
    own = holds.logs.own id v.view (at-view sys words views holds id v at_id);
    once = λ n few. let l = logs-alone n in let k = numbers-alone n in let o = holds.logs.once n few in omega arith;
    rest = λ n few mine. holds.logs.later n few (let k = numbers-alone n in omega arith);
    leaves = holds.leaves;
    shows = holds.shows;
    glances = each-map (SawFrom words holds.was) (λ (g : Glance). mark_in g.word g.value ≤ mark_in g.word (get_or words g.word 0)) (λ g s. s.1) v.view.seen (holds.seen.each id v.view (at-view sys words views holds id v at_id));
    codes = each-map (λ k. (k ≡ code) × (0 < code)) (λ k. (k ≡ code) × (0 < many (eqb k) v.stops))
        (λ k e. (e.0, subst (λ z. 0 < many (eqb z) v.stops) (sym e.0) (let s = holds.stop.some_seat e.1 in let a = stops-alone in omega arith))) v.answered (holds.stop.found id v at_id);
  }

pub whole : SideWholeIsKnown
whole sys words views holds id v at all = knows sys words views holds id v at all
