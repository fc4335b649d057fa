-- The root of the side table becomes the seat of a lane.
use Rattle.std.proofs.Common.{◌≡◌, ℕ, ◌+◌, ◌<◌, List, [], length, set, get_or, ap, subst, ◌∙◌, arith, eqb}
use mathlib.Core.Option.{some}
use lib.ListN.{get_elem?}
use Rattle.atomic_table.proofs.Lists.{at_map}
use Rattle.qp_model.specs.declared.systems.System.{System}
use Rattle.qp_table.specs.Counting.{Each, sum_over, many}
use Rattle.qp_table.specs.Rule.{is_log, is_number, is_serve, Logs}
use Rattle.qp_table.specs.declared.view.SeatLog.{SeatLog}
use Rattle.qp_table.specs.declared.view.View.{View}
use Rattle.qp_table.proofs.Counting.{total-set, total-at}
use Rattle.qp_table.proofs.Views.{SawFrom}
use Rattle.qp_side.specs.Rule.{KnowsItsOwn, SideHolds, views_of, member_from, member_in}
use Rattle.qp_side.specs.declared.view.SideView.{SideView}
use Rattle.qp_side.proofs.Places.{fits}
use Rattle.qp_side.proofs.StepLemmas.{at-view}
use Rattle.qp_shared_ends.specs.Seats.{as_lane_seat}
use Rattle.qp_side.proofs.SeatLemmas.{total-map, from-map, fewer-one, less-one}

module _ (sys : System) (words : List ℕ) (views : List SideView) (holds : SideHolds sys words views) (id : ℕ) (v : SideView) (at_id : get_elem? views id ≡ some v) (n : ℕ) (few : n < 49) (mine : 0 < many (is_number n) v.view.lane_numbers) (bare : v.view.logs ≡ []) where
  abbrev seat : SideView
  seat = as_lane_seat n v

  abbrev more : List SideView
  more = set views id seat

  sums : (f : SideView → ℕ) → sum_over f more + f v ≡ sum_over f views + f seat
  sums f = total-set f views id v seat at_id

  each-more : (P : SideView → Type 0) → P seat → ((j : ℕ) (x : SideView) → get_elem? views j ≡ some x → P x) → (j : ℕ) (x : SideView) → get_elem? more j ≡ some x → P x
  each-more P one all = fits P P views id seat (λ i y ne there p. p) one all

  in-views : (P : View → Type 0) → ((j : ℕ) (x : SideView) → get_elem? more j ≡ some x → P x.view) → (j : ℕ) (y : View) → get_elem? (views_of more) j ≡ some y → P y
  in-views P all j y e = let z = from-map (λ (x : SideView). x.view) more j y e in subst P z.2 (all j z.0 z.1)

  sums-views : (f : View → ℕ) → sum_over f (views_of more) + f v.view ≡ sum_over f (views_of views) + f seat.view
  sums-views f = let a = total-map (λ (x : SideView). x.view) f more in let b = total-map (λ (x : SideView). x.view) f views in let c = sums (λ x. f x.view) in omega arith

  some-there : 0 < sum_over (λ (x : View). many (is_number n) x.lane_numbers) (views_of views)
  some-there = let z = total-at (λ (x : View). many (is_number n) x.lane_numbers) (views_of views) id v.view (at-view sys words views holds id v at_id) in omega arith

  new-logs : Logs holds.lanes (views_of more)
  new-logs = let none = ap length bare in record {
    count = holds.logs.count;
    own = in-views (λ x. Each (λ (g : SeatLog). get_elem? holds.lanes g.number ≡ some g.recs) x.logs)
        (each-more (λ x. Each (λ (g : SeatLog). get_elem? holds.lanes g.number ≡ some g.recs) x.view.logs) (holds.logs.later n few some-there, tt)
        (λ j x e. holds.logs.own j x.view (at_map (λ (y : SideView). y.view) views j x e)));
    once = λ k l. let a = sums-views (λ x. many (is_log k) x.logs) in let b = sums-views (λ x. many (is_number k) x.lane_numbers) in let c = less-one n k v.view.lane_numbers mine in let o = holds.logs.once k l in let z = ap (many (is_log k)) bare in omega arith;
    later = λ k l far. holds.logs.later k l (let b = sums-views (λ x. many (is_number k) x.lane_numbers) in let c = less-one n k v.view.lane_numbers mine in omega arith);
    rights = let a = sums-views (λ x. length x.logs + length x.lane_numbers) in let c = fewer-one n v.view.lane_numbers mine in let r = holds.logs.rights in omega arith;
    room = holds.logs.room;
  }

  pub becomes : SideHolds sys words more
  unfolding member_from
  becomes = let h = holds.stop in record {
    lanes = holds.lanes;
    now = holds.now;
    was = holds.was;
    fitting = holds.fitting;
    leaves = holds.leaves;
    shows = holds.shows;
    logs = new-logs;
    seen = record {
      now = holds.seen.now;
      each = in-views (λ x. Each (SawFrom words holds.was) x.seen)
          (each-more (λ x. Each (SawFrom words holds.was) x.view.seen) (holds.seen.each id v.view (at-view sys words views holds id v at_id)) (λ j x e. holds.seen.each j x.view (at_map (λ (y : SideView). y.view) views j x e)));
    };
    first = holds.first;
    serves = λ o. let a = sums (λ x. many (is_serve o) x.view.serves) in let s = holds.serves o in omega arith;
    home = each-more (KnowsItsOwn sys holds.now) (λ o s own is. holds.home id v at_id o s own is ∙ ap (member_in o s) bare) holds.home;
    idle = each-more (λ x. length x.view.logs ≡ 0 → x.stops ≡ []) (λ none. absurd (omega arith)) holds.idle;
    stop = record {
      low = h.low;
      none = λ z. each-more (λ x. x.stops ≡ []) (h.none z id v at_id) (h.none z);
      some_seat = λ p. let a = h.some_seat p in let b = sums (λ x. many (eqb (get_or words 4488 0)) x.stops) in omega arith;
      found = each-more (λ x. Each (λ k. (k ≡ get_or words 4488 0) × (0 < get_or words 4488 0)) x.answered) (h.found id v at_id) h.found;
    };
  }
