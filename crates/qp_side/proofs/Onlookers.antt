-- A seat that has seen what another has, and has nothing else.
use Rattle.std.proofs.Common.{◌≡◌, ℕ, ◌+◌, ◌<◌, List, [], ◌∷◌, ◌++◌, length, set, get_or, refl, subst, ⊎_elim, arith, eqb}
use mathlib.Core.Option.{some}
use lib.ListN.{get_elem?}
use Rattle.atomic_table.proofs.Lists.{at_snoc, at_map}
use Rattle.qp_model.specs.declared.systems.System.{System}
use Rattle.qp_table.specs.Counting.{Each, sum_over, many}
use Rattle.qp_table.specs.Rule.{is_log, is_number, is_serve, Logs}
use Rattle.qp_table.specs.declared.view.SeatLog.{SeatLog}
use Rattle.qp_table.specs.declared.view.View.{View}
use Rattle.qp_table.proofs.Counting.{total-set, total-snoc}
use Rattle.qp_table.proofs.Views.{SawFrom}
use Rattle.qp_side.specs.Rule.{KnowsItsOwn, SideHolds, views_of}
use Rattle.qp_side.specs.Told.{side_onlooker}
use Rattle.qp_side.specs.Laws.{SeatsLookOn}
use Rattle.qp_side.specs.declared.view.SideView.{SideView}
use Rattle.qp_side.proofs.Places.{fits}
use Rattle.qp_side.proofs.SeatLemmas.{from-map, total-map}

module _ (sys : System) (words : List ℕ) (views : List SideView) (holds : SideHolds sys words views) (id : ℕ) (v : SideView) (at_id : get_elem? views id ≡ some v) where
  abbrev seat : SideView
  seat = side_onlooker v

  abbrev more : List SideView
  more = set views id v ++ seat ∷ []

  sums : (f : SideView → ℕ) → sum_over f more ≡ sum_over f views + f seat
  sums f = let a = total-set f views id v v at_id in let b = total-snoc f (set views id v) seat in omega arith

  each-more : (P : SideView → Type 0) → P seat → ((j : ℕ) (x : SideView) → get_elem? views j ≡ some x → P x) → (j : ℕ) (x : SideView) → get_elem? more j ≡ some x → P x
  each-more P its all j x e = ⊎_elim (λ (z : get_elem? (set views id v) j ≡ some x). fits P P views id v (λ i y ne there p. p) (all id v at_id) all j x z) (λ (z : seat ≡ x). subst P z its) (at_snoc (set views id v) seat x j e)

  in-views : (P : View → Type 0) → ((j : ℕ) (x : SideView) → get_elem? more j ≡ some x → P x.view) → (j : ℕ) (y : View) → get_elem? (views_of more) j ≡ some y → P y
  in-views P all j y e = let z = from-map (λ (x : SideView). x.view) more j y e in subst P z.2 (all j z.0 z.1)

  sums-views : (f : View → ℕ) → sum_over f (views_of more) ≡ sum_over f (views_of views) + f seat.view
  sums-views f = let a = total-map (λ (x : SideView). x.view) f more in let b = total-map (λ (x : SideView). x.view) f views in let c = sums (λ x. f x.view) in omega arith

  own-of : (j : ℕ) (x : SideView) → get_elem? views j ≡ some x → Each (λ (g : SeatLog). get_elem? holds.lanes g.number ≡ some g.recs) x.view.logs
  own-of j x e = holds.logs.own j x.view (at_map (λ (y : SideView). y.view) views j x e)

  seen-of : (j : ℕ) (x : SideView) → get_elem? views j ≡ some x → Each (SawFrom words holds.was) x.view.seen
  seen-of j x e = holds.seen.each j x.view (at_map (λ (y : SideView). y.view) views j x e)

  new-logs : Logs holds.lanes (views_of more)
  new-logs = record {
    count = holds.logs.count;
    own = in-views (λ x. Each (λ (g : SeatLog). get_elem? holds.lanes g.number ≡ some g.recs) x.logs) (each-more (λ x. Each (λ (g : SeatLog). get_elem? holds.lanes g.number ≡ some g.recs) x.view.logs) tt own-of);
    once = λ k l. let a = sums-views (λ x. many (is_log k) x.logs) in let b = sums-views (λ x. many (is_number k) x.lane_numbers) in let o = holds.logs.once k l in omega arith;
    later = λ k l far. holds.logs.later k l (let b = sums-views (λ x. many (is_number k) x.lane_numbers) in omega arith);
    rights = let a = sums-views (λ x. length x.logs + length x.lane_numbers) in let r = holds.logs.rights in omega arith;
    room = holds.logs.room;
  }

  pub looks-on : SideHolds sys words more
  looks-on = let h = holds.stop in record {
    lanes = holds.lanes;
    now = holds.now;
    was = holds.was;
    fitting = holds.fitting;
    leaves = holds.leaves;
    shows = holds.shows;
    logs = new-logs;
    seen = record {
      now = holds.seen.now;
      each = in-views (λ x. Each (SawFrom words holds.was) x.seen) (each-more (λ x. Each (SawFrom words holds.was) x.view.seen) (seen-of id v at_id) seen-of);
    };
    first = holds.first;
    serves = λ o. let a = sums (λ x. many (is_serve o) x.view.serves) in let s = holds.serves o in omega arith;
    home = each-more (KnowsItsOwn sys holds.now) (λ o s own is. absurd (omega arith)) holds.home;
    idle = each-more (λ x. length x.view.logs ≡ 0 → x.stops ≡ []) (λ none. refl) holds.idle;
    stop = record {
      low = h.low;
      none = λ z. each-more (λ x. x.stops ≡ []) refl (h.none z);
      some_seat = λ p. let a = h.some_seat p in let b = sums (λ x. many (eqb (get_or words 4488 0)) x.stops) in omega arith;
      found = each-more (λ x. Each (λ k. (k ≡ get_or words 4488 0) × (0 < get_or words 4488 0)) x.answered) tt h.found;
    };
  }

pub seats-look-on : SeatsLookOn
seats-look-on sys words views holds id v at = looks-on sys words views holds id v at
