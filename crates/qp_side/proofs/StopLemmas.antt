-- Steps on the stop word.
use Rattle.std.proofs.Common.{◌≡◌, ℕ, zero, suc, ◌<◌, ◌≤◌, ◌≢◌, Bool, cond, List, [], ◌∷◌, length, set, get_or, refl, sym, ap, subst, ◌∙◌, arith, eqb, eq-eqb, get_or-set_same, get_or-set_other}
use prog.Atomic.{either}
use mathlib.Core.Option.{some}
use mathlib.Core.Logic.{dite}
use native.Mathlib.Decide.{ℕ_discrete}
use lib.ListN.{get_elem?}
use lib.Seq.{set-get_or}
use Rattle.std.proofs.lemmas.List.{map-set}
use Rattle.atomic_table.proofs.Lists.{exchanged, set_again}
use Rattle.qp_model.specs.declared.systems.System.{System}
use Rattle.qp_table.specs.Counting.{Each, sum_over, many}
use Rattle.qp_table.specs.Rule.{is_serve, Logs, Seen}
use Rattle.qp_table.specs.declared.view.View.{View}
use Rattle.qp_table.proofs.Counting.{total-set, total-at, each-map}
use Rattle.qp_table.proofs.Views.{logs-kept, seen-kept}
use Rattle.qp_side.specs.Rule.{signal_at, timer_at, StopHolds, KnowsItsOwn, SideHolds, views_of}
use Rattle.qp_side.specs.Told.{FoundTold}
use Rattle.qp_side.specs.Laws.{HandsTell, FindsTell}
use Rattle.qp_side.specs.declared.view.SideView.{SideView}
use Rattle.qp_side.proofs.Places.{fits, signal-low, timer-low}
use Rattle.qp_side.proofs.StepLemmas.{at-view}

module _ (sys : System) (words : List ℕ) (views : List SideView) (holds : SideHolds sys words views) (id : ℕ) (v : SideView) (at_id : get_elem? views id ≡ some v) where
  abbrev n : ℕ
  n = get_or words 4488 0

  -- the stop word becomes x, and the seat's codes change
  stopped : (x : ℕ) (u : SideView) → u.view ≡ v.view → (length v.view.logs ≡ 0 → u.stops ≡ []) → StopHolds x (set views id u) → SideHolds sys (set words 4488 x) (set views id u)
  stopped x u same idle stop =
      let wd = holds.shows.wide in
      let set_views : set (views_of views) id u.view ≡ views_of (set views id u) = sym (map-set (λ (y : SideView). y.view) views id u) in
      let fit = holds.fitting in record {
        lanes = holds.lanes;
        now = holds.now;
        was = holds.was;
        fitting = holds.fitting;
        leaves = holds.leaves;
        shows = record {
          wide = wide-set words 4488 x ∙ wd;
          sets = λ s h. let l = signal-low sys fit s h in get_or-set_other words 4488 (signal_at s) x 0 (λ e. omega arith) ∙ holds.shows.sets s h;
          clocks = λ t h. let l = (timer-low sys fit t h).1 in get_or-set_other words 4488 (timer_at t) x 0 (λ e. omega arith) ∙ holds.shows.clocks t h;
          members = holds.shows.members;
          small = holds.shows.small;
        };
        logs = subst (Logs holds.lanes) set_views (logs-kept holds.lanes (views_of views) id v.view u.view holds.logs (at-view sys words views holds id v at_id) (λ i. (same i).logs) (λ i. (same i).lane_numbers));
        seen = subst (λ vs. Seen (set words 4488 x) vs holds.was) set_views (seen-kept words (set words 4488 x) (views_of views) holds.was id v.view u.view holds.seen (at-view sys words views holds id v at_id) (λ y l. get_or-set_other words 4488 y x 0 (λ e. omega arith)) (λ i. (same i).seen));
        first = holds.first;
        serves = λ o. let t = total-set (λ (y : SideView). many (is_serve o) y.view.serves) views id v u at_id in let e = ap (λ (y : View). many (is_serve o) y.serves) same in let s = holds.serves o in omega arith;
        home = fits (KnowsItsOwn sys holds.now) (KnowsItsOwn sys holds.now) views id u (λ j y ne there e. e)
            (subst (λ (y : View). KnowsItsOwn sys holds.now (record { view = y; stops = u.stops; answered = u.answered })) (sym same) (λ o s mine h. holds.home id v at_id o s mine h)) holds.home;
        idle = fits (λ y. length y.view.logs ≡ 0 → y.stops ≡ []) (λ y. length y.view.logs ≡ 0 → y.stops ≡ []) views id u (λ j y ne there e. e) (λ none. idle (sym (ap (λ (y : View). length y.logs) same) ∙ none)) holds.idle;
        stop = subst (λ z. StopHolds z (set views id u)) (sym (get_or-set_same words 4488 x 0 (omega arith))) stop;
      }
    where
      wide-set : (ws : List ℕ) (i y : ℕ) → length (set ws i y) ≡ length ws
      wide-set [] i y = refl
      wide-set (w ∷ ws) zero y = refl
      wide-set (w ∷ ws) (suc i) y = ap suc (wide-set ws i y)

  -- a code is handed in
  abbrev handed : ℕ → SideView
  handed c = record v { stops = c ∷ v.stops }

  fewer-found : (k : ℕ) → k ≡ n → 0 < k → (c : ℕ) → StopHolds k (set views id (handed c))
  fewer-found k is pos c = let h = holds.stop in let low = h.low in record {
    low = omega arith;
    none = λ z. absurd (omega arith);
    some_seat = λ p. let a = h.some_seat (omega arith) in let t = total-set (λ (y : SideView). many (eqb k) y.stops) views id v (handed c) at_id in let e : sum_over (λ (y : SideView). many (eqb k) y.stops) views ≡ sum_over (λ (y : SideView). many (eqb n) y.stops) views = ap (λ z. sum_over (λ (y : SideView). many (eqb z) y.stops) views) is in omega arith;
    found = fits (λ y. Each (λ z. (z ≡ n) × (0 < n)) y.answered) (λ y. Each (λ z. (z ≡ k) × (0 < k)) y.answered) views id (handed c)
        (λ j y ne there e. subst (λ m. Each (λ z. (z ≡ m) × (0 < m)) y.answered) (sym is) e) (subst (λ m. Each (λ z. (z ≡ m) × (0 < m)) v.answered) (sym is) (h.found id v at_id)) h.found;
  }

  first-found : n ≡ 0 → (c : ℕ) → 0 < c → c ≤ 7 → StopHolds c (set views id (handed c))
  first-found zero_now c pos most = let h = holds.stop in record {
    low = most;
    none = λ z. absurd (omega arith);
    some_seat = λ p. let t = total-set (λ (y : SideView). many (eqb c) y.stops) views id v (handed c) at_id in let e : cond {A = ℕ} (eqb c c) 1 0 ≡ 1 = ap (λ (b : Bool). cond {A = ℕ} b 1 0) (eq-eqb c c refl) in let m = total-at (λ (y : SideView). many (eqb c) y.stops) views id v at_id in omega arith;
    found = fits (λ y. Each (λ z. (z ≡ n) × (0 < n)) y.answered) (λ y. Each (λ z. (z ≡ c) × (0 < c)) y.answered) views id (handed c)
        (λ j y ne there e. each-map (λ z. (z ≡ n) × (0 < n)) (λ z. (z ≡ c) × (0 < c)) (λ z f. let g = f.1 in absurd (omega arith)) y.answered e)
        (each-map (λ z. (z ≡ n) × (0 < n)) (λ z. (z ≡ c) × (0 < c)) (λ z f. let g = f.1 in absurd (omega arith)) v.answered (h.found id v at_id)) h.found;
  }

  pub hands-in : (c : ℕ) → 0 < length v.view.logs → 0 < c → c ≤ 7 → SideHolds sys (set words 4488 (either (eqb n 0) c n)) (set views id (handed c))
  hands-in c own pos most = exchanged n 0 c (λ x. SideHolds sys (set words 4488 x) (set views id (handed c)))
      (λ e. stopped c (handed c) refl (λ none. absurd (omega arith)) (first-found e c pos most))
      (λ ne. stopped n (handed c) refl (λ none. absurd (omega arith)) (fewer-found n refl (omega arith) c))

  -- the word is read
  abbrev found_code : SideView
  found_code = record v { answered = n ∷ v.answered }

  reads-some : n ≢ 0 → SideHolds sys (set words 4488 n) (set views id found_code)
  reads-some ne = let h = holds.stop in stopped n found_code refl (holds.idle id v at_id) (record {
    low = h.low;
    none = λ z. absurd (ne z);
    some_seat = λ p. let a = h.some_seat p in let t = total-set (λ (y : SideView). many (eqb n) y.stops) views id v found_code at_id in omega arith;
    found = fits (λ y. Each (λ z. (z ≡ n) × (0 < n)) y.answered) (λ y. Each (λ z. (z ≡ n) × (0 < n)) y.answered) views id found_code (λ j y apart there e. e) ((refl, omega arith), h.found id v at_id) h.found;
  })

  reads-none : SideHolds sys (set words 4488 n) (set views id v)
  reads-none = subst (λ (z : List ℕ × List SideView). SideHolds sys z.0 z.1) (λ i. (sym (set-get_or words 4488 0) i, sym (set_again views id v at_id) i)) holds

  none-answered : (xs : List ℕ) → n ≡ 0 → Each (λ z. (z ≡ n) × (0 < n)) xs → xs ≡ []
  none-answered [] z e = refl
  none-answered (x ∷ xs) z e = let g = e.0.1 in absurd (omega arith)

  pub reads-code : (u : SideView) × SideHolds sys (set words 4488 n) (set views id u) × FoundTold v n u
  reads-code = let h = holds.stop in dite (ℕ_discrete n 0)
      (λ e. (v, reads-none, ((λ z. (refl, h.none e id v at_id, none-answered v.answered e (h.found id v at_id))), (λ ne. absurd (ne e)))))
      (λ ne. (found_code, reads-some ne, ((λ e. absurd (ne e)), (λ z. (refl, h.low, each-map (λ z. (z ≡ n) × (0 < n)) (λ z. z ≡ n) (λ z f. f.0) v.answered (h.found id v at_id))))))

pub hands : HandsTell
hands sys id v code own pos most words views holds at small = (record v { stops = code ∷ v.stops }, hands-in sys words views holds id v at code own pos most, refl)

pub finds : FindsTell
finds sys id v words views holds at small = reads-code sys words views holds id v at
