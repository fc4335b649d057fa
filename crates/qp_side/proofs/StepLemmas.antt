-- A step of one seat keeps the rule where it keeps its parts.
use Rattle.std.proofs.Common.{◌≡◌, ℕ, zero, suc, ◌<◌, ◌≤◌, ◌≢◌, Bool, true, false, cond, List, [], ◌∷◌, ◌++◌, length, set, get_or, refl, get_or-set_other, sym, ap, subst, ◌∙◌, inr, arith, eqb, eq-eqb, ne_eqb, IsTrue}
use Rattle.std.proofs.lemmas.List.{map-set}
use mathlib.Core.Option.{some, some-injective, some-ne-none}
use mathlib.Core.Logic.{dite}
use native.Mathlib.Decide.{ℕ_discrete}
use lib.ListN.{get_elem?}
use lib.Seq.{set-get_or}
use Rattle.atomic_table.proofs.Lists.{at_map}
use Rattle.qp_chart.specs.StateTree.{has}
use Rattle.qp_model.specs.declared.record.Rec.{Rec}
use Rattle.qp_model.specs.declared.systems.System.{System}
use Rattle.qp_model.specs.declared.words.Word.TheVariants as word
use Rattle.qp_model.specs.Record.{Item, item_of}
use Rattle.qp_model.specs.History.{touch, mark_of}
use Rattle.qp_model.specs.Subscribers.{Subscribers, subscribers}
use Rattle.qp_model.specs.TimeEvents.{Clock, time_event}
use Rattle.qp_model.specs.WordLaw.{is_object, is_signal, is_timer}
use Rattle.qp_model.proofs.WordLemmas.{Held, held-other}
use Rattle.qp_model.proofs.WordLawLemmas.{subscribers-counts, time_event-counts}
use Rattle.std.specs.Prelude.{None}
use Rattle.qp_table.specs.Counting.{Each, sum_over, many}
use Rattle.qp_table.specs.Now.{at, at_two}
use Rattle.qp_table.specs.Rule.{mark_in, is_serve, Logs, Was, Seen}
use Rattle.qp_table.specs.After.{logged, noted, HasRoom}
use Rattle.qp_table.specs.declared.view.SeatLog.{SeatLog}
use Rattle.qp_table.proofs.Counting.{total-set, cond-le}
use Rattle.qp_table.proofs.Growing.{two-else}
use Rattle.qp_table.proofs.Views.{total-two, logs-noted, logs-kept, seen-drawn, seen-looked}
use Rattle.qp_table.proofs.Step.{Lane, own-lane}
use Rattle.qp_table.specs.Words.{later, latest}
use Rattle.qp_table.proofs.Places.{latest-more}
use Rattle.qp_side.specs.Rule.{SideNow, SideLeaves, SideShows, StopHolds, KnowsItsOwn, SideHolds, views_of, member_by, member_from, member_in}
use Rattle.qp_side.specs.Told.{side_glanced, side_noted, last_seen, SideSaw}
use Rattle.qp_side.specs.declared.view.SideView.{SideView}
use Rattle.qp_side.proofs.Places.{fits, seen-past, at-here, at-else}
use Rattle.qp_table.proofs.Gaining.{later-here}

-- a record more in a list
member-snoc : (o s : ℕ) (b : Bool) (rs : List Rec) (r : Rec) → member_from o s b (rs ++ r ∷ []) ≡ member_by o s (item_of r) (member_from o s b rs)
unfolding member_from
member-snoc o s b [] r = refl
member-snoc o s b (x ∷ rs) r = member-snoc o s (member_by o s (item_of x) b) rs r

member-logged : (o s : ℕ) (r : Rec) (logs : List SeatLog) (g : SeatLog) (gs : List SeatLog) → logs ≡ g ∷ gs → member_in o s (logged r logs) ≡ member_by o s (item_of r) (member_in o s logs)
member-logged o s r logs g gs is = subst (λ ls. member_in o s (logged r ls) ≡ member_by o s (item_of r) (member_in o s ls)) (sym is) (member-snoc o s false g.recs r)

-- the stop word, where a seat's codes stay
pub stop-kept : (n : ℕ) (views : List SideView) (id : ℕ) (v u : SideView) → get_elem? views id ≡ some v → u.stops ≡ v.stops → u.answered ≡ v.answered → StopHolds n views → StopHolds n (set views id u)
stop-kept n views id v u at_id stops answered h = record {
  low = h.low;
  none = λ z. fits (λ x. x.stops ≡ []) (λ x. x.stops ≡ []) views id u (λ j x ne there e. e) (stops ∙ h.none z id v at_id) (h.none z);
  some_seat = λ pos. let a = h.some_seat pos in let t = total-set (λ (x : SideView). many (eqb n) x.stops) views id v u at_id in let e = ap (many (eqb n)) stops in omega arith;
  found = fits (λ x. Each (λ k. (k ≡ n) × (0 < n)) x.answered) (λ x. Each (λ k. (k ≡ n) × (0 < n)) x.answered) views id u (λ j x ne there e. e) (subst (Each (λ k. (k ≡ n) × (0 < n))) (sym answered) (h.found id v at_id)) h.found;
}

module _ (sys : System) (words : List ℕ) (views : List SideView) (holds : SideHolds sys words views) (id : ℕ) (v : SideView) (at_id : get_elem? views id ≡ some v) where
  pub at-view : get_elem? (views_of views) id ≡ some v.view
  at-view = at_map (λ (x : SideView). x.view) views id v at_id

  set-views : (u : SideView) → set (views_of views) id u.view ≡ views_of (set views id u)
  set-views u = sym (map-set (λ (x : SideView). x.view) views id u)

  serves-same : (u : SideView) → u.view.serves ≡ v.view.serves → (o : ℕ) → sum_over (λ (x : SideView). many (is_serve o) x.view.serves) (set views id u) ≤ cond (is_object sys o) 1 0
  serves-same u same o = let t = total-set (λ (x : SideView). many (is_serve o) x.view.serves) views id v u at_id in let e = ap (many (is_serve o)) same in let s = holds.serves o in omega arith

  -- who serves an object serves one of the system
  pub served-known : (o : ℕ) → 0 < many (is_serve o) v.view.serves → is_object sys o ≡ true
  served-known o mine = go (is_object sys o) refl (let t = total-in in let s = holds.serves o in omega arith)
    where
      total-in : many (is_serve o) v.view.serves ≤ sum_over (λ (x : SideView). many (is_serve o) x.view.serves) views
      total-in = let t = total-set (λ (x : SideView). many (is_serve o) x.view.serves) views id v v at_id in top views id at_id
        where
          top : (xs : List SideView) (i : ℕ) → get_elem? xs i ≡ some v → many (is_serve o) v.view.serves ≤ sum_over (λ (x : SideView). many (is_serve o) x.view.serves) xs
          top [] i e = absurd (some-ne-none v (sym e))
          top (x ∷ xs) zero e = let s : many (is_serve o) x.view.serves ≡ many (is_serve o) v.view.serves = ap (λ (y : SideView). many (is_serve o) y.view.serves) (some-is x v e) in omega arith
            where
              some-is : (x v : SideView) → some x ≡ some v → x ≡ v
              some-is x v e = some-injective x v e
          top (x ∷ xs) (suc i) e = let r = top xs i e in omega arith

      go : (t : Bool) → is_object sys o ≡ t → 0 < cond {A = ℕ} t 1 0 → is_object sys o ≡ true
      go true e pos = e
      go false e pos = absurd (omega arith)

  -- what a step saw, where the word became x, with more operations, or was looked at
  pub saw : (w x : ℕ) (u : SideView) → w < 4488 → mark_in w (get_or words w 0) ≤ mark_in w x → (mark_in w (get_or words w 0) ≡ mark_in w x → get_or words w 0 ≡ x) → u.view.seen ≡ v.view.seen ++ record { word = w; value = x } ∷ [] → SideSaw w v u (get_or words w 0) x
  saw w x u low more here seen =
      let p = seen-past words holds.was holds.first w v.view.seen (holds.seen.each id v.view at-view) in
      let n : ℕ = get_or words w 0 in
      let le = p.0 in
      let same : mark_in w (last_seen w v) ≡ mark_in w (get_or words w 0) → last_seen w v ≡ get_or words w 0 = (λ e. p.1 ∙ (ap (holds.was w) e ∙ sym (holds.seen.now w low))) in record {
        le = le;
        same = same;
        value = ap (latest w 0) seen ∙ (latest-more w 0 v.view.seen (record { word = w; value = x })
            ∙ (ap (λ (t : Bool). cond {A = ℕ} t (later w (latest w 0 v.view.seen) x) (latest w 0 v.view.seen)) (eq-eqb w w refl)
            ∙ later-here w (last_seen w v) x (omega arith) (λ e. let a : mark_in w (last_seen w v) ≡ mark_in w (get_or words w 0) = omega arith in let b : mark_in w (get_or words w 0) ≡ mark_in w x = omega arith in same a ∙ here b)));
        rises = more;
        others = λ y ne. ap (latest y 0) seen ∙ (latest-more y 0 v.view.seen (record { word = w; value = x })
            ∙ ap (λ (t : Bool). cond {A = ℕ} t (later y (latest y 0 v.view.seen) x) (latest y 0 v.view.seen)) (ne_eqb w y (λ e. ne (sym e))));
      }

  -- a glance without a record
  pub glances : (w : ℕ) → w < 4488 → SideHolds sys (set words w (get_or words w 0)) (set views id (side_glanced v w (get_or words w 0)))
  glances w low =
      let u : SideView = side_glanced v w (get_or words w 0) in
      subst (λ ws. SideHolds sys ws (set views id u)) (sym (set-get_or words w 0)) (record {
        lanes = holds.lanes;
        now = holds.now;
        was = holds.was;
        fitting = holds.fitting;
        leaves = holds.leaves;
        shows = holds.shows;
        logs = subst (Logs holds.lanes) (set-views u) (logs-kept holds.lanes (views_of views) id v.view u.view holds.logs at-view refl refl);
        seen = subst (λ vs. Seen words vs holds.was) (set-views u) (seen-looked words words (views_of views) holds.was id v.view u.view w (get_or words w 0) holds.seen at-view low (λ x l. refl) refl refl);
        first = holds.first;
        serves = serves-same u refl;
        home = fits (KnowsItsOwn sys holds.now) (KnowsItsOwn sys holds.now) views id u (λ j x ne there e. e) (λ o s mine is. holds.home id v at_id o s mine is) holds.home;
        idle = fits (λ x. length x.view.logs ≡ 0 → x.stops ≡ []) (λ x. length x.view.logs ≡ 0 → x.stops ≡ []) views id u (λ j x ne there e. e) (λ none. holds.idle id v at_id none) holds.idle;
        stop = stop-kept (get_or words 4488 0) views id v u at_id refl refl holds.stop;
      })

  module _ (room : HasRoom v.view) where
    few : length room.own.recs ≤ 1000000
    few = let r : sum_over (λ (g : SeatLog). length g.recs) (room.own ∷ room.others) < 1000001 = subst (λ (ls : List SeatLog). sum_over (λ (g : SeatLog). length g.recs) ls < 1000001) room.is room.room in omega arith

    abbrev pub lane : Lane holds.lanes room.own
    lane = own-lane holds.lanes (views_of views) id v.view room.own room.others holds.logs at-view room.is

    abbrev pub more_lanes : Rec → List (List Rec)
    more_lanes r = lane.before ++ (room.own.recs ++ r ∷ []) ∷ lane.behind

    pub leaves-here : SideLeaves sys (lane.before ++ room.own.recs ∷ lane.behind) holds.now
    leaves-here = subst (λ l. SideLeaves sys l holds.now) lane.is holds.leaves

    pub held-set : (s : ℕ) → IsTrue (is_signal sys s) → Held Subscribers subscribers (word.Signal s) (lane.before ++ room.own.recs ∷ lane.behind) (holds.now.set s)
    held-set s h = record { keeps = leaves-here.law.signals s h; state = leaves-here.set s h }

    pub held-clock : (t : ℕ) → IsTrue (is_timer sys t) → Held Clock time_event (word.Timer t) (lane.before ++ room.own.recs ∷ lane.behind) (holds.now.clock t)
    held-clock t h = record { keeps = leaves-here.law.timers t h; state = leaves-here.clock t h }

    module _ (r : Rec) (i : Item) (is : item_of r ≡ i) where
      leaves-with : (next : SideNow) → ((s : ℕ) → IsTrue (is_signal sys s) → Held Subscribers subscribers (word.Signal s) (more_lanes r) (next.set s))
          → ((t : ℕ) → IsTrue (is_timer sys t) → Held Clock time_event (word.Timer t) (more_lanes r) (next.clock t)) → SideLeaves sys (more_lanes r) next
      leaves-with next sets clocks = record { law = record { signals = λ s h. (sets s h).keeps; timers = λ t h. (clocks t h).keeps }; set = λ s h. (sets s h).state; clock = λ t h. (clocks t h).state }

      set-other : (s : ℕ) → IsTrue (is_signal sys s) → mark_of (word.Signal s) (touch i) ≡ None → Held Subscribers subscribers (word.Signal s) (more_lanes r) (holds.now.set s)
      set-other s h none = held-other lane.before room.own.recs lane.behind r i is subscribers (word.Signal s) (holds.now.set s) subscribers-counts (held-set s h) none

      clock-other : (t : ℕ) → IsTrue (is_timer sys t) → mark_of (word.Timer t) (touch i) ≡ None → Held Clock time_event (word.Timer t) (more_lanes r) (holds.now.clock t)
      clock-other t h none = held-other lane.before room.own.recs lane.behind r i is time_event (word.Timer t) (holds.now.clock t) time_event-counts (held-clock t h) none

      -- a record on the signal s, after which it has these subscribers
      pub leaves-set : (s : ℕ) (next : Subscribers) → Held Subscribers subscribers (word.Signal s) (more_lanes r) next → ((y : ℕ) → y ≢ s → mark_of (word.Signal y) (touch i) ≡ None) → ((t : ℕ) → mark_of (word.Timer t) (touch i) ≡ None)
          → SideLeaves sys (more_lanes r) (record holds.now { set = at s next holds.now.set })
      leaves-set s next held others timers = leaves-with (record holds.now { set = at s next holds.now.set })
          (λ y h. dite (ℕ_discrete y s)
          (λ e. subst (λ z. Held Subscribers subscribers (word.Signal z) (more_lanes r) (at s next holds.now.set z)) (sym e) (subst (Held Subscribers subscribers (word.Signal s) (more_lanes r)) (sym (at-here s next holds.now.set)) held))
          (λ ne. subst (Held Subscribers subscribers (word.Signal y) (more_lanes r)) (sym (at-else s next holds.now.set y ne)) (set-other y h (others y ne))))
          (λ t h. clock-other t h (timers t))

      -- a record on the time event t
      pub leaves-clock : (t : ℕ) (next : Clock) → Held Clock time_event (word.Timer t) (more_lanes r) next → ((y : ℕ) → y ≢ t → mark_of (word.Timer y) (touch i) ≡ None) → ((s : ℕ) → mark_of (word.Signal s) (touch i) ≡ None)
          → SideLeaves sys (more_lanes r) (record holds.now { clock = at t next holds.now.clock })
      leaves-clock t next held others signals = leaves-with (record holds.now { clock = at t next holds.now.clock })
          (λ s h. set-other s h (signals s))
          (λ y h. dite (ℕ_discrete y t)
          (λ e. subst (λ z. Held Clock time_event (word.Timer z) (more_lanes r) (at t next holds.now.clock z)) (sym e) (subst (Held Clock time_event (word.Timer t) (more_lanes r)) (sym (at-here t next holds.now.clock)) held))
          (λ ne. subst (Held Clock time_event (word.Timer y) (more_lanes r)) (sym (at-else t next holds.now.clock y ne)) (clock-other y h (others y ne))))

      -- a record that shows a signal, or a time event, as it is
      pub leaves-shown-set : (s : ℕ) → Held Subscribers subscribers (word.Signal s) (more_lanes r) (holds.now.set s) → ((y : ℕ) → y ≢ s → mark_of (word.Signal y) (touch i) ≡ None) → ((t : ℕ) → mark_of (word.Timer t) (touch i) ≡ None) → SideLeaves sys (more_lanes r) holds.now
      leaves-shown-set s held others timers = leaves-with holds.now
          (λ y h. dite (ℕ_discrete y s) (λ e. subst (λ z. Held Subscribers subscribers (word.Signal z) (more_lanes r) (holds.now.set z)) (sym e) held) (λ ne. set-other y h (others y ne)))
          (λ t h. clock-other t h (timers t))

      pub leaves-shown-clock : (t : ℕ) → Held Clock time_event (word.Timer t) (more_lanes r) (holds.now.clock t) → ((y : ℕ) → y ≢ t → mark_of (word.Timer y) (touch i) ≡ None) → ((s : ℕ) → mark_of (word.Signal s) (touch i) ≡ None) → SideLeaves sys (more_lanes r) holds.now
      leaves-shown-clock t held others signals = leaves-with holds.now
          (λ s h. set-other s h (signals s))
          (λ y h. dite (ℕ_discrete y t) (λ e. subst (λ z. Held Clock time_event (word.Timer z) (more_lanes r) (holds.now.clock z)) (sym e) held) (λ ne. clock-other y h (others y ne)))

      -- a step with this record on the word w, seen with the value n afterwards
      recorded : (after : List ℕ) (was : Was) (w n : ℕ) (next : SideNow) → SideLeaves sys (more_lanes r) next → SideShows sys after next → Seen after (set (views_of views) id (noted v.view w n r)) was → ((x : ℕ) → was x 0 ≡ 0)
          → ((o s : ℕ) → IsTrue (is_signal sys s) → has (next.set s).members o ≡ member_by o s i (has (holds.now.set s).members o))
          → ((o : ℕ) → many (is_serve o) v.view.serves ≡ 0 → (s : ℕ) (b : Bool) → member_by o s i b ≡ b)
          → get_or after 4488 0 ≡ get_or words 4488 0 → SideHolds sys after (set views id (side_noted v w n r))
      recorded after was w n next leaves shows seen first members own_only stop_same =
          let u : SideView = side_noted v w n r in record {
            lanes = more_lanes r;
            now = next;
            was = was;
            fitting = holds.fitting;
            leaves = leaves;
            shows = shows;
            logs = subst (Logs (more_lanes r)) (set-views u) (logs-noted lane.before room.own.recs lane.behind (views_of views) id v.view u.view room.own room.others r (subst (λ l. Logs l (views_of views)) lane.is holds.logs) at-view room.is (sym lane.place) lane.inside few refl refl);
            seen = subst (λ vs. Seen after vs was) (set-views u) seen;
            first = first;
            serves = serves-same u refl;
            home = fits (KnowsItsOwn sys holds.now) (KnowsItsOwn sys next) views id u
                (λ j x ne there e o s mine h. let t = total-two (λ (y : SideView). many (is_serve o) y.view.serves) views id j v x at_id there (λ q. ne (sym q)) in let l = holds.serves o in let c = cond-le (is_object sys o) in
                members o s h ∙ (own_only o (omega arith) s (has (holds.now.set s).members o) ∙ e o s mine h))
                (λ o s mine h. members o s h ∙ (ap (member_by o s i) (holds.home id v at_id o s mine h) ∙ (ap (λ (j : Item). member_by o s j (member_in o s v.view.logs)) (sym is) ∙ sym (member-logged o s r v.view.logs room.own room.others room.is))))
                holds.home;
            idle = fits (λ x. length x.view.logs ≡ 0 → x.stops ≡ []) (λ x. length x.view.logs ≡ 0 → x.stops ≡ []) views id u (λ j x ne there e. e)
                (λ none. let e : length (logged r v.view.logs) ≡ suc (length room.others) = ap (λ ls. length (logged r ls)) room.is in absurd (omega arith)) holds.idle;
            stop = subst (λ z. StopHolds z (set views id u)) (sym stop_same) (stop-kept (get_or words 4488 0) views id v u at_id refl refl holds.stop);
          }

      -- the word w became n, with more operations
      pub drawn : (w n : ℕ) (next : SideNow) → w < 4224 → mark_in w (get_or words w 0) < mark_in w n → SideLeaves sys (more_lanes r) next → SideShows sys (set words w n) next
          → ((o s : ℕ) → IsTrue (is_signal sys s) → has (next.set s).members o ≡ member_by o s i (has (holds.now.set s).members o))
          → ((o : ℕ) → many (is_serve o) v.view.serves ≡ 0 → (s : ℕ) (b : Bool) → member_by o s i b ≡ b) → SideHolds sys (set words w n) (set views id (side_noted v w n r))
      drawn w n next low more leaves shows members own_only = let wd = holds.shows.wide in
          recorded (set words w n) (at_two w (mark_in w n) n holds.was) w n next leaves shows
          (seen-drawn words (views_of views) holds.was id v.view (noted v.view w n r) w n holds.seen at-view (omega arith) (omega arith) more refl)
          (λ x. two-else w (mark_in w n) n holds.was x 0 (inr (λ z. omega arith)) ∙ holds.first x) members own_only (get_or-set_other words w 4488 n 0 (λ e. omega arith))

      -- the word w was looked at
      pub shown : (w : ℕ) → w < 4224 → SideLeaves sys (more_lanes r) holds.now → ((o s : ℕ) (b : Bool) → member_by o s i b ≡ b) → SideHolds sys (set words w (get_or words w 0)) (set views id (side_noted v w (get_or words w 0) r))
      shown w low leaves none = subst (λ ws. SideHolds sys ws (set views id (side_noted v w (get_or words w 0) r))) (sym (set-get_or words w 0))
          (recorded words holds.was w (get_or words w 0) holds.now leaves holds.shows
          (seen-looked words words (views_of views) holds.was id v.view (noted v.view w (get_or words w 0) r) w (get_or words w 0) holds.seen at-view (omega arith) (λ x l. refl) refl refl)
          holds.first (λ o s h. sym (none o s (has (holds.now.set s).members o))) (λ o z s b. none o s b) refl)
