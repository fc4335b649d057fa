-- What the seat that has taken over all others tells of each.
use Rattle.std.proofs.Common.{◌≡◌, ℕ, ◌<◌, ◌≤◌, Bool, true, false, cond, eqb, eqb-true, List, [], ◌∷◌, ◌++◌, length, map, get_or, replicate, IsPermutation, IsTrue, refl, sym, ap, subst, ◌∙◌, inl, inr, arith}
use mathlib.Core.Logic.{dite}
use native.Mathlib.Decide.{ℕ_discrete}
use Rattle.qp_model.specs.declared.record.Rec.{Rec}
use Rattle.qp_model.specs.declared.systems.System.{System}
use Rattle.qp_model.specs.declared.words.Word.{Word}
use Rattle.qp_model.specs.declared.words.Word.TheVariants as word
use Rattle.qp_model.specs.History.{all_items, hist}
use Rattle.qp_model.specs.Machine.{Machine, after}
use Rattle.qp_model.specs.Subscribers.{subscribers}
use Rattle.qp_model.specs.TimeEvents.{time_event}
use Rattle.qp_model.specs.WordLaw.{Keeps, is_signal, is_timer}
use Rattle.qp_model.proofs.MachineLemmas.{Counts, count-after}
use Rattle.qp_model.proofs.WordLawLemmas.{subscribers-counts, time_event-counts}
use Rattle.qp_table.specs.Counting.{Each, sum_over, many}
use Rattle.qp_table.specs.Rule.{is_log, mark_in}
use Rattle.qp_table.specs.declared.view.Glance.{Glance}
use Rattle.qp_table.specs.declared.view.SeatLog.{SeatLog}
use Rattle.qp_table.proofs.Counting.{total-append, each-map}
use Rattle.qp_table.proofs.Marks.{low-mark}
use Rattle.qp_table.specs.Words.{later, latest}
use Rattle.qp_side.specs.Rule.{signal_at, timer_at, SideFitting}
use Rattle.qp_side.specs.Told.{last_seen, both_of}
use Rattle.qp_side.specs.Laws.{IsSideWhole}
use Rattle.qp_side.specs.declared.view.SideView.{SideView}
use Rattle.qp_side.proofs.Places.{signal-low, timer-low}
use Rattle.qp_side.specs.Seat.{first_recs, side_recs, side_mark}
use Rattle.qp_side.specs.Ending.{SideEnds, joined_last}
use Rattle.qp_side.proofs.Permuting.{IsLane, Covers, recs_all, permuted, same-law, same-hist}

each-parts : {A : Type 0} (P : A → Type 0) (xs ys : List A) → Each P (xs ++ ys) → Each P xs × Each P ys
each-parts P [] ys e = (tt, e)
each-parts P (x ∷ xs) ys e = let r = each-parts P xs ys e.1 in ((e.0, r.0), r.1)

-- a view's own log
abbrev first_log : List SeatLog → SeatLog
first_log [] = record { number = 0; recs = [] }
first_log (g ∷ gs) = g

abbrev log_of : SideView → SeatLog
log_of v = first_log v.view.logs

one-log : (gs : List SeatLog) → length gs ≡ 1 → gs ≡ first_log gs ∷ []
one-log [] e = absurd (omega arith)
one-log (g ∷ []) e = refl
one-log (g ∷ h ∷ gs) e = absurd (omega arith)

log-recs : (views : List SideView) → recs_all (map log_of views) ≡ map side_recs views
log-recs [] = refl
log-recs (v ∷ vs) = λ i. go v.view.logs i ∷ log-recs vs i
  where
    go : (gs : List SeatLog) → (first_log gs).recs ≡ first_recs gs
    go [] = refl
    go (g ∷ gs) = refl

-- what a seat has that took over others
module _ (v : SideView) where
  joined-logs : (P : SeatLog → Type 0) (views : List SideView) → Each (λ (w : SideView). length w.view.logs ≡ 1) views → Each P (joined_last v views).view.logs → Each P (map log_of views)
  joined-logs P [] ones e = tt
  joined-logs P (w ∷ ws) ones e =
      let r = each-parts P (joined_last v ws).view.logs w.view.logs e in
      let own : Each P (log_of w ∷ []) = subst (Each P) (one-log w.view.logs ones.0) r.1 in
      (own.0, joined-logs P ws ones.1 r.0)

  joined-many : (p : SeatLog → Bool) (views : List SideView) → v.view.logs ≡ [] → Each (λ (w : SideView). length w.view.logs ≡ 1) views → many p (joined_last v views).view.logs ≡ many p (map log_of views)
  joined-many p [] none ones = ap (many p) none
  joined-many p (w ∷ ws) none ones =
      let r = joined-many p ws none ones.1 in
      let a = total-append (λ (g : SeatLog). cond (p g) 1 0) (joined_last v ws).view.logs w.view.logs in
      let o : many p w.view.logs ≡ many p (log_of w ∷ []) = ap (many p) (one-log w.view.logs ones.0) in omega arith

  joined-seen : (P : Glance → Type 0) (views : List SideView) → Each P (joined_last v views).view.seen → Each (λ (w : SideView). Each P w.view.seen) views
  joined-seen P [] e = tt
  joined-seen P (w ∷ ws) e = let r = each-parts P (joined_last v ws).view.seen w.view.seen e in (r.1, joined-seen P ws r.0)

  joined-answered : (P : ℕ → Type 0) (views : List SideView) → Each P (joined_last v views).answered → Each (λ (w : SideView). Each P w.answered) views
  joined-answered P [] e = tt
  joined-answered P (w ∷ ws) e = let r = each-parts P (joined_last v ws).answered w.answered e in (r.1, joined-answered P ws r.0)

  joined-stops : (p : ℕ → Bool) (views : List SideView) → v.stops ≡ [] → many p (joined_last v views).stops ≡ sum_over (λ (w : SideView). many p w.stops) views
  joined-stops p [] none = ap (many p) none
  joined-stops p (w ∷ ws) none = let r = joined-stops p ws none in let a = total-append (λ k. cond (p k) 1 0) (joined_last v ws).stops w.stops in omega arith

-- the last is taken over first
pub joined-snoc : (v : SideView) (views : List SideView) (w : SideView) → joined_last v (views ++ w ∷ []) ≡ joined_last (both_of v w) views
joined-snoc v [] w = refl
joined-snoc v (x ∷ xs) w = ap (λ z. both_of z x) (joined-snoc v xs w)

-- what was seen last of a word is something that was seen, or nothing was
latest-below : (w most x : ℕ) (seen : List Glance) → mark_in w x ≤ most → Each (λ (g : Glance). g.word ≡ w → mark_in w g.value ≤ most) seen → mark_in w (latest w x seen) ≤ most
unfolding latest
latest-below w most x [] le e = le
latest-below w most x (g ∷ gs) le e = latest-below w most (cond (eqb g.word w) (later w x g.value) x) gs (go (eqb g.word w) refl) e.1
  where
    pick : (b : Bool) → mark_in w g.value ≤ most → mark_in w (cond b g.value x) ≤ most
    pick true h = h
    pick false h = le

    go : (b : Bool) → eqb g.word w ≡ b → mark_in w (cond b (later w x g.value) x) ≤ most
    go true is = pick _ (e.0 (eqb-true g.word w is))
    go false is = le

module _ (sys : System) (fit : SideFitting sys) (root : SideView) (views : List SideView) (bare : root.view.logs ≡ []) (quiet : root.stops ≡ []) (ones : Each (λ (w : SideView). length w.view.logs ≡ 1) views) (whole : IsSideWhole sys (joined_last root views)) where
  order : (k : ℕ) × IsPermutation whole.lanes (recs_all (map log_of views) ++ replicate k [])
  order = permuted whole.lanes (map log_of views) (joined-logs root (IsLane whole.lanes) views ones whole.own) covers
    where
      covers : (n : ℕ) → n < length whole.lanes → Covers whole.lanes (map log_of views) n
      covers n lt =
          let c = whole.count in let o = whole.once n (omega arith) in let j = joined-many root (is_log n) views bare ones in
          dite (ℕ_discrete (many (is_log n) (map log_of views)) 1) (λ one. inl one) (λ no. inr (omega arith, whole.rest n (omega arith) (omega arith)))

  abbrev lanes : List (List Rec)
  lanes = map side_recs views

  law-of : {S : Type 0} (m : Machine S) (w : Word) → Keeps S m w whole.lanes → Keeps S m w lanes
  law-of m w law = subst (Keeps _ m w) (log-recs views) (same-law whole.lanes (recs_all (map log_of views)) order.0 order.1 w m law)

  hist-of : {S : Type 0} (m : Machine S) (w : Word) → Keeps S m w whole.lanes → hist w (all_items lanes) ≡ hist w (all_items whole.lanes)
  hist-of m w law = ap (λ ls. hist w (all_items ls)) (sym (log-recs views)) ∙ same-hist whole.lanes (recs_all (map log_of views)) order.0 order.1 w m law

  -- the count of a word is the length of its history
  counted : {S : Type 0} (m : Machine S) (w : Word) (s : S) → Counts S m → Keeps S m w whole.lanes → after m (hist w (all_items whole.lanes)) ≡ s → m.count s ≡ length (hist w (all_items lanes))
  counted m w s counts law is = ap m.count (sym is) ∙ (count-after m counts (hist w (all_items whole.lanes)) law.allowed ∙ ap length (sym (hist-of m w law)))

  signal-most : (s : ℕ) → IsTrue (is_signal sys s) → mark_in (signal_at s) (get_or whole.words (signal_at s) 0) ≡ length (hist (word.Signal s) (all_items lanes))
  signal-most s h =
      let l = signal-low sys fit s h in let e = whole.shows.sets s h in let b = (whole.shows.members s h).small in
      let m = low-mark (signal_at s) (get_or whole.words (signal_at s) 0) (omega arith) in
      let c = counted subscribers (word.Signal s) (whole.now.set s) subscribers-counts (whole.leaves.law.signals s h) (whole.leaves.set s h) in omega arith

  timer-most : (t : ℕ) → IsTrue (is_timer sys t) → mark_in (timer_at t) (get_or whole.words (timer_at t) 0) ≡ length (hist (word.Timer t) (all_items lanes))
  timer-most t h =
      let l = (timer-low sys fit t h).1 in let e = whole.shows.clocks t h in let s = whole.shows.small t h in let s0 = s.0 in let s1 = s.1 in
      let m = low-mark (timer_at t) (get_or whole.words (timer_at t) 0) (omega arith) in
      let c = counted time_event (word.Timer t) (whole.now.clock t) time_event-counts (whole.leaves.law.timers t h) (whole.leaves.clock t h) in omega arith

  module _ (v : SideView) (seen : Each (λ (g : Glance). mark_in g.word g.value ≤ mark_in g.word (get_or whole.words g.word 0)) v.view.seen) where
    seen-below : (w : ℕ) → w < 4224 → mark_in w (last_seen w v) ≤ mark_in w (get_or whole.words w 0)
    seen-below w low =
        let z = low-mark w 0 low in
        latest-below w (mark_in w (get_or whole.words w 0)) 0 v.view.seen (omega arith)
        (each-map (λ (g : Glance). mark_in g.word g.value ≤ mark_in g.word (get_or whole.words g.word 0)) (λ (g : Glance). g.word ≡ w → mark_in w g.value ≤ mark_in w (get_or whole.words w 0))
        (λ g le is. subst (λ k. mark_in k g.value ≤ mark_in k (get_or whole.words k 0)) is le) v.view.seen seen)

    guarded : (b : Bool) (k n : ℕ) → (b ≡ true → k ≤ n) → cond b k 0 ≤ n
    guarded true k n h = h refl
    guarded false k n h = omega arith

    mark-below : (w : Word) → side_mark sys v w ≤ length (hist w (all_items lanes))
    mark-below (word.Signal s) = guarded (is_signal sys s) (mark_in (signal_at s) (last_seen (signal_at s) v)) _ (λ h. let l = signal-low sys fit s h in let b = seen-below (signal_at s) (omega arith) in let m = signal-most s h in omega arith)
    mark-below (word.Timer t) = guarded (is_timer sys t) (mark_in (timer_at t) (last_seen (timer_at t) v)) _ (λ h. let l = (timer-low sys fit t h).1 in let b = seen-below (timer_at t) (omega arith) in let m = timer-most t h in omega arith)
    mark-below (word.Pool p) = omega arith
    mark-below (word.Block p b) = omega arith
    mark-below (word.Queue a) = omega arith

  pub ends : SideEnds sys views
  ends = record {
    law = record { signals = λ s h. law-of subscribers (word.Signal s) (whole.leaves.law.signals s h); timers = λ t h. law-of time_event (word.Timer t) (whole.leaves.law.timers t h) };
    marks = each-map (λ (v : SideView). Each (λ (g : Glance). mark_in g.word g.value ≤ mark_in g.word (get_or whole.words g.word 0)) v.view.seen) (λ (v : SideView). (w : Word) → side_mark sys v w ≤ length (hist w (all_items lanes)))
        mark-below views (joined-seen root (λ (g : Glance). mark_in g.word g.value ≤ mark_in g.word (get_or whole.words g.word 0)) views whole.glances);
    code = get_or whole.words 4488 0;
    codes = joined-answered root (λ c. (c ≡ get_or whole.words 4488 0) × (0 < sum_over (λ (x : SideView). many (eqb c) x.stops) views)) views
        (each-map (λ k. (k ≡ get_or whole.words 4488 0) × (0 < many (eqb k) (joined_last root views).stops)) (λ k. (k ≡ get_or whole.words 4488 0) × (0 < sum_over (λ (x : SideView). many (eqb k) x.stops) views))
        (λ k e. (e.0, subst (λ n. 0 < n) (joined-stops root (eqb k) views quiet) e.1)) (joined_last root views).answered whole.codes);
  }
