-- Steps on the word of a time event.
use Rattle.std.proofs.Common.{◌≡◌, ℕ, zero, suc, ◌+◌, ◌-◌, ◌*◌, ◌/◌, ◌<◌, ◌≤◌, ◌≢◌, Bool, true, false, cond, List, [], ◌∷◌, ◌++◌, length, set, get_or, refl, sym, ap, subst, ◌∙◌, arith, eqb, eq-eqb, ne_eqb, eqb-true, true≢false, get_or-set_same, get_or-set_other, IsTrue}
use prog.Atomic.{either}
use mathlib.Core.Option.{some}
use mathlib.Core.Logic.{dite}
use native.Mathlib.Decide.{ℕ_discrete}
use lib.ListN.{get_elem?}
use Rattle.atomic_table.proofs.Lists.{exchanged}
use Rattle.std.specs.Prelude.{None}
use Rattle.qp_chart.specs.StateTree.{has}
use Rattle.qp_model.specs.declared.record.Rec.{Rec}
use Rattle.qp_model.specs.declared.systems.System.{System}
use Rattle.qp_model.specs.declared.words.Word.TheVariants as word
use Rattle.qp_model.specs.declared.bodies.Body.TheVariants.{Arm, Disarm, Rearm, Idle, Tick, Fire, Armed}
use Rattle.qp_model.specs.Record.{Item, item_of, body_of, body_at}
use Rattle.qp_model.specs.History.{touch, mark_of}
use Rattle.qp_model.specs.TimeEvents.{Clock, time_event}
use Rattle.qp_model.specs.WordLaw.{is_timer}
use Rattle.qp_model.proofs.WordLemmas.{Held}
use Rattle.qp_model.proofs.WordLawLemmas.{time_event-counts}
use Rattle.qp_model.proofs.SideLemmas.{held-arm, held-disarm, held-rearm, held-tick, held-fire, held-idle, held-armed}
use Rattle.qp_table.specs.Now.{at}
use Rattle.qp_table.specs.Rule.{mark_in}
use Rattle.qp_table.specs.After.{rec_of, HasRoom}
use Rattle.qp_table.proofs.Marks.{low-mark}
use Rattle.qp_side.specs.Rule.{signal_at, timer_at, clock_value, SideShows, SideHolds, member_by}
use Rattle.qp_side.specs.Told.{side_glanced, side_noted, last_seen, SideSaw, counter_in, interval_in, eyed_armed, eyed_idle, eyed_clock, EyeTimerTold, TimerTold, tick_rec}
use Rattle.qp_side.specs.Laws.{EyeArmsTell, EyeIdlesTell, EyeClocksTell, ArmsTell, DisarmsTell, RearmsTell, TicksTell}
use Rattle.qp_side.specs.declared.view.SideView.{SideView}
use Rattle.qp_side.proofs.Places.{few-operations, signal-low, timer-low, at-here, at-else}
use Rattle.qp_side.proofs.StepLemmas.{saw, glances, lane, held-clock, more_lanes, leaves-clock, leaves-shown-clock, drawn, shown}

-- what the records say
arm-says : (o t n ticks interval : ℕ) → item_of (rec_of 34 o (t ∷ n ∷ ticks ∷ interval ∷ [])) ≡ record { of = o; body = Arm t n ticks interval }
unfolding item_of body_of body_at
arm-says o t n ticks interval = refl

disarm-says : (o t n former : ℕ) → item_of (rec_of 35 o (t ∷ n ∷ former ∷ [])) ≡ record { of = o; body = Disarm t n former }
unfolding item_of body_of body_at
disarm-says o t n former = refl

rearm-says : (o t n former ticks : ℕ) → item_of (rec_of 36 o (t ∷ n ∷ former ∷ ticks ∷ [])) ≡ record { of = o; body = Rearm t n former ticks }
unfolding item_of body_of body_at
rearm-says o t n former ticks = refl

idle-says : (o t n : ℕ) → item_of (rec_of 37 o (t ∷ n ∷ [])) ≡ record { of = o; body = Idle t n }
unfolding item_of body_of body_at
idle-says o t n = refl

tick-says : (o t n counter : ℕ) → item_of (rec_of 38 o (t ∷ n ∷ counter ∷ [])) ≡ record { of = o; body = Tick t n counter }
unfolding item_of body_of body_at
tick-says o t n counter = refl

fire-says : (o t n reload : ℕ) → item_of (rec_of 39 o (t ∷ n ∷ reload ∷ [])) ≡ record { of = o; body = Fire t n reload }
unfolding item_of body_of body_at
fire-says o t n reload = refl

armed-says : (o t n counter : ℕ) → item_of (rec_of 42 o (3 ∷ t ∷ n ∷ counter ∷ [])) ≡ record { of = o; body = Armed t n counter }
unfolding item_of body_of body_at
armed-says o t n counter = refl

module _ (sys : System) (words : List ℕ) (views : List SideView) (holds : SideHolds sys words views) (id : ℕ) (v : SideView) (at_id : get_elem? views id ≡ some v) (t : ℕ) (timer : IsTrue (is_timer sys t)) where
  abbrev n : ℕ
  n = get_or words (timer_at t) 0

  abbrev q : Clock
  q = holds.now.clock t

  low : timer_at t < 4224
  low = let l = (timer-low sys holds.fitting t timer).1 in omega arith

  -- the word as its state
  pub reads : (n / 4294967296 ≡ q.count) × (counter_in n ≡ q.counter) × (interval_in n ≡ q.interval)
  reads = let e = holds.shows.clocks t timer in let s = holds.shows.small t timer in let s0 = s.0 in let s1 = s.1 in (omega arith, omega arith, omega arith)

  pub word-small : n < 288230376151711744
  word-small = let e = holds.shows.clocks t timer in let s = holds.shows.small t timer in let s0 = s.0 in let s1 = s.1 in
      let c : q.count ≤ 49000049 = few-operations time_event (word.Timer t) holds.lanes q time_event-counts (holds.leaves.law.timers t timer) (holds.leaves.clock t timer) holds.logs.count holds.logs.room in omega arith

  pub saw-here : (u : SideView) → u.view.seen ≡ v.view.seen ++ record { word = timer_at t; value = n } ∷ [] → SideSaw (timer_at t) v u n n
  saw-here u seen = let l = low in saw sys words views holds id v at_id (timer_at t) n u (omega arith) (omega arith) (λ e. refl) seen

  pub just-glances : SideHolds sys (set words (timer_at t) n) (set views id (side_glanced v (timer_at t) n))
  just-glances = let l = low in glances sys words views holds id v at_id (timer_at t) (omega arith)

  -- who saw the value x last, which the word isn't any more, finds more operations
  pub later-found : (x : ℕ) → last_seen (timer_at t) v ≡ x → n ≢ x → mark_in (timer_at t) x < mark_in (timer_at t) n
  later-found x last ne = let s = saw-here (side_glanced v (timer_at t) n) refl in let le = s.le in let e = ap (mark_in (timer_at t)) last in
      dite (ℕ_discrete (mark_in (timer_at t) x) (mark_in (timer_at t) n)) (λ same. absurd (ne (sym (sym last ∙ s.same (omega arith))))) (λ other. omega arith)

  shows-next : (next : Clock) (x : ℕ) → x ≡ clock_value next → next.counter < 65536 → next.interval < 65536 → SideShows sys (set words (timer_at t) x) (record holds.now { clock = at t next holds.now.clock })
  shows-next next x is few_left few_each = let l = low in let wd = holds.shows.wide in let lt = (timer-low sys holds.fitting t timer).0 in record {
    wide = wide-set words (timer_at t) x ∙ wd;
    sets = λ s h. let r = signal-low sys holds.fitting s h in get_or-set_other words (timer_at t) (signal_at s) x 0 (λ e. omega arith) ∙ holds.shows.sets s h;
    clocks = λ y h. dite (ℕ_discrete y t)
        (λ e. ap (λ z. get_or (set words (timer_at t) x) (timer_at z) 0) e ∙ (get_or-set_same words (timer_at t) x 0 (omega arith) ∙ (is ∙ sym (ap clock_value (ap (at t next holds.now.clock) e ∙ at-here t next holds.now.clock)))))
        (λ ne. get_or-set_other words (timer_at t) (timer_at y) x 0 (λ e. ne (omega arith)) ∙ (holds.shows.clocks y h ∙ sym (ap clock_value (at-else t next holds.now.clock y ne))));
    members = holds.shows.members;
    small = λ y h. dite (ℕ_discrete y t)
        (λ e. subst (λ (z : Clock). (z.counter < 65536) × (z.interval < 65536)) (sym (ap (at t next holds.now.clock) e ∙ at-here t next holds.now.clock)) (few_left, few_each))
        (λ ne. subst (λ (z : Clock). (z.counter < 65536) × (z.interval < 65536)) (sym (at-else t next holds.now.clock y ne)) (holds.shows.small y h));
  }
    where
      wide-set : (ws : List ℕ) (i y : ℕ) → length (set ws i y) ≡ length ws
      wide-set [] i y = refl
      wide-set (w ∷ ws) zero y = refl
      wide-set (w ∷ ws) (suc i) y = ap suc (wide-set ws i y)

  module _ (room : HasRoom v.view) where
    abbrev grown : Rec → List (List Rec)
    grown r = more_lanes sys words views holds id v at_id room r

    -- the time event becomes another, with a record of it
    becomes : (r : Rec) (i : Item) → item_of r ≡ i → (next : Clock) (x : ℕ) → Held Clock time_event (word.Timer t) (grown r) next → next.count ≡ q.count + 1 → next.counter < 65536 → next.interval < 65536 → x ≡ clock_value next
        → ((y : ℕ) → y ≢ t → mark_of (word.Timer y) (touch i) ≡ None) → ((s : ℕ) → mark_of (word.Signal s) (touch i) ≡ None) → ((o s : ℕ) (b : Bool) → member_by o s i b ≡ b)
        → SideHolds sys (set words (timer_at t) x) (set views id (side_noted v (timer_at t) x r)) × SideSaw (timer_at t) v (side_noted v (timer_at t) x r) n x × (mark_in (timer_at t) n < mark_in (timer_at t) x)
    becomes r i is next x held up few_left few_each value others signals none =
        let l = low in let a = low-mark (timer_at t) n l in let b = low-mark (timer_at t) x l in let e = reads.0 in
        let more : mark_in (timer_at t) n < mark_in (timer_at t) x = omega arith in (
          drawn sys words views holds id v at_id room r i is (timer_at t) x (record holds.now { clock = at t next holds.now.clock }) l more
              (leaves-clock sys words views holds id v at_id room r i is t next held others signals) (shows-next next x value few_left few_each)
              (λ o s h. sym (none o s (has (holds.now.set s).members o))) (λ o z s c. none o s c),
          saw sys words views holds id v at_id (timer_at t) x (side_noted v (timer_at t) x r) (omega arith) (omega arith) (λ e. absurd (omega arith)) refl,
          more,
        )

    pub shows-idle : (o : ℕ) → counter_in n ≡ 0 → SideHolds sys (set words (timer_at t) n) (set views id (side_noted v (timer_at t) n (rec_of 37 o (t ∷ (n / 4294967296) ∷ []))))
    shows-idle o none =
        let r = rec_of 37 o (t ∷ (n / 4294967296) ∷ []) in let i : Item = record { of = o; body = Idle t (n / 4294967296) } in let is : item_of r ≡ i = idle-says o t (n / 4294967296) in
        let c = reads in let x = lane sys words views holds id v at_id room in
        shown sys words views holds id v at_id room r i is (timer_at t) low
        (leaves-shown-clock sys words views holds id v at_id room r i is t
        (held-idle x.before room.own.recs x.behind r t q (held-clock sys words views holds id v at_id room t timer) o (is ∙ ap (λ k. record { of = o; body = Idle t k }) c.0) (sym c.1 ∙ none))
        (λ y ne. rw (ne_eqb t y (λ e. ne (sym e))) refl) (λ s. refl)) (λ p z b. refl)

    pub shows-armed : (o : ℕ) → 0 < counter_in n → SideHolds sys (set words (timer_at t) n) (set views id (side_noted v (timer_at t) n (rec_of 42 o (3 ∷ t ∷ (n / 4294967296) ∷ counter_in n ∷ []))))
    shows-armed o some_left =
        let r = rec_of 42 o (3 ∷ t ∷ (n / 4294967296) ∷ counter_in n ∷ []) in let i : Item = record { of = o; body = Armed t (n / 4294967296) (counter_in n) } in let is : item_of r ≡ i = armed-says o t (n / 4294967296) (counter_in n) in
        let c = reads in let c1 = c.1 in let x = lane sys words views holds id v at_id room in
        shown sys words views holds id v at_id room r i is (timer_at t) low
        (leaves-shown-clock sys words views holds id v at_id room r i is t
        (held-armed x.before room.own.recs x.behind r t q (held-clock sys words views holds id v at_id room t timer) o (is ∙ (λ j. record { of = o; body = Armed t (c.0 j) (c.1 j) })) (omega arith))
        (λ y ne. rw (ne_eqb t y (λ e. ne (sym e))) refl) (λ s. refl)) (λ p z b. refl)

    abbrev pub Became : Rec → ℕ → Type 0
    Became r x = SideHolds sys (set words (timer_at t) x) (set views id (side_noted v (timer_at t) x r)) × SideSaw (timer_at t) v (side_noted v (timer_at t) x r) n x × (mark_in (timer_at t) n < mark_in (timer_at t) x)

    pub arms : (o ticks interval x : ℕ) → ticks < 65536 → interval < 65536 → counter_in n ≡ 0 → x ≡ (n / 4294967296 + 1) * 4294967296 + interval * 65536 + ticks → Became (rec_of 34 o (t ∷ (n / 4294967296) ∷ ticks ∷ interval ∷ [])) x
    arms o ticks interval x few_left few_each none is_x =
        let r = rec_of 34 o (t ∷ (n / 4294967296) ∷ ticks ∷ interval ∷ []) in let i : Item = record { of = o; body = Arm t (n / 4294967296) ticks interval } in let is : item_of r ≡ i = arm-says o t (n / 4294967296) ticks interval in
        let c = reads in let c0 = c.0 in let z = lane sys words views holds id v at_id room in
        becomes r i is (record { count = q.count + 1; counter = ticks; interval = interval }) x
        (held-arm z.before room.own.recs z.behind r t q (held-clock sys words views holds id v at_id room t timer) o ticks interval (is ∙ ap (λ k. record { of = o; body = Arm t k ticks interval }) c.0) (sym c.1 ∙ none))
        refl few_left few_each (omega arith) (λ y ne. rw (ne_eqb t y (λ e. ne (sym e))) refl) (λ s. refl) (λ p s b. refl)

    pub disarms : (o x : ℕ) → 0 < counter_in n → x + counter_in n ≡ n + 4294967296 → Became (rec_of 35 o (t ∷ (n / 4294967296) ∷ counter_in n ∷ [])) x
    disarms o x some_left is_x =
        let r = rec_of 35 o (t ∷ (n / 4294967296) ∷ counter_in n ∷ []) in let i : Item = record { of = o; body = Disarm t (n / 4294967296) (counter_in n) } in let is : item_of r ≡ i = disarm-says o t (n / 4294967296) (counter_in n) in
        let c = reads in let c1 = c.1 in let e = holds.shows.clocks t timer in let s = holds.shows.small t timer in let z = lane sys words views holds id v at_id room in
        becomes r i is (record { count = q.count + 1; counter = 0; interval = q.interval }) x
        (held-disarm z.before room.own.recs z.behind r t q (held-clock sys words views holds id v at_id room t timer) o (is ∙ (λ j. record { of = o; body = Disarm t (c.0 j) (c.1 j) })) (omega arith))
        refl (omega arith) s.1 (omega arith) (λ y ne. rw (ne_eqb t y (λ e. ne (sym e))) refl) (λ s. refl) (λ p s b. refl)

    pub rearms : (o ticks x : ℕ) → ticks < 65536 → x + counter_in n ≡ n + 4294967296 + ticks → Became (rec_of 36 o (t ∷ (n / 4294967296) ∷ counter_in n ∷ ticks ∷ [])) x
    rearms o ticks x few_left is_x =
        let r = rec_of 36 o (t ∷ (n / 4294967296) ∷ counter_in n ∷ ticks ∷ []) in let i : Item = record { of = o; body = Rearm t (n / 4294967296) (counter_in n) ticks } in let is : item_of r ≡ i = rearm-says o t (n / 4294967296) (counter_in n) ticks in
        let c = reads in let c1 = c.1 in let e = holds.shows.clocks t timer in let s = holds.shows.small t timer in let z = lane sys words views holds id v at_id room in
        becomes r i is (record { count = q.count + 1; counter = ticks; interval = q.interval }) x
        (held-rearm z.before room.own.recs z.behind r t q (held-clock sys words views holds id v at_id room t timer) o ticks (is ∙ (λ j. record { of = o; body = Rearm t (c.0 j) (c.1 j) ticks })))
        refl few_left s.1 (omega arith) (λ y ne. rw (ne_eqb t y (λ e. ne (sym e))) refl) (λ s. refl) (λ p s b. refl)

    pub ticks-one : (x : ℕ) → 0 < counter_in n → x + 1 ≡ n + 4294967296 + cond (eqb (counter_in n) 1) (interval_in n) 0 → Became (tick_rec t n) x
    ticks-one x some_left is_x = go (eqb (counter_in n) 1) refl is_x
      where
        go : (b : Bool) → eqb (counter_in n) 1 ≡ b → x + 1 ≡ n + 4294967296 + cond b (interval_in n) 0
            → Became (cond {A = Rec} b (rec_of 39 0 (t ∷ (n / 4294967296) ∷ interval_in n ∷ [])) (rec_of 38 0 (t ∷ (n / 4294967296) ∷ (counter_in n - 1) ∷ []))) x
        go true one is_x =
            let r = rec_of 39 0 (t ∷ (n / 4294967296) ∷ interval_in n ∷ []) in let i : Item = record { of = 0; body = Fire t (n / 4294967296) (interval_in n) } in let is : item_of r ≡ i = fire-says 0 t (n / 4294967296) (interval_in n) in
            let c = reads in let c1 = c.1 in let c2 = c.2 in let e = holds.shows.clocks t timer in let s = holds.shows.small t timer in let z = lane sys words views holds id v at_id room in
            let last = eqb-true (counter_in n) 1 one in
            becomes r i is (record { count = q.count + 1; counter = q.interval; interval = q.interval }) x
            (held-fire z.before room.own.recs z.behind r t q (held-clock sys words views holds id v at_id room t timer) 0 (is ∙ (λ j. record { of = 0; body = Fire t (c.0 j) (c.2 j) })) (omega arith))
            refl s.1 s.1 (omega arith) (λ y ne. rw (ne_eqb t y (λ e. ne (sym e))) refl) (λ s. refl) (λ p s b. refl)
        go false more is_x =
            let r = rec_of 38 0 (t ∷ (n / 4294967296) ∷ (counter_in n - 1) ∷ []) in let i : Item = record { of = 0; body = Tick t (n / 4294967296) (counter_in n - 1) } in let is : item_of r ≡ i = tick-says 0 t (n / 4294967296) (counter_in n - 1) in
            let c = reads in let c1 = c.1 in let e = holds.shows.clocks t timer in let s = holds.shows.small t timer in let s0 = s.0 in let z = lane sys words views holds id v at_id room in
            let above : counter_in n ≢ 1 = (λ w. true≢false (sym (eq-eqb (counter_in n) 1 w) ∙ more)) in
            let left : 1 < counter_in n = two-of (counter_in n) some_left above in
            becomes r i is (record { count = q.count + 1; counter = counter_in n - 1; interval = q.interval }) x
            (held-tick z.before room.own.recs z.behind r t q (held-clock sys words views holds id v at_id room t timer) 0 (counter_in n - 1) (is ∙ ap (λ k. record { of = 0; body = Tick t k (counter_in n - 1) }) c.0) (omega arith) (omega arith))
            refl (omega arith) s.1 (omega arith) (λ y ne. rw (ne_eqb t y (λ e. ne (sym e))) refl) (λ s. refl) (λ p s b. refl)
          where
            two-of : (c : ℕ) → 0 < c → c ≢ 1 → 1 < c
            two-of c pos ne = dite (ℕ_discrete c 1) (λ e. absurd (ne e)) (λ d. omega arith)

    -- looks, with their records
    pub eye-armed : (o : ℕ) → SideHolds sys (set words (timer_at t) n) (set views id (eyed_armed o t v n)) × EyeTimerTold (eyed_armed o t) t v n (eyed_armed o t v n)
    eye-armed o = let z = go (eqb (counter_in n) 0) refl in (z.0, (refl, saw-here (eyed_armed o t v n) z.1, word-small))
      where
        go : (b : Bool) → eqb (counter_in n) 0 ≡ b → let u = cond {A = SideView} b (side_glanced v (timer_at t) n) (side_noted v (timer_at t) n (rec_of 42 o (3 ∷ t ∷ (n / 4294967296) ∷ counter_in n ∷ []))) in
            SideHolds sys (set words (timer_at t) n) (set views id u) × (u.view.seen ≡ v.view.seen ++ record { word = timer_at t; value = n } ∷ [])
        go true e = (just-glances, refl)
        go false e = (shows-armed o (dite (ℕ_discrete (counter_in n) 0) (λ z. absurd (true≢false (sym (eq-eqb (counter_in n) 0 z) ∙ e))) (λ ne. omega arith)), refl)

    pub eye-idle : (o : ℕ) → SideHolds sys (set words (timer_at t) n) (set views id (eyed_idle o t v n)) × EyeTimerTold (eyed_idle o t) t v n (eyed_idle o t v n)
    eye-idle o = let z = go (eqb (counter_in n) 0) refl in (z.0, (refl, saw-here (eyed_idle o t v n) z.1, word-small))
      where
        go : (b : Bool) → eqb (counter_in n) 0 ≡ b → let u = cond {A = SideView} b (side_noted v (timer_at t) n (rec_of 37 o (t ∷ (n / 4294967296) ∷ []))) (side_glanced v (timer_at t) n) in
            SideHolds sys (set words (timer_at t) n) (set views id u) × (u.view.seen ≡ v.view.seen ++ record { word = timer_at t; value = n } ∷ [])
        go true e = (shows-idle o (eqb-true (counter_in n) 0 e), refl)
        go false e = (just-glances, refl)

  pub eye-clock : SideHolds sys (set words (timer_at t) n) (set views id (eyed_clock t v n)) × EyeTimerTold (eyed_clock t) t v n (eyed_clock t v n)
  eye-clock = (just-glances, (refl, saw-here (eyed_clock t v n) refl, word-small))

  -- A try, where what happens at the value last seen is known of the word
  pub tried : (eyed : SideView → ℕ → SideView) (r : Rec) (old new : ℕ) → last_seen (timer_at t) v ≡ old
      → (n ≡ old → SideHolds sys (set words (timer_at t) new) (set views id (side_noted v (timer_at t) new r)) × SideSaw (timer_at t) v (side_noted v (timer_at t) new r) old new × (mark_in (timer_at t) old < mark_in (timer_at t) new))
      → SideHolds sys (set words (timer_at t) n) (set views id (eyed v n)) × EyeTimerTold eyed t v n (eyed v n)
      → (u : SideView) × SideHolds sys (set words (timer_at t) (either (eqb n old) new n)) (set views id u) × TimerTold eyed r t old new v n u
  tried eyed r old new last hit miss = exchanged n old new (λ x. (u : SideView) × SideHolds sys (set words (timer_at t) x) (set views id u) × TimerTold eyed r t old new v n u)
      (λ e. let h = hit e in (side_noted v (timer_at t) new r, h.0, ((λ s. (refl, h.1, h.2)), (λ ne. absurd (ne e)))))
      (λ ne. (eyed v n, miss.0, ((λ e. absurd (ne e)), (λ s. (later-found old last ne, miss.1)))))

pub eye-arms : EyeArmsTell
eye-arms sys id v room o t timer words views holds at small = let z = eye-armed sys words views holds id v at t timer room o in (eyed_armed o t v (get_or words (timer_at t) 0), z.0, z.1)

pub eye-idles : EyeIdlesTell
eye-idles sys id v room o t timer words views holds at small = let z = eye-idle sys words views holds id v at t timer room o in (eyed_idle o t v (get_or words (timer_at t) 0), z.0, z.1)

pub eye-clocks : EyeClocksTell
eye-clocks sys id v t timer words views holds at small = let z = eye-clock sys words views holds id v at t timer in (eyed_clock t v (get_or words (timer_at t) 0), z.0, z.1)

module _ (sys : System) (words : List ℕ) (views : List SideView) (holds : SideHolds sys words views) (id : ℕ) (v : SideView) (at_id : get_elem? views id ≡ some v) (t : ℕ) (timer : IsTrue (is_timer sys t)) (room : HasRoom v.view) (old new : ℕ) (rec : ℕ → Rec) where
  abbrev Done : ℕ → Type 0
  Done n = SideHolds sys (set words (timer_at t) new) (set views id (side_noted v (timer_at t) new (rec n))) × SideSaw (timer_at t) v (side_noted v (timer_at t) new (rec n)) n new × (mark_in (timer_at t) n < mark_in (timer_at t) new)

pub arms-tell : ArmsTell
arms-tell sys id v room o t ticks interval old new timer few_left few_each last none is_new words views holds at small =
    tried sys words views holds id v at t timer (eyed_armed o t) (rec_of 34 o (t ∷ (old / 4294967296) ∷ ticks ∷ interval ∷ [])) old new last
    (λ e. subst (λ n. Done sys words views holds id v at t timer room old new (λ n. rec_of 34 o (t ∷ (n / 4294967296) ∷ ticks ∷ interval ∷ [])) n) e
    (arms sys words views holds id v at t timer room o ticks interval new few_left few_each (ap counter_in e ∙ none) (is_new ∙ ap (λ n. (n / 4294967296 + 1) * 4294967296 + interval * 65536 + ticks) (sym e))))
    (eye-armed sys words views holds id v at t timer room o)

pub disarms-tell : DisarmsTell
disarms-tell sys id v room o t old new timer last some_left is_new words views holds at small =
    tried sys words views holds id v at t timer (eyed_idle o t) (rec_of 35 o (t ∷ (old / 4294967296) ∷ counter_in old ∷ [])) old new last
    (λ e. subst (λ n. Done sys words views holds id v at t timer room old new (λ n. rec_of 35 o (t ∷ (n / 4294967296) ∷ counter_in n ∷ [])) n) e
    (disarms sys words views holds id v at t timer room o new (subst (λ n. 0 < counter_in n) (sym e) some_left) (subst (λ n. new + counter_in n ≡ n + 4294967296) (sym e) is_new)))
    (eye-idle sys words views holds id v at t timer room o)

pub rearms-tell : RearmsTell
rearms-tell sys id v room o t ticks old new timer few_left last is_new words views holds at small =
    tried sys words views holds id v at t timer (eyed_clock t) (rec_of 36 o (t ∷ (old / 4294967296) ∷ counter_in old ∷ ticks ∷ [])) old new last
    (λ e. subst (λ n. Done sys words views holds id v at t timer room old new (λ n. rec_of 36 o (t ∷ (n / 4294967296) ∷ counter_in n ∷ ticks ∷ [])) n) e
    (rearms sys words views holds id v at t timer room o ticks new few_left (subst (λ n. new + counter_in n ≡ n + 4294967296 + ticks) (sym e) is_new)))
    (eye-clock sys words views holds id v at t timer)

pub ticks-tell : TicksTell
ticks-tell sys id v room o t old new timer last some_left is_new words views holds at small =
    tried sys words views holds id v at t timer (eyed_idle o t) (tick_rec t old) old new last
    (λ e. subst (λ n. Done sys words views holds id v at t timer room old new (tick_rec t) n) e
    (ticks-one sys words views holds id v at t timer room new (subst (λ n. 0 < counter_in n) (sym e) some_left) (subst (λ n. new + 1 ≡ n + 4294967296 + cond (eqb (counter_in n) 1) (interval_in n) 0) (sym e) is_new)))
    (eye-idle sys words views holds id v at t timer room o)
