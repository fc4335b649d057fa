-- What the records of a lane's seat on the side table come to.
use Rattle.std.proofs.Common.{◌≡◌, ℕ, zero, suc, ◌+◌, ◌<◌, ◌≤◌, nat_le, Bool, true, false, cond, eqb, List, [], ◌∷◌, length, IsTrue, refl, sym, ap, subst, ◌∙◌, arith}
use Rattle.std.proofs.lemmas.Bool.{and_from, and_parts}
use Rattle.std.proofs.lemmas.Bool.Decides.{nat_tests}
use Rattle.std.specs.Bool.{MatchBool}
use Rattle.std.specs.List.{list_all, list_any}
use Rattle.qp_model.specs.declared.record.Rec.{Rec}
use Rattle.qp_model.specs.declared.systems.System.{System}
use Rattle.qp_model.specs.declared.words.Word.{Word}
use Rattle.qp_model.specs.declared.words.Word.TheVariants as word
use Rattle.qp_model.specs.declared.bodies.Entry.{Entry}
use Rattle.qp_model.specs.declared.bodies.Body.TheVariants.{Sub, Unsub, Same, Pub, Arm, Armed, Disarm, Rearm, Idle, Tick, Fire}
use Rattle.qp_model.specs.Record.{Item, item_of, body_of, body_at}
use Rattle.qp_model.specs.Told.{Told, Event, plain, same_in, for_object, Member}
use Rattle.qp_model.specs.History.{touch_of, lane_items, marks}
use Rattle.qp_model.specs.WordLaw.{is_object, is_signal, is_timer}
use Rattle.qp_table.specs.TwoTables.{on_side}
use Rattle.qp_table.specs.Rule.{is_serve, mark_in}
use Rattle.qp_table.specs.After.{rec_of}
use Rattle.qp_table.specs.declared.view.Glance.{Glance}
use Rattle.qp_calls.specs.LaneView.{LaneView, AddsTold}
use Rattle.qp_calls.specs.Clauses.{Subscribing, Unsubscribing, ReadsSubscribers, Owns, CallArms, CallDisarms, CallRearms, AnswersTick, FewTries, draws_disarmed, draws_ticked}
use Rattle.qp_calls.specs.declared.answers.Arm.TheVariants as armed
use Rattle.qp_calls.specs.declared.answers.Tick as ticking
use Rattle.qp_calls.specs.declared.answers.Tick.TheVariants as ticked
use Rattle.qp_calls_log.specs.declared.log.Log.{Log}
use Rattle.qp_calls_log.specs.Lane.{is_plain}
use Rattle.atomic_table.specs.Seated.{TableId}
use Rattle.qp_table.specs.Lane.{lane_of, told_as}
use Rattle.qp_table.specs.Telling.{Touches, is_on_table}
use Rattle.qp_side.specs.Rule.{signal_at, member_in}
use Rattle.qp_side.specs.Told.{last_seen}
use Rattle.qp_side.specs.declared.view.SideView.{SideView}
use Rattle.qp_side.specs.Seat.{side_recs, serves_object, SideAdds, side_mark}
use Rattle.qp_model.specs.Parts.{OwnsTimer}
use Rattle.qp_side.specs.Calls.{ObjectComes, IsThere, ObjectGoes, SideIsAway, ShowsSet, IsArmed, WasArmed, IsIdleTimer, IsDisarmed, RearmsTimer, IsDown, IsFired, SideTries, own_draw}
use Rattle.qp_shared_lane.specs.declared.lane.LaneState.{LaneState}
use Rattle.qp_shared_lane.specs.Holds.{LaneHolds, SubscriberIs, borne_out, member_over}
use Rattle.qp_shared_lane.specs.Lane.{lane_with, world_of_lane, world_of, state_view}
use Rattle.qp_shared_lane.specs.Laws.{LaneGainsRecord}
use Rattle.qp_shared_lane.specs.More.{IsPut}
use Rattle.qp_shared_lane.proofs.LawLemmas.{side_records_keep_the_lane, spare_gives_room, own_members_are_known}

-- what the records say
sub-says : (o s n : ℕ) → item_of (rec_of 31 o (s ∷ n ∷ [])) ≡ record { of = o; body = Sub s n }
unfolding item_of body_of body_at
sub-says o s n = refl

unsub-says : (o s n : ℕ) → item_of (rec_of 32 o (s ∷ n ∷ [])) ≡ record { of = o; body = Unsub s n }
unfolding item_of body_of body_at
unsub-says o s n = refl

same-says : (o s n : ℕ) → item_of (rec_of 33 o (s ∷ n ∷ [])) ≡ record { of = o; body = Same s n }
unfolding item_of body_of body_at
same-says o s n = refl

pub-says : (o s n set : ℕ) → item_of (rec_of 23 o (s ∷ n ∷ set ∷ [])) ≡ record { of = o; body = Pub s n set }
unfolding item_of body_of body_at
pub-says o s n set = refl

arm-says : (o t n ticks interval : ℕ) → item_of (rec_of 34 o (t ∷ n ∷ ticks ∷ interval ∷ [])) ≡ record { of = o; body = Arm t n ticks interval }
unfolding item_of body_of body_at
arm-says o t n ticks interval = refl

armed-says : (o t n counter : ℕ) → item_of (rec_of 42 o (3 ∷ t ∷ n ∷ counter ∷ [])) ≡ record { of = o; body = Armed t n counter }
unfolding item_of body_of body_at
armed-says o t n counter = refl

disarm-says : (o t n former : ℕ) → item_of (rec_of 35 o (t ∷ n ∷ former ∷ [])) ≡ record { of = o; body = Disarm t n former }
unfolding item_of body_of body_at
disarm-says o t n former = refl

rearm-says : (o t n former ticks : ℕ) → item_of (rec_of 36 o (t ∷ n ∷ former ∷ ticks ∷ [])) ≡ record { of = o; body = Rearm t n former ticks }
unfolding item_of body_of body_at
rearm-says o t n former ticks = refl

idle-says : (o t n : ℕ) → item_of (rec_of 37 o (t ∷ n ∷ [])) ≡ record { of = o; body = Idle t n }
unfolding item_of body_of body_at
idle-says o t n = refl

tick-says : (t n counter : ℕ) → item_of (rec_of 38 0 (t ∷ n ∷ counter ∷ [])) ≡ record { of = 0; body = Tick t n counter }
unfolding item_of body_of body_at
tick-says t n counter = refl

fire-says : (t n reload : ℕ) → item_of (rec_of 39 0 (t ∷ n ∷ reload ∷ [])) ≡ record { of = 0; body = Fire t n reload }
unfolding item_of body_of body_at
fire-says t n reload = refl

-- a higher bound
all-below : (a b : ℕ) (ms : List ℕ) → a ≤ b → list_all (λ m. nat_le m a) ms ≡ true → list_all (λ m. nat_le m b) ms ≡ true
all-below a b [] le h = refl
all-below a b (m ∷ ms) le h = let p = and_parts (nat_le m a) _ h in let q : nat_le m a ≡ true = p.0 in let x : m ≤ a = grind (arith, nat_tests) in let y : m ≤ b = omega arith in
    and_from (nat_le m b) _ (grind (arith, nat_tests)) (all-below a b ms le p.1)

module _ (l : LaneState) where
  abbrev sys : System
  sys = l.sys.now

  abbrev s : SideView
  s = l.side.seat.me.0

  -- what a call asks of the seat
  pub spare-is : 0 < (state_view l).spare → 0 < l.log.spare
  unfolding lane_of
  spare-is h = h

  pub side-room : 0 < (state_view l).spare → length (side_recs s) ≤ 1000000
  side-room h = (spare_gives_room sys l.count l.ceiling l.log l.numbers.list l.seat.me.0 s l.holds (spare-is h)).few

  pub side-object : IsTrue (is_object (state_view l).sys (state_view l).by) → IsTrue (is_object l.side.words.now.shared.key l.by)
  unfolding lane_of
  side-object h = subst (λ k. IsTrue (is_object k l.by)) (sym l.side_key) h

  pub own-object : IsTrue ((state_view l).serves (state_view l).by) → IsTrue (list_any (is_serve l.by) l.seat.me.0.serves)
  unfolding lane_of
  own-object h = h

  pub side-serves : IsTrue ((state_view l).serves (state_view l).by) → IsTrue (serves_object s l.by)
  side-serves h = l.holds.serves l.by ∙ own-object h

  pub own-signal : (sig : ℕ) → IsTrue (is_signal (state_view l).sys sig) → IsTrue (is_signal sys sig)
  unfolding lane_of
  own-signal sig h = h

  pub side-signal : (sig : ℕ) → IsTrue (is_signal (state_view l).sys sig) → IsTrue (is_signal l.side.words.now.shared.key sig)
  side-signal sig h = subst (λ k. IsTrue (is_signal k sig)) (sym l.side_key) (own-signal sig h)

  pub side-timer : (t : ℕ) → IsTrue (is_timer (state_view l).sys t) → IsTrue (is_timer l.side.words.now.shared.key t)
  unfolding lane_of
  side-timer t h = subst (λ k. IsTrue (is_timer k t)) (sym l.side_key) h

  pub side-owns : (t : ℕ) → Owns (state_view l) t → OwnsTimer l.side.words.now.shared.key l.by t
  unfolding lane_of
  side-owns t o = subst (λ k. OwnsTimer k l.by t) (sym l.side_key) (record { some = o.some; timer = o.timer; there = o.there; owner = o.owner })

  module _ (z : SideView) (h : Log) (more : List ℕ) (rec : Rec) (number : ℕ) (put : IsPut rec number l.log l.numbers.list h more) (spare : h.spare + 1 ≡ l.log.spare) where
    abbrev now : LaneView
    now = lane_with (world_of_lane l) sys l.by h more l.seat.me.0 z

    abbrev pub HoldsNow : Type 0
    HoldsNow = LaneHolds sys l.count l.ceiling h more l.seat.me.0 z

    kept : (o : ℕ) (t : Told) (i : Item) (w : Word) (k : ℕ) → item_of rec ≡ i → ((ev : Entry → Event) → told_as ev i number ≡ for_object o t) → on_side (touch_of o t.body) ≡ true → is_on_table w ≡ false → Touches w k (for_object o t)
        → SubscriberIs (λ a. list_any (is_serve a) l.seat.me.0.serves) (lane_items l.log.recs.items) o t.body t.known → ((seen : List Glance) → IsTrue (borne_out sys seen (for_object o t))) → SideAdds sys w k rec s z
        → LaneGainsRecord (world_of_lane l) sys l.by l.count l.ceiling l.log l.numbers.list l.seat.me.0 s h more l.seat.me.0 z l.ceiling (for_object o t)
    kept o t i w k says told on off touches subscriber borne adds = side_records_keep_the_lane (world_of_lane l) sys l.by l.count l.ceiling l.log l.numbers.list l.seat.me.0 s h more z rec number (for_object o t) w k l.holds put (record {
      as_seen = rec;
      says = refl;
      logs = adds.logs;
      told = λ ev. ap (λ j. told_as ev j number) says ∙ told ev;
      on = on;
      word_is = off;
      here = adds.marks.here;
      rise = adds.marks.rise;
      others = adds.marks.others;
      touches = touches;
      lane_numbers = ap (λ (x : SideView). x.view.lane_numbers) adds.rest;
      serves_stay = ap (λ (x : SideView). x.view.serves) adds.rest;
      stops = ap (λ (x : SideView). x.stops) adds.rest;
      answered = ap (λ (x : SideView). x.answered) adds.rest;
      subscriber = subscriber;
      borne = borne;
    })

    module _ (sig : ℕ) (signal : IsTrue (is_signal sys sig)) where
      -- a change of subscribers is at a number that isn't below those seen
      change : (n : ℕ) → side_mark sys s (word.Signal sig) ≤ n → IsTrue (list_all (λ m. nat_le m n) (marks (word.Signal sig) (lane_items l.log.recs.items)))
      change n up = all-below (mark_in (signal_at sig) (last_seen (signal_at sig) s)) n _ (subst (λ b. cond {A = ℕ} b (mark_in (signal_at sig) (last_seen (signal_at sig) s)) 0 ≤ n) signal up) (l.holds.side_behind sig signal)

      module _ (mine : IsTrue (list_any (is_serve l.by) l.seat.me.0.serves)) where
        known : (b : Bool) → member_in l.by sig s.view.logs ≡ b → IsTrue (list_any (is_serve l.by) l.seat.me.0.serves) × (Member b ≡ Member (member_over l.by sig false (lane_items l.log.recs.items)))
        known b was = (mine, ap Member (sym was ∙ sym (own_members_are_known sys l.count l.ceiling l.log l.numbers.list l.seat.me.0 s l.holds l.by sig)))

        -- a record that shows whether the object is a subscriber
        shown : (b : Bool) (n : ℕ) → number ≡ cond b 1 0 → rec ≡ rec_of 33 l.by (sig ∷ n ∷ []) → SideAdds sys (word.Signal sig) n rec s z → member_in l.by sig s.view.logs ≡ b → HoldsNow × AddsTold (same_in sig n b ∷ []) (state_view l) now
        unfolding lane_of
        shown b n at is adds was =
            let k = kept l.by (same_in sig n b) _ (word.Signal sig) n (ap item_of is ∙ same-says l.by sig n) (λ ev. ap (λ (x : Bool). for_object l.by (same_in sig n x)) (ap (λ m. eqb m 1) at ∙ one b)) refl refl (record { marks = λ y. refl; only = λ y. refl }) (known b was) (λ seen. signal) adds in
            (k.holds, record { grows = k.gains; spare = spare })
          where
            one : (x : Bool) → eqb (cond x 1 0) 1 ≡ x
            one true = refl
            one false = refl

        pub subscribed : (b : Bool) → number ≡ 1 → MatchBool b (ObjectComes sys l.by sig s rec z) (IsThere sys l.by sig s rec z) → HoldsNow × Subscribing sig (state_view l) now b
        unfolding lane_of
        subscribed true at a = let k = kept l.by (plain (Sub sig a.n)) _ (word.Signal sig) (suc a.n) (ap item_of a.is ∙ sub-says l.by sig a.n) (λ ev. refl) refl refl (record { marks = λ y. refl; only = λ y. refl }) (mine, change a.n a.draws.up) (λ seen. refl) a.draws.adds in
            let e = a.draws.adds.marks.here in let up = a.draws.up in
            (k.holds, (a.n, record { grows = k.gains; spare = spare }, omega arith))
        subscribed false at a = let k = shown true a.n at a.is a.adds a.was in (k.0, (a.n, k.1))

        pub unsubscribed : (b : Bool) → number ≡ 0 → MatchBool b (ObjectGoes sys l.by sig s rec z) (SideIsAway sys l.by sig s rec z) → HoldsNow × Unsubscribing sig (state_view l) now b
        unfolding lane_of
        unsubscribed true at a = let k = kept l.by (plain (Unsub sig a.n)) _ (word.Signal sig) (suc a.n) (ap item_of a.is ∙ unsub-says l.by sig a.n) (λ ev. refl) refl refl (record { marks = λ y. refl; only = λ y. refl }) (mine, change a.n a.draws.up) (λ seen. refl) a.draws.adds in
            let e = a.draws.adds.marks.here in let up = a.draws.up in
            (k.holds, (a.n, record { grows = k.gains; spare = spare }, omega arith))
        unsubscribed false at a = let k = shown false a.n at a.is a.adds a.was in (k.0, (a.n, k.1))

      pub reads : (set : ℕ) (a : ShowsSet sys l.by sig s rec z) → set ≡ a.set → HoldsNow × ReadsSubscribers sig (state_view l) now set
      unfolding lane_of
      reads set a same = let k = kept l.by (plain (Pub sig a.n a.set)) _ (word.Signal sig) a.n (ap item_of a.is ∙ pub-says l.by sig a.n a.set) (λ ev. refl) refl refl (record { marks = λ y. refl; only = λ y. refl }) tt (λ seen. refl) a.adds in
          (k.holds, subst (ReadsSubscribers sig (state_view l) now) (sym same) (a.n, record { grows = k.gains; spare = spare }, a.known))

    module _ (t : ℕ) where
      pub arms : (ticks interval : ℕ) → IsArmed sys l.by t ticks interval s rec z → HoldsNow × CallArms t ticks interval (state_view l) now armed.Done
      unfolding lane_of
      arms ticks interval a = let k = kept l.by (plain (Arm t a.n ticks interval)) _ (word.Timer t) (suc a.n) (ap item_of a.is ∙ arm-says l.by t a.n ticks interval) (λ ev. refl) refl refl (record { marks = λ y. refl; only = λ y. refl }) tt (λ seen. refl) a.draws.adds in
          let e = a.draws.adds.marks.here in let up = a.draws.up in (k.holds, (a.n, record { grows = k.gains; spare = spare }, omega arith))

      pub arms-not : (ticks interval n c : ℕ) (a : WasArmed sys l.by t s rec z) → n ≡ a.n → c ≡ a.counter → HoldsNow × CallArms t ticks interval (state_view l) now (armed.Armed n c)
      unfolding lane_of
      arms-not ticks interval n c a n_is c_is = let k = kept l.by (plain (Armed t a.n a.counter)) _ (word.Timer t) a.n (ap item_of a.is ∙ armed-says l.by t a.n a.counter) (λ ev. refl) refl refl (record { marks = λ y. refl; only = λ y. refl }) tt (λ seen. refl) a.adds in
          (k.holds, subst (λ (q : ℕ × ℕ). CallArms t ticks interval (state_view l) now (armed.Armed q.0 q.1)) (λ i. (sym n_is i, sym c_is i)) (record { grows = k.gains; spare = spare }, a.some))

      idles : (a : IsIdleTimer sys l.by t s rec z) → HoldsNow × AddsTold (plain (Idle t a.n) ∷ []) (state_view l) now
      unfolding lane_of
      idles a = let k = kept l.by (plain (Idle t a.n)) _ (word.Timer t) a.n (ap item_of a.is ∙ idle-says l.by t a.n) (λ ev. refl) refl refl (record { marks = λ y. refl; only = λ y. refl }) tt (λ seen. refl) a.adds in (k.holds, record { grows = k.gains; spare = spare })

      pub disarms-not : IsIdleTimer sys l.by t s rec z → HoldsNow × CallDisarms t (state_view l) now 0
      disarms-not a = let k = idles a in (k.0, (a.n, k.1))

      pub disarms : (former : ℕ) (a : IsDisarmed sys l.by t s rec z) → former ≡ a.former → HoldsNow × CallDisarms t (state_view l) now former
      unfolding lane_of
      disarms zero a same = let some = a.some in absurd (omega arith)
      disarms (suc c) a same = let k = kept l.by (plain (Disarm t a.n (suc c))) _ (word.Timer t) (suc a.n) (ap item_of a.is ∙ (disarm-says l.by t a.n a.former ∙ ap (λ f. record { of = l.by; body = Disarm t a.n f }) (sym same))) (λ ev. refl) refl refl (record { marks = λ y. refl; only = λ y. refl }) tt (λ seen. refl) a.draws.adds in
          let e = a.draws.adds.marks.here in let up = a.draws.up in (k.holds, (a.n, record { grows = k.gains; spare = spare }, omega arith))

      pub rearms : (ticks former : ℕ) (a : RearmsTimer sys l.by t ticks s rec z) → former ≡ a.former → HoldsNow × CallRearms t ticks (state_view l) now former
      unfolding lane_of
      rearms ticks former a same = let k = kept l.by (plain (Rearm t a.n a.former ticks)) _ (word.Timer t) (suc a.n) (ap item_of a.is ∙ rearm-says l.by t a.n a.former ticks) (λ ev. refl) refl refl (record { marks = λ y. refl; only = λ y. refl }) tt (λ seen. refl) a.draws.adds in
          let e = a.draws.adds.marks.here in let up = a.draws.up in (k.holds, subst (CallRearms t ticks (state_view l) now) (sym same) (a.n, record { grows = k.gains; spare = spare }, omega arith))

      ticks-not : IsIdleTimer sys l.by t s rec z → HoldsNow × AnswersTick t (state_view l) now ticked.Idle
      ticks-not a = let k = idles a in (k.0, (a.n, k.1))

      ticks-down : IsDown sys t s rec z → HoldsNow × AnswersTick t (state_view l) now ticked.Down
      unfolding lane_of
      ticks-down a = let k = kept 0 (plain (Tick t a.n a.counter)) _ (word.Timer t) (suc a.n) (ap item_of a.is ∙ tick-says t a.n a.counter) (λ ev. refl) refl refl (record { marks = λ y. refl; only = λ y. refl }) tt (λ seen. refl) a.draws.adds in
          let e = a.draws.adds.marks.here in let up = a.draws.up in (k.holds, (a.counter, a.some, (a.n, record { grows = k.gains; spare = spare }, omega arith)))

      fires : IsFired sys t s rec z → HoldsNow × AnswersTick t (state_view l) now ticked.Fired
      unfolding lane_of
      fires a = let k = kept 0 (plain (Fire t a.n a.reload)) _ (word.Timer t) (suc a.n) (ap item_of a.is ∙ fire-says t a.n a.reload) (λ ev. refl) refl refl (record { marks = λ y. refl; only = λ y. refl }) tt (λ seen. refl) a.draws.adds in
          let e = a.draws.adds.marks.here in let up = a.draws.up in (k.holds, (a.reload, (a.n, record { grows = k.gains; spare = spare }, omega arith)))

      -- a tick's answer is that of its record
      pub ticks : (answer : ticking.Tick) (idle fired : Bool) → (rec.kind ≡ 37 → answer ≡ ticked.Idle) → (rec.kind ≡ 39 → answer ≡ ticked.Fired) → (rec.kind ≡ 38 → answer ≡ ticked.Down) → MatchBool idle (IsIdleTimer sys l.by t s rec z) (MatchBool fired (IsFired sys t s rec z) (IsDown sys t s rec z))
          → HoldsNow × AnswersTick t (state_view l) now answer × (own_draw rec.kind ≡ draws_ticked answer)
      ticks answer true fired i f d a = let e = i (ap (λ (r : Rec). r.kind) a.is) in let k = ticks-not a in (k.0, subst (AnswersTick t (state_view l) now) (sym e) k.1, ap (λ (r : Rec). own_draw r.kind) a.is ∙ ap draws_ticked (sym e))
      ticks answer false true i f d a = let e = f (ap (λ (r : Rec). r.kind) a.is) in let k = fires a in (k.0, subst (AnswersTick t (state_view l) now) (sym e) k.1, ap (λ (r : Rec). own_draw r.kind) a.is ∙ ap draws_ticked (sym e))
      ticks answer false false i f d a = let e = d (ap (λ (r : Rec). r.kind) a.is) in let k = ticks-down a in (k.0, subst (AnswersTick t (state_view l) now) (sym e) k.1, ap (λ (r : Rec). own_draw r.kind) a.is ∙ ap draws_ticked (sym e))

      pub tried : (own before after : ℕ) → own_draw rec.kind ≡ own → SideTries sys (word.Timer t) rec before after s z → FewTries (word.Timer t) own before after (state_view l) now
      unfolding lane_of
      tried own before after is a = record { up = a.up; few = let f = a.few in omega arith }

    -- the seat's table is the one that it was of
    pub in-world : (P : LaneView → Type 0) (side : TableId) → side ≡ l.side.words.now.shared.table_id → P now → P (lane_with (world_of l.words.now.shared.table_id side l.count) sys l.by h more l.seat.me.0 z)
    in-world P side is p = subst (λ x. P (lane_with (world_of l.words.now.shared.table_id x l.count) sys l.by h more l.seat.me.0 z)) (sym is) p

-- None of the records is a `nil` or a `spill`.
plain-by : (rec : Rec) (i : Item) → item_of rec ≡ i → is_plain i.body ≡ true → is_plain (item_of rec).body ≡ true
plain-by rec i says h = ap (λ (j : Item). is_plain j.body) says ∙ h

module _ (sys : System) (o : ℕ) (s : SideView) (rec : Rec) (z : SideView) where
  pub subscribe-plain : (sig : ℕ) (b : Bool) → MatchBool b (ObjectComes sys o sig s rec z) (IsThere sys o sig s rec z) → is_plain (item_of rec).body ≡ true
  subscribe-plain sig true a = plain-by rec _ (ap item_of a.is ∙ sub-says o sig a.n) refl
  subscribe-plain sig false a = plain-by rec _ (ap item_of a.is ∙ same-says o sig a.n) refl

  pub unsubscribe-plain : (sig : ℕ) (b : Bool) → MatchBool b (ObjectGoes sys o sig s rec z) (SideIsAway sys o sig s rec z) → is_plain (item_of rec).body ≡ true
  unsubscribe-plain sig true a = plain-by rec _ (ap item_of a.is ∙ unsub-says o sig a.n) refl
  unsubscribe-plain sig false a = plain-by rec _ (ap item_of a.is ∙ same-says o sig a.n) refl

  pub set-plain : (sig : ℕ) → ShowsSet sys o sig s rec z → is_plain (item_of rec).body ≡ true
  set-plain sig a = plain-by rec _ (ap item_of a.is ∙ pub-says o sig a.n a.set) refl

  pub arm-plain : (t ticks interval : ℕ) → IsArmed sys o t ticks interval s rec z → is_plain (item_of rec).body ≡ true
  arm-plain t ticks interval a = plain-by rec _ (ap item_of a.is ∙ arm-says o t a.n ticks interval) refl

  pub armed-plain : (t : ℕ) → WasArmed sys o t s rec z → is_plain (item_of rec).body ≡ true
  armed-plain t a = plain-by rec _ (ap item_of a.is ∙ armed-says o t a.n a.counter) refl

  pub disarm-plain : (t : ℕ) → IsDisarmed sys o t s rec z → is_plain (item_of rec).body ≡ true
  disarm-plain t a = plain-by rec _ (ap item_of a.is ∙ disarm-says o t a.n a.former) refl

  pub idle-plain : (t : ℕ) → IsIdleTimer sys o t s rec z → is_plain (item_of rec).body ≡ true
  idle-plain t a = plain-by rec _ (ap item_of a.is ∙ idle-says o t a.n) refl

  pub rearm-plain : (t ticks : ℕ) → RearmsTimer sys o t ticks s rec z → is_plain (item_of rec).body ≡ true
  rearm-plain t ticks a = plain-by rec _ (ap item_of a.is ∙ rearm-says o t a.n a.former ticks) refl

  pub tick-plain : (t : ℕ) (idle fired : Bool) → MatchBool idle (IsIdleTimer sys o t s rec z) (MatchBool fired (IsFired sys t s rec z) (IsDown sys t s rec z)) → is_plain (item_of rec).body ≡ true
  tick-plain t true fired a = idle-plain t a
  tick-plain t false true a = plain-by rec _ (ap item_of a.is ∙ fire-says t a.n a.reload) refl
  tick-plain t false false a = plain-by rec _ (ap item_of a.is ∙ tick-says t a.n a.counter) refl

-- a former counter that isn't 0 is an operation
pub some-draw : (n former : ℕ) → n ≡ former → 0 < former → draws_disarmed n ≡ 1
some-draw zero former same some = absurd (omega arith)
some-draw (suc c) former same some = refl
