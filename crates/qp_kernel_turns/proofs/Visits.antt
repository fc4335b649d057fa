-- From what the calls of a visit say to what is known behind it.
use Rattle.std.proofs.Common.{◌≡◌, ℕ, suc, ◌+◌, ◌<◌, ◌≤◌, false, List, [], ◌∷◌, ◌++◌, length, refl, sym, ◌∙◌, ap, subst, inl, inr, Some, arith, append_assoc}
use Rattle.std.specs.Prelude.{IsTrue, slice_get}
use Rattle.std.specs.List.{AllByRecursion}
use Rattle.std.proofs.lemmas.List.{length-reverse}
use Rattle.qp_model.specs.declared.systems.System.{System}
use Rattle.qp_model.specs.declared.systems.ObjectDef.{ObjectDef}
use Rattle.qp_model.specs.declared.record.Rec.{Rec}
use Rattle.qp_model.specs.declared.bodies.Body.TheVariants as body
use Rattle.qp_model.specs.Record.{item_of}
use Rattle.qp_model.specs.Ends.{end_asserted}
use Rattle.qp_model.specs.Sound.{IsSound}
use Rattle.qp_model.specs.Told.{for_object, plain}
use Rattle.qp_model.specs.WordLaw.{is_object}
use Rattle.qp_calls.specs.declared.answers.Counts.{Counts}
use Rattle.qp_calls.specs.declared.tokens.HeldEntry.{HeldEntry}
use Rattle.qp_calls.specs.LaneView.{GrowsOf, LaneView, Roomier, ceiling_in}
use Rattle.qp_calls.specs.Clauses.{Sees, Stops, TakesIt}
use Rattle.qp_calls.specs.Notes.{MayStop, last_code, spills_told, told_note}
use Rattle.qp_calls.specs.Tokens.{hands_after, hands_by}
use Rattle.qp_calls.proofs.NoteLemmas.{last-snoc, ceiling-append}
use Rattle.qp_dispatch.proofs.Quiet.{spills-append}
use Rattle.qp_dispatch.specs.Objects.{BeginsStep}
use Rattle.qp_kernel.specs.Happenings.{lanes_of}
use Rattle.qp_kernel.specs.Turning.{seen_told, Terms}
use Rattle.qp_kernel_turns.specs.declared.objects.Objects.{Objects}
use Rattle.qp_kernel_turns.specs.Objects.{BeginsAt, MayBeginAt, taken_up_by, taken_there}
use Rattle.qp_kernel_turns.specs.Knowing.{Descends, IsAbove, IsLane, IsObjectWithChart, IsRunning, IsScanning, KnowsAt}
use Rattle.qp_model_order.specs.RunOrder.{has_stim}
use Rattle.qp_kernel_turns.specs.declared.halting.Halt.{Halt}
use Rattle.qp_kernel_turns.specs.declared.halting.Halt.TheVariants as halt
use Rattle.qp_kernel_turns.specs.BaseRows.{HasStep, InRow, reading_in}
use Rattle.qp_kernel_turns.specs.Halting.{TurnHalts, asked_once}
use Rattle.qp_kernel_turns.specs.TurnRows.{FewRows, RowStops, bare_row, idle_rows}
use Rattle.qp_kernel_turns.specs.Turning.{Entered, Passed, Stand, Stood, TurnStopped, row_below}
use Rattle.qp_kernel_turns.proofs.Places.{follow-none}
use Rattle.qp_kernel_turns.proofs.SoundObjects.{is-object, numbered, sound-object}
use Rattle.qp_kernel_turns.proofs.Rows.{row-next, row-skip}
use Rattle.qp_kernel_turns.proofs.BaseRows.{few-more, idle-reads, reading-is}
use Rattle.qp_kernel_turns.proofs.Staying.{all-wait}
use Rattle.qp_kernel_turns.proofs.Ends.{ends-few, ends-so}
use Rattle.qp_kernel_turns.proofs.Halted.{halts-few, same-lanes, stops-elsewhere}
use Rattle.qp_kernel_turns.proofs.Looking.{GoesFor, passed, passed-row}
use Rattle.qp_kernel_turns.proofs.Visiting.{at-place, at-rest, entered, entered-row, follows, found, found-stands, spent-ends}
use Rattle.qp_kernel_turns.proofs.Turns.{noted}
use Rattle.qp_model.proofs.AbleLemmas.{some-same}

pub seen-goes : (p : ℕ) (c : Counts) (v v1 v2 : LaneView) → Roomier (asked_once v) v1 → Sees p v1 v2 c → spills_told v.told ≡ false → GoesFor (seen_told p c.f c.l c.m ∷ []) v v2
unfolding hands_after hands_by ceiling_in
seen-goes p c v v1 v2 room sees none =
    let grown = sees.0.grows in
    let told : v2.told ≡ v.told ++ seen_told p c.f c.l c.m ∷ [] = grown.told ∙ ap (λ u. u.told ++ seen_told p c.f c.l c.m ∷ []) room.same in
    record {
      of = grown.sys ∙ ap (λ u. u.sys) room.same;
      told = told;
      serves = λ o. grown.serves o ∙ ap (λ u. u.serves o) room.same;
      hands = grown.hands ∙ ap (λ u. u.hands) room.same;
      ceiling = ap (ceiling_in 0) told ∙ ceiling-append 0 v.told (seen_told p c.f c.l c.m ∷ []);
      spills = rw told (spills-append 0 v.told (plain (body.Seen p c.f c.l c.m) ∷ []) none refl);
    }

pub depth : (sys : System) → IsSound sys → (p : ℕ) (qs : List ℕ) → 0 < p → AllByRecursion (IsObjectWithChart sys) qs → Descends qs → IsAbove p qs → length qs < p
depth sys sound p [] some names descends above = some
depth sys sound p (q ∷ qs) some names descends above =
    let n = names.0 in
    let one = numbered sys sound n.object n.found in
    let rest = depth sys sound q qs (omega (arith, n.is, one)) names.1 descends.1 descends.0 in
    let lt = above.0 in omega (arith, rest, lt)

module _ (sys : System) (sound : IsSound sys) (terms : Terms) (a : Stand) (floor place : ℕ) (o : ObjectDef) (at : slice_get sys.objects place ≡ Some o) where
  -- an object that isn't above the floor
  pub skipped : o.priority ≤ floor → Stood (IsScanning sys terms (row_below sys floor (place + 1))) sys terms a → Passed (row_below sys floor place) sys terms a a
  skipped low k = record {
    looks = refl;
    stack = refl;
    knows = subst (λ ps. Stood (IsScanning sys terms ps) sys terms a) (row-skip sys floor place o at low) k;
    onward = record { hands = follow-none a.objects a.lane a.lane refl; answered = refl; plan = refl };
    lanes = refl;
  }

  pub skipped-row : o.priority ≤ floor → (u : LaneView) → InRow sys terms (row_below sys floor (place + 1)) u a.lane → InRow sys terms (row_below sys floor place) u a.lane
  skipped-row low u r = subst (λ ps. InRow sys terms ps u a.lane) (row-skip sys floor place o at low) r

  module _ (high : floor < o.priority) (known : Stood (IsScanning sys terms (row_below sys floor (place + 1))) sys terms a) where
    pub here : Stood (IsScanning sys terms (o.priority ∷ row_below sys floor place)) sys terms a
    here = subst (λ ps. Stood (IsScanning sys terms ps) sys terms a) (row-next sys floor place o at high) known

    pub is-there : IsTrue (is_object sys o.priority)
    is-there = let n = here.at.above.0.0 in subst (λ i. IsTrue (is_object sys i)) n.is (is-object sys sound n.object n.found)

    pub is-served : IsTrue (a.lane.serves o.priority)
    is-served = let n = here.at.above.0.0 in subst (λ i. IsTrue (a.lane.serves i)) n.is (here.knows.lane.serves n.object n.found)

    pub fits-stack : length a.stack < 32
    fits-stack =
        let s = here.knows.state in
        let n = here.at.above.0.0 in
        let one = numbered sys sound n.object n.found in
        let is = sound-object sys sound n.object.priority n.object n.found in
        let deep = depth sys sound o.priority s.reading.running (omega (arith, n.is, one)) here.at.stack.named here.at.stack.descends here.at.above.0.1 in
        let same : length s.reading.running ≡ length a.stack = ap length here.knows.running ∙ length-reverse a.stack in
        omega (arith, deep, same, is.threshold, is.few_thresholds, n.is)

    row-here : (u : LaneView) → InRow sys terms (row_below sys floor (place + 1)) u a.lane → InRow sys terms (o.priority ∷ row_below sys floor place) u a.lane
    row-here u r = subst (λ ps. InRow sys terms ps u a.lane) (row-next sys floor place o at high) r

    -- a stop within the row
    row-stops : (u w : LaneView) (h : Halt) → InRow sys terms (row_below sys floor (place + 1)) u a.lane → FewRows sys terms here.knows.state.reading.idle w h → RowStops sys terms u w h
    row-stops u w h r few =
        let was = reading-is sys terms here.knows.state a.lane here.knows.stands here.knows.told here.knows.now in
        let own = ap (λ x. x.idle) (sym was ∙ (row-here u r).same) ∙ (row-here u r).row.idle in
        let its = idle-reads sys terms u in
        few-more sys terms here.knows.state.reading.idle (idle_rows sys terms u + bare_row sys) w h (omega (arith, own, its)) few

    pub halted-row : (u w : LaneView) (h : Halt) → InRow sys terms (row_below sys floor (place + 1)) u a.lane → TurnHalts a.lane w h → RowStops sys terms u w h
    halted-row u w h r halts =
        row-stops u w h r (halts-few sys sound terms here.knows.state a.lane w h here.knows.told here.knows.stands here.knows.now here.at.stack.started (all-wait sys here.knows.state here.at.stack) halts)

    module _ (v1 v2 : LaneView) (c : Counts) (room : Roomier (asked_once a.lane) v1) (sees : Sees o.priority v1 v2 c) where
      goes : GoesFor (seen_told o.priority c.f c.l c.m ∷ []) a.lane v2
      goes = seen-goes o.priority c a.lane v1 v2 room sees here.knows.lane.spills

      lanes : lanes_of v2 ≡ lanes_of a.lane
      lanes = same-lanes a.lane v2 (sees.0.grows.plan ∙ ap (λ u. u.plan) room.same) (sees.0.grows.happened ∙ ap (λ u. u.happened) room.same)

      pub empty-row : c.f + c.l ≤ c.m → (u : LaneView) → InRow sys terms (row_below sys floor (place + 1)) u a.lane → InRow sys terms (row_below sys floor place) u v2
      empty-row empty u r =
          passed-row sys sound terms a.looks a.stack a.objects a.lane v2 o.priority (row_below sys floor place) c.f c.l c.m here.knows here.at lanes goes empty u (row-here u r)

      pub seen-empty : c.f + c.l ≤ c.m → Passed (row_below sys floor place) sys terms a (record a { lane = v2 })
      seen-empty empty = record {
        looks = refl;
        stack = refl;
        knows = passed sys sound terms a.looks a.stack a.objects a.lane v2 o.priority (row_below sys floor place) c.f c.l c.m here.knows here.at lanes goes empty;
        onward = record {
          hands = follow-none a.objects a.lane v2 goes.hands;
          answered = sees.0.grows.answered ∙ ap (λ u. u.answered) room.same;
          plan = sees.0.grows.plan ∙ ap (λ u. u.plan) room.same;
        };
        lanes = lanes;
      }

      module _ (some : c.m < c.f + c.l) where
        -- the object's count of entries
        pub its-count : (count : ℕ) → count ≡ taken_up_by a.objects.slots.items o.priority
            → count ≡ (here.knows.objects here.at.above.0.0.object here.at.above.0.0.chart here.at.above.0.0.found here.at.above.0.0.its).slot.object.taken
        its-count count is = is ∙ ap taken_there (at-place sys sound terms a.looks a.stack a.objects a.lane o.priority (row_below sys floor place) c.f c.l c.m here.knows here.at some)

        pub may-begin : (count : ℕ) → count ≡ taken_up_by a.objects.slots.items o.priority → count < terms.budget → terms.budget ≤ 1000000 → MayBeginAt o.priority a.objects
        may-begin count is few most =
            let rest = at-rest sys sound terms a.looks a.stack a.objects a.lane o.priority (row_below sys floor place) c.f c.l c.m here.knows here.at some in
            let same = its-count count is in
            record {
              slot = (here.knows.objects here.at.above.0.0.object here.at.above.0.0.chart here.at.above.0.0.found here.at.above.0.0.its).slot;
              there = at-place sys sound terms a.looks a.stack a.objects a.lane o.priority (row_below sys floor place) c.f c.l c.m here.knows here.at some;
              between = rest.between;
              started = rest.started;
              few = omega (arith, same, few, most);
            }

        pub spent-told : (r : Rec) (v3 v4 : LaneView) → item_of r ≡ record { of = o.priority; body = body.Spent } → GrowsOf r.of (told_note r v2) v2 v3 → Stops 6 v3 v4
            → v4.told ≡ a.lane.told ++ seen_told o.priority c.f c.l c.m ∷ for_object o.priority (plain body.Spent) ∷ []
        spent-told r v3 v4 note grown stops =
            let spent : GrowsOf o.priority (plain body.Spent ∷ []) v2 v3 = noted o.priority body.Spent r v2 v3 note grown in
            ap (λ u. u.told) stops ∙ spent.told ∙ ap (λ ts. ts ++ for_object o.priority (plain body.Spent) ∷ []) goes.told
            ∙ append_assoc a.lane.told (seen_told o.priority c.f c.l c.m ∷ []) (for_object o.priority (plain body.Spent) ∷ [])

        -- its budget is reached
        pub spent-stops : (count : ℕ) (r : Rec) (v3 v4 : LaneView) → count ≡ taken_up_by a.objects.slots.items o.priority → terms.budget ≤ count → item_of r ≡ record { of = o.priority; body = body.Spent }
            → GrowsOf r.of (told_note r v2) v2 v3 → Stops 6 v3 v4 → TurnStopped sys terms a.lane v4
        unfolding last_code
        spent-stops count r v3 v4 is full note grown stops =
            let spent : GrowsOf o.priority (plain body.Spent ∷ []) v2 v3 = noted o.priority body.Spent r v2 v3 note grown in
            let same = its-count count is in
            let told = spent-told r v3 v4 note grown stops in
            let still : lanes_of v4 ≡ lanes_of a.lane = same-lanes v2 v4 (ap (λ u. u.plan) stops ∙ spent.plan) (ap (λ u. u.happened) stops ∙ spent.happened) ∙ lanes in
            record {
              zero = λ end cut. ends-so sys terms end _ _ _ (spent-ends sys sound terms a.looks a.stack a.objects a.lane o.priority (row_below sys floor place) c.f c.l c.m here.knows here.at some v4 still (omega (arith, same, full)) told end cut);
              why = inl (rw (ap (λ u. u.told) stops, spent.told, last-snoc v2.told (for_object o.priority (plain body.Spent))) (omega arith));
            }

        pub spent-row : (count : ℕ) (r : Rec) (v3 v4 : LaneView) → count ≡ taken_up_by a.objects.slots.items o.priority → terms.budget ≤ count → item_of r ≡ record { of = o.priority; body = body.Spent }
            → GrowsOf r.of (told_note r v2) v2 v3 → Stops 6 v3 v4 → (u : LaneView) → InRow sys terms (row_below sys floor (place + 1)) u a.lane → RowStops sys terms u v4 halt.Stopped
        spent-row count r v3 v4 is full note grown stops u row =
            let spent : GrowsOf o.priority (plain body.Spent ∷ []) v2 v3 = noted o.priority body.Spent r v2 v3 note grown in
            let same = its-count count is in
            let still : lanes_of v4 ≡ lanes_of a.lane = same-lanes v2 v4 (ap (λ u. u.plan) stops ∙ spent.plan) (ap (λ u. u.happened) stops ∙ spent.happened) ∙ lanes in
            row-stops u v4 halt.Stopped row (λ threaded. ends-few sys terms end_asserted _ _ _
            (spent-ends sys sound terms a.looks a.stack a.objects a.lane o.priority (row_below sys floor place) c.f c.l c.m here.knows here.at some v4 still (omega (arith, same, full)) (spent-told r v3 v4 note grown stops) end_asserted refl) threaded)

        pub may-stop : (r : Rec) (v3 : LaneView) → item_of r ≡ record { of = o.priority; body = body.Spent } → GrowsOf r.of (told_note r v2) v2 v3 → MayStop 6 v3
        may-stop r v3 note grown =
            let spent : GrowsOf o.priority (plain body.Spent ∷ []) v2 v3 = noted o.priority body.Spent r v2 v3 note grown in
            inr (omega arith, rw spent.told (last-snoc v2.told (for_object o.priority (plain body.Spent))))

        -- the stop word is found set
        pub stop-found : (code : ℕ) (v3 : LaneView) → v3 ≡ record v2 { answered = code ∷ v2.answered; asked = suc v2.asked } → TurnStopped sys terms a.lane v3
        stop-found code v3 is =
            let k = here.knows in
            record {
              zero = λ end cut. ends-so sys terms end _ _ _ (stops-elsewhere sys sound terms (found sys sound terms a.looks a.stack a.objects a.lane o.priority (row_below sys floor place) c.f c.l c.m k here.at some) v2 v3
                  (ap (λ ts. ts ++ seen_told o.priority c.f c.l c.m ∷ []) k.told ∙ sym goes.told)
                  (found-stands sys sound terms a.looks a.stack a.objects a.lane o.priority (row_below sys floor place) c.f c.l c.m k here.at some)
                  (k.now ∙ ap has_stim (sym lanes)) here.at.stack.started (all-wait sys k.state here.at.stack) (ap (λ u. u.plan) is) (ap (λ u. u.happened) is) (ap (λ u. u.told) is) end cut);
              why = inr (rw (is, sees.0.grows.answered, ap (λ u. u.answered) room.same) (omega arith));
            }

        pub found-row : (code : ℕ) (v3 : LaneView) → v3 ≡ record v2 { answered = code ∷ v2.answered; asked = suc v2.asked } → (u : LaneView) → InRow sys terms (row_below sys floor (place + 1)) u a.lane → RowStops sys terms u v3 halt.Stopped
        found-row code v3 is u row =
            let k = here.knows in
            row-stops u v3 halt.Stopped row (λ threaded. ends-few sys terms end_asserted _ _ _
            (stops-elsewhere sys sound terms (found sys sound terms a.looks a.stack a.objects a.lane o.priority (row_below sys floor place) c.f c.l c.m k here.at some) v2 v3
            (ap (λ ts. ts ++ seen_told o.priority c.f c.l c.m ∷ []) k.told ∙ sym goes.told)
            (found-stands sys sound terms a.looks a.stack a.objects a.lane o.priority (row_below sys floor place) c.f c.l c.m k here.at some)
            (k.now ∙ ap has_stim (sym lanes)) here.at.stack.started (all-wait sys k.state here.at.stack) (ap (λ u. u.plan) is) (ap (λ u. u.happened) is) (ap (λ u. u.told) is) end_asserted refl) threaded)

        -- its step begins
        pub step-enters : (count : ℕ) (v3 v4 : LaneView) (e : HeldEntry) (ys : Objects) (stack : List ℕ) → count ≡ taken_up_by a.objects.slots.items o.priority → count < terms.budget → v3 ≡ asked_once v2 → TakesIt o.priority e v3 v4
            → BeginsAt o.priority e a.objects ys → stack ≡ a.stack ++ o.priority ∷ [] → Entered sys terms a (record { looks = a.looks; stack = stack; objects = ys; lane = v4 })
        step-enters count v3 v4 e ys stack is few still takes begins pushed =
            let k = here.knows in
            let its = (k.objects here.at.above.0.0.object here.at.above.0.0.chart here.at.above.0.0.found here.at.above.0.0.its).slot in
            let there = at-place sys sound terms a.looks a.stack a.objects a.lane o.priority (row_below sys floor place) c.f c.l c.m k here.at some in
            let same-slot : begins.slot ≡ its = some-same (some-same (sym begins.there ∙ there)) in
            let count-is = its-count count is in
            let took : TakesIt o.priority e (asked_once v2) v4 = subst (λ u. TakesIt o.priority e u v4) still takes in
            let lane : IsLane sys a.objects.ceiling (asked_once v2) = record {
              of = goes.of ∙ k.lane.of;
              told = k.lane.told ∙ sym goes.ceiling;
              spills = goes.spills;
              serves = λ d found. goes.serves d.priority ∙ k.lane.serves d found;
            } in
            let begun : BeginsStep e its.object begins.later.object = subst (λ sl. BeginsStep e sl.object begins.later.object) same-slot begins.begins in
            let threshold : begins.later.threshold ≡ its.threshold = begins.threshold ∙ ap (λ sl. sl.threshold) same-slot in
            let lower : its.object.taken < terms.budget = omega (arith, count-is, few) in
            record {
              looks = refl;
              runs = record {
                p = o.priority;
                outer = a.stack;
                top = pushed;
                knows = subst (λ l. KnowsAt (IsRunning sys o.priority) sys terms a.looks l ys v4) (sym pushed)
                    (entered sys sound terms a.looks a.stack a.objects a.lane o.priority (row_below sys floor place) c.f c.l c.m k here.at some (asked_once v2) v4 e ys begins.later goes.told goes.hands goes.of lanes lane took lower begins.put threshold begun);
              };
              onward = record {
                hands = follows sys sound terms a.looks a.stack a.objects a.lane o.priority (row_below sys floor place) c.f c.l c.m k here.at some (asked_once v2) v4 e ys begins.later goes.told goes.hands goes.of lanes lane took lower begins.put threshold begun;
                answered = took.adds.grows.answered ∙ sees.0.grows.answered ∙ ap (λ u. u.answered) room.same;
                plan = took.adds.grows.plan ∙ sees.0.grows.plan ∙ ap (λ u. u.plan) room.same;
              };
            }

        pub enters-row : (count : ℕ) (v3 v4 : LaneView) (e : HeldEntry) (ys : Objects) → count ≡ taken_up_by a.objects.slots.items o.priority → count < terms.budget → v3 ≡ asked_once v2 → TakesIt o.priority e v3 v4
            → BeginsAt o.priority e a.objects ys → (u : LaneView) → InRow sys terms (row_below sys floor (place + 1)) u a.lane → HasStep (reading_in sys terms u) (reading_in sys terms v4)
        enters-row count v3 v4 e ys is few still takes begins u row =
            let k = here.knows in
            let its = (k.objects here.at.above.0.0.object here.at.above.0.0.chart here.at.above.0.0.found here.at.above.0.0.its).slot in
            let there = at-place sys sound terms a.looks a.stack a.objects a.lane o.priority (row_below sys floor place) c.f c.l c.m k here.at some in
            let same-slot : begins.slot ≡ its = some-same (some-same (sym begins.there ∙ there)) in
            let count-is = its-count count is in
            let took : TakesIt o.priority e (asked_once v2) v4 = subst (λ u. TakesIt o.priority e u v4) still takes in
            let lane : IsLane sys a.objects.ceiling (asked_once v2) = record {
              of = goes.of ∙ k.lane.of;
              told = k.lane.told ∙ sym goes.ceiling;
              spills = goes.spills;
              serves = λ d found. goes.serves d.priority ∙ k.lane.serves d found;
            } in
            let begun : BeginsStep e its.object begins.later.object = subst (λ sl. BeginsStep e sl.object begins.later.object) same-slot begins.begins in
            let threshold : begins.later.threshold ≡ its.threshold = begins.threshold ∙ ap (λ sl. sl.threshold) same-slot in
            let lower : its.object.taken < terms.budget = omega (arith, count-is, few) in
            entered-row sys sound terms a.looks a.stack a.objects a.lane o.priority (row_below sys floor place) c.f c.l c.m k here.at some (asked_once v2) v4 e ys begins.later goes.told goes.hands goes.of lanes lane took lower begins.put threshold begun u (row-here u row)
