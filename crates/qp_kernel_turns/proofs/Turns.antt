-- From what the calls of a turn say to what is known behind them.
use Rattle.std.proofs.Common.{◌≡◌, ℕ, ◌+◌, ◌<◌, ◌==◌, Bool, true, false, List, [], ◌∷◌, ◌++◌, length, refl, sym, ◌∙◌, ap, subst, inl, inr, arith}
use Rattle.std.specs.Prelude.{◌⊎◌}
use Rattle.std.proofs.lemmas.Bool.Decides.{nat_tests}
use Rattle.qp_model.specs.declared.systems.System.{System}
use Rattle.qp_model.specs.declared.record.Rec.{Rec}
use Rattle.qp_model.specs.declared.bodies.Body.{Body}
use Rattle.qp_model.specs.declared.bodies.Body.TheVariants as body
use Rattle.qp_model.specs.Record.{Item, body_of, item_of}
use Rattle.qp_model.specs.Sound.{IsSound}
use Rattle.qp_model.specs.KernelLane.{above}
use Rattle.qp_model.specs.Told.{Told, plain}
use Rattle.qp_model_order.specs.RunOrder.{has_stim}
use Rattle.qp_model_order.specs.Placing.{AreBehind}
use Rattle.qp_model_order.proofs.OrderLaws.{stimuli_are_their_own}
use Rattle.qp_model_order.proofs.StimulusForm.{items-append}
use Rattle.qp_calls.specs.LaneView.{GrowsOf, LaneView, Roomier, ceiling_in}
use Rattle.qp_calls.specs.Notes.{spills_told, note_told, told_note}
use Rattle.qp_calls.specs.Tokens.{hands_after, hands_by}
use Rattle.qp_calls.proofs.NoteLemmas.{ceiling-append}
use Rattle.qp_dispatch.proofs.Quiet.{spills-append}
use Rattle.qp_kernel.specs.Happenings.{lanes_from, lanes_of}
use Rattle.qp_kernel.specs.Interrupting.{Happens, HappensToFail, HappensInPart, FindsNoRoom, HasNone, IsLaneKept, IsStopped, is_unset}
use Rattle.qp_kernel.specs.Turning.{look_told, Terms}
use Rattle.qp_kernel_turns.specs.Halting.{asked_once}
use Rattle.qp_kernel_turns.specs.Knowing.{IsScanning, KnowsAt, MayLook}
use Rattle.qp_kernel_turns.specs.declared.halting.Halt.TheVariants as halt
use Rattle.qp_kernel_turns.specs.BaseRows.{InRow}
use Rattle.qp_kernel_turns.specs.TurnRows.{RowStops}
use Rattle.qp_kernel_turns.specs.Turning.{GoesOnward, Looked, Stand, Stood, TurnStopped, floor_of}
use Rattle.qp_kernel_turns.proofs.Pending.{look-stays}
use Rattle.qp_kernel_turns.proofs.Places.{follow-none}
use Rattle.qp_kernel_turns.proofs.Halted.{same-lanes}
use Rattle.qp_kernel_turns.proofs.Ends.{ends-so}
use Rattle.qp_kernel_turns.proofs.Looking.{GoesFor, look-few, look-stops, looked, looked-row}
use Rattle.qp_kernel_turns.proofs.Stims.{stim-here, stim-there, stims-more, stims-same}

-- a note, told
pub noted : (o : ℕ) (b : Body) (r : Rec) (v w : LaneView) → item_of r ≡ record { of = o; body = b } → GrowsOf r.of (told_note r v) v w → GrowsOf o (note_told (ceiling_in 0 v.told) b ∷ []) v w
unfolding told_note item_of body_of
noted o b r v w is grown =
    let here : body_of r ≡ b = ap (λ (i : Item). i.body) is in
    let mine : r.of ≡ o = ap (λ (i : Item). i.of) is in
    subst (λ i. GrowsOf i (note_told (ceiling_in 0 v.told) b ∷ []) v w) mine (subst (λ x. GrowsOf r.of (note_told (ceiling_in 0 v.told) x ∷ []) v w) here grown)

-- `room` and a look, and what happens in it
pub look-goes : (n floor : ℕ) (v v1 v2 : LaneView) → Roomier (asked_once v) v1 → GrowsOf 0 (plain (body.Look n floor) ∷ []) v1 v2 → spills_told v.told ≡ false → GoesFor (look_told n floor ∷ []) v v2
unfolding hands_after hands_by ceiling_in
look-goes n floor v v1 v2 room grown none =
    let told : v2.told ≡ v.told ++ look_told n floor ∷ [] = grown.told ∙ ap (λ u. u.told ++ look_told n floor ∷ []) room.same in
    record {
      of = grown.sys ∙ ap (λ u. u.sys) room.same;
      told = told;
      serves = λ o. grown.serves o ∙ ap (λ u. u.serves o) room.same;
      hands = grown.hands ∙ ap (λ u. u.hands) room.same;
      ceiling = ap (ceiling_in 0) told ∙ ceiling-append 0 v.told (look_told n floor ∷ []);
      spills = rw told (spills-append 0 v.told (plain (body.Look n floor) ∷ []) none refl);
    }

pub kept-goes : (n floor : ℕ) (v v2 v3 : LaneView) → GoesFor (look_told n floor ∷ []) v v2 → IsLaneKept v2 v3 → v3.hands ≡ v2.hands → GoesFor (look_told n floor ∷ []) v v3
kept-goes n floor v v2 v3 goes kept hands = record {
  of = kept.sys ∙ goes.of;
  told = kept.told ∙ goes.told;
  serves = λ o. kept.serves o ∙ goes.serves o;
  hands = hands ∙ goes.hands;
  ceiling = ap (ceiling_in 0) kept.told ∙ goes.ceiling;
  spills = rw (kept.told) goes.spills;
}

module _ (sys : System) (sound : IsSound sys) (terms : Terms) (a : Stand) (k : Stood (MayLook sys terms) sys terms a) (n floor : ℕ) (count : n ≡ a.looks + 1) (low : floor ≡ floor_of sys terms a)
    (v1 v2 v3 : LaneView) (room : Roomier (asked_once a.lane) v1) (grown : GrowsOf 0 (plain (body.Look n floor) ∷ []) v1 v2) where
  goes-two : GoesFor (look_told n floor ∷ []) a.lane v2
  goes-two = look-goes n floor a.lane v1 v2 room grown k.knows.lane.spills

  lanes-two : lanes_of v2 ≡ lanes_of a.lane
  lanes-two = same-lanes a.lane v2 (grown.plan ∙ ap (λ u. u.plan) room.same) (grown.happened ∙ ap (λ u. u.happened) room.same)

  abbrev b : Stand
  b = record a { looks = n; lane = v3 }

  onward-of : v3.hands ≡ v2.hands → v3.answered ≡ v2.answered → v3.plan ≡ v2.plan → GoesOnward a.objects a.lane a.objects v3
  onward-of hands answered plan = record {
    hands = follow-none a.objects a.lane v3 (hands ∙ goes-two.hands);
    answered = answered ∙ grown.answered ∙ ap (λ u. u.answered) room.same;
    plan = plan ∙ grown.plan ∙ ap (λ u. u.plan) room.same;
  }

  looked-by : (came : Bool) → IsLaneKept v2 v3 → v3.hands ≡ v2.hands → v3.answered ≡ v2.answered → ((m : ℕ) → (n == m) ≡ false → has_stim (lanes_of v3) m ≡ has_stim (lanes_of v2) m) → has_stim (lanes_of v3) n ≡ came
      → Looked sys terms a b came
  looked-by came kept hands answered others here = record {
    counted = count;
    stack = refl;
    knows = subst (λ f. KnowsAt (IsScanning sys terms (above sys f)) sys terms n a.stack a.objects v3) low
        (looked sys sound terms a.looks a.stack a.objects a.lane v3 n floor k.knows k.at count low
        (λ m le. let other : (n == m) ≡ false = let lt : m < n = omega (arith, le, count) in grind (arith, nat_tests) in others m other ∙ ap (λ l. has_stim l m) lanes-two)
        (kept-goes n floor a.lane v2 v3 goes-two kept hands)
        (λ m lt. let other : (n == m) ≡ false = grind (arith, nat_tests) in others m other ∙ ap (λ l. has_stim l m) lanes-two ∙ k.knows.later m (omega (arith, lt, count))));
    onward = onward-of hands answered kept.plan;
    happened = here;
    stays = look-stays n floor a.lane v1 v2 v3 room grown kept;
    row = subst (λ f. InRow sys terms (above sys f) a.lane v3) low
        (looked-row sys sound terms a.looks a.stack a.objects a.lane v3 n floor k.knows k.at count low
        (λ m le. let other : (n == m) ≡ false = let lt : m < n = omega (arith, le, count) in grind (arith, nat_tests) in others m other ∙ ap (λ l. has_stim l m) lanes-two)
        (kept-goes n floor a.lane v2 v3 goes-two kept hands)
        (λ m lt. let other : (n == m) ≡ false = grind (arith, nat_tests) in others m other ∙ ap (λ l. has_stim l m) lanes-two ∙ k.knows.later m (omega (arith, lt, count))));
  }

  lanes-none : IsLaneKept v2 v3 → v3.happened ≡ v2.happened → lanes_of v3 ≡ lanes_of v2
  lanes-none kept still = same-lanes v2 v3 kept.plan still

  -- nothing happened
  pub looked-none : (acts base : Bool) → HasNone acts base v2 v3 → Looked sys terms a b false
  looked-none acts base h =
      let same = lanes-none h.untouched.kept h.happened in
      looked-by false h.untouched.kept h.untouched.hands h.untouched.answered (λ m other. ap (λ l. has_stim l m) same)
      (ap (λ l. has_stim l n) (same ∙ lanes-two) ∙ k.knows.later n (omega (arith, count)))

  lanes-come : (source : ℕ) (g : List Told) → IsLaneKept v2 v3 → v3.happened ≡ v2.happened ++ (record { at = length v2.told; source = source; told = g }) ∷ []
      → lanes_of v3 ≡ lanes_from 1 v2.plan (v2.happened ++ (record { at = length v2.told; source = source; told = g }) ∷ [])
  lanes-come source g kept come = ap (λ p. lanes_from 1 p v3.happened) kept.plan ∙ ap (λ h. lanes_from 1 v2.plan h) come

  -- a stimulus happened
  pub looked-some : (base : Bool) → Happens n base v2 v3 → Looked sys terms a b true
  looked-some base h =
      let come = lanes-come h.source (plain (body.Stim h.place n) ∷ h.one) h.untouched.kept h.comes in
      let behind = ((stimuli_are_their_own v2.sys h.s false).0 h.one h.fits).behind in
      looked-by true h.untouched.kept h.untouched.hands h.untouched.answered
      (λ m other. ap (λ l. has_stim l m) come ∙ stims-same m 1 v2.plan v2.happened (record { at = length v2.told; source = h.source; told = plain (body.Stim h.place n) ∷ h.one }) (stim-there false h.place n m h.one other behind))
      (ap (λ l. has_stim l n) come
      ∙ stims-more n 1 v2.plan v2.happened (record { at = length v2.told; source = h.source; told = plain (body.Stim h.place n) ∷ h.one }) (stim-here h.place n h.one) (let some = h.acts.some in omega (arith, some)) (let few = h.acts.few in omega (arith, few)))

  -- the run stops in the look
  stopped-by : IsLaneKept v2 v3 → ((m : ℕ) → (n == m) ≡ false → has_stim (lanes_of v3) m ≡ has_stim (lanes_of v2) m) → length a.lane.answered < length v3.answered → TurnStopped sys terms a.lane v3
  stopped-by kept others found = record {
    zero = λ end cut. ends-so sys terms end _ _ _ (look-stops sys sound terms a.looks a.stack a.objects a.lane v3 n floor k.knows k.at count low
        (λ m le. let other : (n == m) ≡ false = let lt : m < n = omega (arith, le, count) in grind (arith, nat_tests) in others m other ∙ ap (λ l. has_stim l m) lanes-two)
        (kept.told ∙ goes-two.told) end cut);
    why = inr found;
  }

  stopped-row : IsLaneKept v2 v3 → ((m : ℕ) → (n == m) ≡ false → has_stim (lanes_of v3) m ≡ has_stim (lanes_of v2) m) → RowStops sys terms a.lane v3 halt.Stopped
  stopped-row kept others threaded =
      look-few sys sound terms a.looks a.stack a.objects a.lane v3 n floor k.knows k.at count low
      (λ m le. let other : (n == m) ≡ false = let lt : m < n = omega (arith, le, count) in grind (arith, nat_tests) in others m other ∙ ap (λ l. has_stim l m) lanes-two)
      (kept.told ∙ goes-two.told) threaded

  others-stopped : (base : Bool) → IsStopped n base v2 v3 → (m : ℕ) → (n == m) ≡ false → has_stim (lanes_of v3) m ≡ has_stim (lanes_of v2) m
  others-stopped base h = by h.why
    where
      by : ((v3.happened ≡ v2.happened) × (is_unset v2 ≡ false)) ⊎ HappensToFail n base v2 v3 ⊎ HappensInPart n base v2 v3 ⊎ FindsNoRoom base v2 v3 → (m : ℕ) → (n == m) ≡ false → has_stim (lanes_of v3) m ≡ has_stim (lanes_of v2) m
      by (inl still) m other = ap (λ l. has_stim l m) (lanes-none h.kept still.0)
      by (inr (inl f)) m other =
          ap (λ l. has_stim l m) (lanes-come f.source (plain (body.Stim f.place n) ∷ f.one) h.kept f.comes)
          ∙ stims-same m 1 v2.plan v2.happened (record { at = length v2.told; source = f.source; told = plain (body.Stim f.place n) ∷ f.one }) (stim-there false f.place n m f.one other ((stimuli_are_their_own v2.sys f.s true).0 f.one f.fits).behind)
      by (inr (inr (inl f))) m other =
          let cut = ((stimuli_are_their_own v2.sys f.s f.asserted).1 f.one f.back f.size f.some f.fits).behind in
          ap (λ l. has_stim l m) (lanes-come f.source (plain (body.Stim f.place n) ∷ (f.one ++ plain (body.Spill f.size) ∷ [])) h.kept f.comes)
          ∙ stims-same m 1 v2.plan v2.happened (record { at = length v2.told; source = f.source; told = plain (body.Stim f.place n) ∷ (f.one ++ plain (body.Spill f.size) ∷ []) })
          (stim-there true f.place n m (f.one ++ plain (body.Spill f.size) ∷ []) other (subst (AreBehind true) (sym (items-append f.one (plain (body.Spill f.size) ∷ []))) cut))
      by (inr (inr (inr f))) m other =
          ap (λ l. has_stim l m) (lanes-come f.source (plain (body.Spill f.size) ∷ []) h.kept f.comes)
          ∙ stims-same m 1 v2.plan v2.happened (record { at = length v2.told; source = f.source; told = plain (body.Spill f.size) ∷ [] }) refl

  pub looked-stopped : (base : Bool) → IsStopped n base v2 v3 → TurnStopped sys terms a.lane v3
  looked-stopped base h = stopped-by h.kept (others-stopped base h) (rw (h.answered, grown.answered, ap (λ u. u.answered) room.same) (omega arith))

  pub row-stopped : (base : Bool) → IsStopped n base v2 v3 → RowStops sys terms a.lane v3 halt.Stopped
  row-stopped base h = stopped-row h.kept (others-stopped base h)
