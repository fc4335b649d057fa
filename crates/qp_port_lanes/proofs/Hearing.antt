-- What the phases ask of lanes: codes that are handed in and found, and what a try leaves.
use Rattle.std.proofs.Common.{◌≡◌, ◌⊎◌, ℕ, ◌+◌, ◌<◌, ◌≤◌, Bool, true, false, [], ◌∷◌, cond, length, refl, sym, ◌∙◌, ap, subst, inl, inr, arith}
use Rattle.std.specs.Prelude.{IsTrue}
use Rattle.qp_model.specs.declared.bodies.Body.TheVariants as body
use Rattle.qp_model.specs.declared.systems.System.{System}
use Rattle.qp_model.specs.Sources.{SeesEmpty, SeesEntry, priorities}
use Rattle.qp_model.specs.Told.{plain}
use Rattle.qp_model.specs.WordLaw.{is_object}
use Rattle.qp_calls.specs.LaneView.{LaneView}
use Rattle.qp_calls.specs.Notes.{last_code}
use Rattle.qp_dispatch.specs.declared.objects.Turn.{Turn}
use Rattle.qp_dispatch.specs.declared.objects.Turn.TheVariants as turn
use Rattle.qp_kernel_turns.specs.Lanes.{HandsCode, HasFound, LaneTurns}
use Rattle.qp_port_phases.specs.declared.lanes.Passed.{Passed}
use Rattle.qp_port_phases.specs.declared.lanes.Passed.TheVariants as passed
use Rattle.qp_port_phases.specs.Passing.{AddsLook, IsOpening, PassesTo, TriesOnce}
use Rattle.qp_port_phases.specs.Stopping.{HasStarved, HasStopped, Hears, StopsNow}
use Rattle.qp_port_lanes.specs.declared.cursor.Cursor.{Cursor}
use Rattle.qp_port_lanes.specs.CursorAt.{stimuli_done}
use Rattle.qp_port_lanes.specs.Passing.{CursorPasses, TriedOnce, opening_of}
use Rattle.qp_port_lanes.proofs.Seeing.{SeenMore}

-- Codes are heard of.

hears-none : (v w : LaneView) → w.stops ≡ v.stops → w.answered ≡ v.answered → Hears v w
hears-none v w stops answered =
    let a = ap length stops in
    let b = ap length answered in
    record { handed = omega (arith, a); found = inl (omega (arith, b)) }

hears-one : (code : ℕ) (v w : LaneView) → w.stops ≡ code ∷ v.stops → Hears v w
hears-one code v w stops = let a = ap length stops in record { handed = omega (arith, a); found = inr (omega (arith, a)) }

hears-why : (v w : LaneView) → HandsCode v w ⊎ HasFound v w → Hears v w
hears-why v w (inl h) = hears-one (last_code w.told) v w h.stops
hears-why v w (inr h) =
    let a = ap length h.stops in
    let b = h.found in
    record { handed = omega (arith, a); found = inl (omega (arith, b)) }

pub hears-itself : (v : LaneView) → Hears v v
hears-itself v = hears-none v v refl refl

pub hears-then : (u v w : LaneView) → Hears u v → Hears v w → Hears u w
hears-then u v w h k =
    let a = h.handed in
    let b = k.handed in
    record { handed = omega (arith, a, b); found = by h.found k.found }
  where
    by : (length u.answered ≤ length v.answered) ⊎ (length u.stops < length v.stops) → (length v.answered ≤ length w.answered) ⊎ (length v.stops < length w.stops) → (length u.answered ≤ length w.answered) ⊎ (length u.stops < length w.stops)
    by (inl x) (inl y) = inl (omega (arith, x, y))
    by (inr x) y = let b = k.handed in inr (omega (arith, x, b))
    by (inl x) (inr y) = let a = h.handed in inr (omega (arith, a, y))

pub hears-seen : (v w : LaneView) → SeenMore v w → Hears v w
hears-seen v w more =
    let a = ap length more.stops in
    let b = more.heard in
    record { handed = omega (arith, a); found = inl (omega (arith, b)) }

pub lane-hears : (acts : Bool) (v w : LaneView) (t : Turn) → LaneTurns acts v w t → Hears v w
lane-hears acts v w turn.Idle h = hears-none v w h.stops h.answered
lane-hears acts v w turn.Stopped h = hears-why v w h.handed
lane-hears acts v w turn.Memory h = hears-one 7 v w h.handed

pub passes-hear : (sys : System) (x y : Cursor) (v w : LaneView) (p : Passed) → CursorPasses sys x y v w p → Hears v w
passes-hear sys x y v w passed.Stopped h = hears-why v w h.stops.why
passes-hear sys x y v w passed.Memory h = hears-one 7 v w h.starves.stops
passes-hear sys x y v w _ h = hears-none v w h.stays.along.stops h.stays.along.answered

-- Why a lane has stopped.

pub why-stopped : (v w : LaneView) → HandsCode v w ⊎ HasFound v w → HasStopped w
why-stopped v w (inl h) = inl (record { some = h.some; others = v.stops; stops = h.stops })
why-stopped v w (inr h) = let more = h.found in inr (omega (arith, more))

pub why-starved : (v w : LaneView) → w.stops ≡ 7 ∷ v.stops → HasStarved w
why-starved v w stops = record { others = v.stops; stops = stops }

pub stopped-seen : (v w : LaneView) → SeenMore v w → HasStopped v → HasStopped w
stopped-seen v w more (inl h) = inl (record {
  some = subst (λ ts. 0 < last_code ts) (sym more.sees.told) h.some;
  others = h.others;
  stops = more.stops ∙ h.stops ∙ ap (λ ts. last_code ts ∷ h.others) (sym more.sees.told);
})
stopped-seen v w more (inr h) = let up = more.heard in inr (omega (arith, h, up))

pub starved-seen : (v w : LaneView) → SeenMore v w → HasStarved v → HasStarved w
starved-seen v w more h = record { others = h.others; stops = more.stops ∙ h.stops }

-- What a try leaves, as the phases have it.

stops-now : (v w : LaneView) → HandsCode v w ⊎ HasFound v w → StopsNow v w
stops-now v w (inl h) = inl (h.some, h.stops)
stops-now v w (inr h) = inr (h.found, h.stops)

opens : (x : Cursor) → IsOpening (opening_of x)
opens x = by x.settling refl
  where
    by : (b : Bool) → x.settling ≡ b → IsOpening (cond b [] (plain (body.Stim (stimuli_done x + 1) 0) ∷ []))
    by true e = tt
    by false e = (stimuli_done x + 1, refl)

found-by : (sys : System) (x y : Cursor) (v w : LaneView) → v.sys ≡ sys → ((w.told ≡ v.told) × (y ≡ x)) ⊎ TriedOnce sys x y v w → (w.told ≡ v.told) ⊎ TriesOnce v w
found-by sys x y v w of (inl h) = inl h.0
found-by sys x y v w of (inr h) = inr (record { opening = opening_of x; opens = opens x; adds = subst (λ s. AddsLook (SeesEntry (priorities s)) (opening_of x) v w) (sym of) h.adds })

pub passes-to : (sys : System) (x y : Cursor) (v w : LaneView) (p : Passed) → v.sys ≡ sys → CursorPasses sys x y v w p → PassesTo v w p
passes-to sys x y v w passed.Yes of h = record {
  opening = opening_of x;
  opens = opens x;
  adds = subst (λ s. AddsLook (SeesEmpty (priorities s)) (opening_of x) v w) (sym of) h.adds;
  codes = (h.stays.along.stops, h.stays.along.answered);
}
passes-to sys x y v w (passed.Found p c) of h = record {
  its = subst (λ s. IsTrue (is_object s p)) (sym of) h.shows.its;
  some = h.shows.some;
  mark = h.shows.mark;
  shown = h.shows.shown;
  told = found-by sys x y v w of h.told;
  codes = (h.stays.along.stops, h.stays.along.answered);
}
passes-to sys x y v w passed.Stopped of h = inl (stops-now v w h.stops.why)
passes-to sys x y v w passed.Memory of h = inl h.starves.stops

pub passes-hands : (sys : System) (x y : Cursor) (v w : LaneView) (p : Passed) → CursorPasses sys x y v w p → w.hands ≡ v.hands
passes-hands sys x y v w passed.Stopped h = h.hands
passes-hands sys x y v w passed.Memory h = h.hands
passes-hands sys x y v w _ h = h.stays.along.hands
