-- The cursor of a source through a turn.
use Rattle.std.proofs.Common.{◌≡◌, ℕ, zero, suc, ◌+◌, ◌-◌, ◌<◌, ◌≤◌, Bool, true, false, not, ◌||◌, ◌⊎◌, List, [], ◌∷◌, ◌++◌, map, length, get_or, nat_lt, drop, cond, refl, sym, ◌∙◌, ap, subst, inl, inr, arith, append_assoc, append-nil, None}
use Rattle.std.proofs.lemmas.Bool.Decides.{nat_tests}
use Rattle.std.proofs.lemmas.List.{drop_all, drop_more}
use Rattle.qp_model.specs.declared.stimulus.Stim.{Stim}
use Rattle.qp_model.specs.declared.stimulus.Stim.TheVariants as stim
use Rattle.qp_model.specs.declared.systems.System.{System}
use Rattle.qp_model.specs.declared.bodies.Body.TheVariants as body
use Rattle.qp_model.specs.Told.{plain, for_object}
use Rattle.qp_calls.specs.LaneView.{LaneView, GrowsOf}
use Rattle.qp_calls.specs.LaneLaws.{IsWithinLimit}
use Rattle.qp_calls.specs.Clauses.{Stops}
use Rattle.qp_calls.specs.Notes.{last_code, spills_told}
use Rattle.qp_calls.proofs.Advancing.{advances-none, advances-same, advances-then}
use Rattle.qp_calls.proofs.NoteLemmas.{last-snoc}
use Rattle.qp_dispatch.specs.declared.objects.Turn.{Turn}
use Rattle.qp_dispatch.specs.declared.objects.Turn.TheVariants as turn
use Rattle.qp_port_law.specs.SourcesLeft.{SourceLeaves}
use Rattle.qp_calls_stimulus.specs.declared.doing.Stimulated.TheVariants as stimulated
use Rattle.qp_calls.specs.Halting.{HaltsFull}
use Rattle.qp_kernel_turns.specs.Lanes.{HandsCode, HasFound, SameLane}
use Rattle.qp_calls_stimulus.specs.Stimulating.{Stimulates, StimulusAsserts, Spills, StimulusHappens, begun_records, Exhausts}
use Rattle.qp_port_lanes.specs.declared.cursor.Cursor.{Cursor}
use Rattle.qp_port_lanes.specs.CursorAt.{IsCursorAt, IsSourceAt, at_settle_in, begins_settle, left_in, mine}
use Rattle.qp_port_lanes.specs.SourceTurning.{SourceBreaksOff, CursorGoes, DoesNoSettle, StimulusBreaksOff, SourceIdles, SourceHasStopped, SourceTurns, BreaksOffUnlessIdle, DoesNext, SourceStarves}
use Rattle.qp_port_lanes.proofs.Going.{same-gains, same-stops, went, failed, spilled, full, elsewhere, few-done, unspilled-told}

same-none : (v : LaneView) → SameLane v v
same-none v = record { sys = refl; lane = refl; world = refl; plan = refl; happened = refl; serves = λ o. refl; advances = advances-none v }

pub same-then : (u v w : LaneView) → SameLane u v → SameLane v w → SameLane u w
same-then u v w a b = record { sys = b.sys ∙ a.sys; lane = b.lane ∙ a.lane; world = b.world ∙ a.world; plan = b.plan ∙ a.plan; happened = b.happened ∙ a.happened; serves = λ o. b.serves o ∙ a.serves o; advances = advances-then u v w a.advances b.advances }

-- the stimuli of the same source
same-stimuli : (x y : Cursor) → y.stim ≡ x.stim → y.source ≡ x.source → mine y ≡ mine x
same-stimuli x y stim source = ap (λ (p : List (List Stim)). get_or p (y.source - 1) []) (ap (λ s. s.now) stim) ∙ ap (λ k. get_or x.stim.now (k - 1) []) source

bare-then : (x y z : Cursor) → mine y ≡ mine x → DoesNoSettle x y → DoesNoSettle y z → DoesNoSettle x z
bare-then x y z same a b k low high = by (nat_lt k y.begun) refl
  where
    by : (c : Bool) → nat_lt k y.begun ≡ c → begins_settle (drop k (mine x)) ≡ false
    by true e = a k low (grind (arith, nat_tests, e))
    by false e = subst (λ (ss : List Stim). begins_settle (drop k ss) ≡ false) same (b k (grind (arith, nat_tests, e)) high)

pub goes-none : (sys : System) (x : Cursor) (v : LaneView) → IsCursorAt sys x v → CursorGoes sys x x v v
goes-none sys x v at = record {
  at = at;
  stim = refl;
  source = refl;
  lane = refl;
  settling = refl;
  further = omega arith;
  bare = λ k low high. absurd (omega (arith, low, high));
  ts = [];
  told = sym (append-nil v.told);
  hands = refl;
  stops = refl;
  answered = refl;
  keeps = same-none v;
}

pub goes-then : (sys : System) (x y z : Cursor) (u v w : LaneView) → CursorGoes sys x y u v → CursorGoes sys y z v w → CursorGoes sys x z u w
goes-then sys x y z u v w a b =
    let one = a.further in
    let two = b.further in
    record {
      at = b.at;
      stim = b.stim ∙ a.stim;
      source = b.source ∙ a.source;
      lane = b.lane ∙ a.lane;
      settling = b.settling ∙ a.settling;
      further = omega (arith, one, two);
      bare = bare-then x y z (same-stimuli x y a.stim a.source) a.bare b.bare;
      ts = a.ts ++ b.ts;
      told = b.told ∙ ap (λ ts. ts ++ b.ts) a.told ∙ append_assoc u.told a.ts b.ts;
      hands = b.hands ∙ a.hands;
      stops = b.stops ∙ a.stops;
      answered = b.answered ∙ a.answered;
      keeps = same-then u v w a.keeps b.keeps;
    }

pub turns-then : (sys : System) (x y z : Cursor) (u v w : LaneView) (t : Turn) → CursorGoes sys x y u v → SourceTurns sys y z v w t → SourceTurns sys x z u w t
turns-then sys x y z u v w turn.Idle a h = record { goes = goes-then sys x y z u v w a h.goes; rests = h.rests }
turns-then sys x y z u v w turn.Stopped a h = record {
  leaves = λ kernel end try early. subst (λ ss. SourceLeaves sys kernel end ss w.told) (same-stimuli x y a.stim a.source) (h.leaves kernel end try early);
  why = by h.why;
  ts = a.ts ++ h.ts;
  told = h.told ∙ ap (λ ts. ts ++ h.ts) a.told ∙ append_assoc u.told a.ts h.ts;
  keeps = same-then u v w a.keeps h.keeps;
}
  where
    by : HandsCode v w ⊎ HasFound v w → HandsCode u w ⊎ HasFound u w
    by (inl k) = inl (record { some = k.some; stops = k.stops ∙ ap (λ cs. last_code w.told ∷ cs) a.stops })
    by (inr k) = inr (record { found = subst (λ xs. length xs < length w.answered) a.answered k.found; stops = k.stops ∙ a.stops })
turns-then sys x y z u v w turn.Memory a h = record {
  ts = a.ts ++ h.ts;
  told = h.told ∙ ap (λ ts. ts ++ h.ts) a.told ∙ append_assoc u.told a.ts h.ts;
  stops = h.stops ∙ ap (λ cs. 7 ∷ cs) a.stops;
  keeps = same-then u v w a.keeps h.keeps;
}

pub breaks-then : (sys : System) (x y z : Cursor) (u v w : LaneView) (t : Turn) → CursorGoes sys x y u v → BreaksOffUnlessIdle sys y z v w t → BreaksOffUnlessIdle sys x z u w t
breaks-then sys x y z u v w turn.Idle a h = tt
breaks-then sys x y z u v w _ a h = record { before = h.before; goes = goes-then sys x y z u v h.before a h.goes; stands = h.stands; s = h.s; next = h.next; ends = h.ends }

-- Where the cursor rests.
pub rests-settling : (x : Cursor) → x.settling ≡ true → (at_settle_in x || not (left_in x)) ≡ true
rests-settling x e = rw e refl

pub rests-done : (x : Cursor) → x.settling ≡ false → length (mine x) ≤ x.begun → (at_settle_in x || not (left_in x)) ≡ true
rests-done x e le = rw (e, drop_all x.begun (mine x) le) refl

-- where it doesn't: before a stimulus that is no `settle`
no-settle : (s : Stim) (ss : List Stim) → (s ≡ stim.Settle → ⊥) → begins_settle (s ∷ ss) ≡ false
no-settle stim.Settle ss other = absurd (other refl)
no-settle _ ss other = refl

pub any-default : {A : Type 0} (xs : List A) (i : ℕ) (a b c : A) → i < length xs → a ≡ get_or xs i b → a ≡ get_or xs i c
any-default [] i a b c lt e = absurd (omega (arith, lt))
any-default (x ∷ xs) zero a b c lt e = e
any-default (x ∷ xs) (suc i) a b c lt e = any-default xs i a b c (omega (arith, lt)) e

-- the code of the last record was handed in
pub handed : (code : ℕ) (v mid w : LaneView) → 0 < code → last_code mid.told ≡ code → mid.stops ≡ v.stops → Stops code mid w → HandsCode v w
handed code v mid w some last same stops =
    let told : w.told ≡ mid.told = ap (λ u. u.told) stops in
    let now : last_code w.told ≡ code = ap last_code told ∙ last in
    record {
      some = omega (arith, now, some);
      stops = ap (λ u. u.stops) stops ∙ ap (λ cs. code ∷ cs) same ∙ ap (λ k. k ∷ v.stops) (sym now);
    }

pub spill-code : (u full : LaneView) (n : ℕ) → full.told ≡ u.told ++ for_object 0 (plain (body.Spill n)) ∷ [] → last_code full.told ≡ 6
spill-code u full n told = ap last_code told ∙ last-snoc u.told (for_object 0 (plain (body.Spill n)))

-- The next stimulus.
module _ (sys : System) (x : Cursor) (v : LaneView) (at : IsCursorAt sys x v) (calm : x.settling ≡ false) where
  pub here : IsSourceAt sys (mine x) x.begun false v
  here = subst (λ b. IsSourceAt sys (mine x) (cond b (x.begun - 1) x.begun) b v) calm at.at

  pub few-begun : IsWithinLimit v → x.begun ≤ 1000000
  few-begun within = few-done sys (mine x) x.begun v here within

  pub unspilled : spills_told v.told ≡ false
  unspilled = unspilled-told v.told here.calm

  module _ (s : Stim) (lt : x.begun < length (mine x)) (is : s ≡ get_or (mine x) x.begun s) where
    next-is : drop x.begun (mine x) ≡ s ∷ drop (x.begun + 1) (mine x)
    next-is = drop_more (mine x) x.begun s lt ∙ ap (λ y. y ∷ drop (x.begun + 1) (mine x)) (sym is)

    is-bare : (s ≡ stim.Settle → ⊥) → begins_settle (drop x.begun (mine x)) ≡ false
    is-bare other = ap begins_settle next-is ∙ no-settle s (drop (x.begun + 1) (mine x)) other

    -- the turn ends here
    pub breaks-here : (t : Turn) (w : LaneView) → (s ≡ stim.Settle → ⊥) → StimulusBreaksOff sys s (x.begun + 1) v w t → BreaksOffUnlessIdle sys x x v w t
    breaks-here t w other ends = by t ends
      where
        its-end : (u : Turn) → StimulusBreaksOff sys s (x.begun + 1) v w u → SourceBreaksOff sys x x v w u
        its-end u k = record { before = v; goes = goes-none sys x v at; stands = rw (calm, next-is, no-settle s (drop (x.begun + 1) (mine x)) other) refl; s = s; next = next-is; ends = k }

        by : (u : Turn) → StimulusBreaksOff sys s (x.begun + 1) v w u → BreaksOffUnlessIdle sys x x v w u
        by turn.Idle k = absurd k
        by u k = its-end u k

    pub finds-stop : (code : ℕ) (w : LaneView) → w ≡ record v { answered = code ∷ v.answered; asked = suc v.asked } → SourceHasStopped sys x x v w
    finds-stop code w e = record {
      leaves = λ kernel end try early. elsewhere sys (mine x) x.begun v w here s s lt is kernel end try early (ap (λ u. u.told) e);
      why = inr (record { found = rw e (omega arith); stops = ap (λ u. u.stops) e });
      ts = [];
      told = ap (λ u. u.told) e ∙ sym (append-nil v.told);
      keeps = record { sys = ap (λ u. u.sys) e; lane = ap (λ u. u.lane) e; world = ap (λ u. u.world) e; plan = ap (λ u. u.plan) e; happened = ap (λ u. u.happened) e; serves = λ o. ap (λ u. u.serves o) e; advances = advances-same v w (ap (λ u. u.told) e) (ap (λ u. u.mark) e) };
    }

    module _ (place : ℕ) (next : place ≡ x.begun + 1) (w : LaneView) where
      pub goes-on : (s ≡ stim.Settle → ⊥) → place ≤ v.asked → StimulusHappens sys s place 0 v w → DoesNext sys x (record x { begun = place }) v w None
      goes-on other more h =
          let h2 = subst (λ p. StimulusHappens sys s p 0 v w) next h in
          let gone = went sys (mine x) x.begun v w here s s lt is h2 in
          let g : GrowsOf 0 (begun_records place 0 h.one) v w = subst (λ o. GrowsOf o (begun_records place 0 h.one) v w) here.none h.grows in
          record {
            goes = record {
              at = record {
                fits = at.fits;
                some = at.some;
                there = at.there;
                begun = λ e. absurd (let wrong : true ≡ false = sym e ∙ calm in cc);
                at = subst (λ b. IsSourceAt sys (mine x) (cond b (place - 1) place) b w) (sym calm) (subst (λ p. IsSourceAt sys (mine x) p false w) (sym next) gone);
                asked = let same = g.asked in omega (arith, more, same);
              };
              stim = refl;
              source = refl;
              lane = refl;
              settling = refl;
              further = omega (arith, next);
              bare = λ k low high. subst (λ i. begins_settle (drop i (mine x)) ≡ false) (omega (arith, low, high, next)) (is-bare other);
              ts = map (for_object 0) (begun_records place 0 h.one);
              told = g.told;
              hands = h.hands;
              stops = g.stops;
              answered = g.answered;
              keeps = same-gains _ v w g;
            };
            one = next;
          }

      pub stops-asserted : StimulusAsserts sys s place 0 v w → SourceHasStopped sys x x v w
      stops-asserted h =
          let h2 = subst (λ p. StimulusAsserts sys s p 0 v w) next h in
          let g : GrowsOf 0 (begun_records place 0 h.one) v h.mid = subst (λ o. GrowsOf o (begun_records place 0 h.one) v h.mid) here.none h.grows in
          record {
            leaves = λ kernel end try early. failed sys (mine x) x.begun v w here s s lt is kernel end try early h2;
            why = inl (handed h.code v h.mid w h.some h.last g.stops h.stops);
            ts = map (for_object 0) (begun_records place 0 h.one);
            told = ap (λ u. u.told) h.stops ∙ g.told;
            keeps = same-stops h.code v h.mid w (same-gains _ v h.mid g) h.stops;
          }

      pub stops-spilled : Spills sys s place 0 v w → SourceHasStopped sys x x v w
      stops-spilled h =
          let h2 = subst (λ p. Spills sys s p 0 v w) next h in
          let g : GrowsOf 0 (begun_records place 0 h.one) v h.mid = subst (λ o. GrowsOf o (begun_records place 0 h.one) v h.mid) here.none h.grows in
          let told : w.told ≡ h.mid.told ++ for_object 0 (plain (body.Spill (length h.mid.told))) ∷ [] = ap (λ u. u.told) h.halts.stops ∙ h.halts.spills.told in
          record {
            leaves = λ kernel end try early. spilled sys (mine x) x.begun v w here s s lt is kernel end try early h2;
            why = inl (handed 6 v h.halts.full w (omega arith) (spill-code h.mid h.halts.full (length h.mid.told) h.halts.spills.told) (h.halts.spills.stops ∙ g.stops) h.halts.stops);
            ts = map (for_object 0) (begun_records place 0 h.one) ++ for_object 0 (plain (body.Spill (length h.mid.told))) ∷ [];
            told = told ∙ ap (λ ts. ts ++ for_object 0 (plain (body.Spill (length h.mid.told))) ∷ []) g.told ∙ append_assoc v.told (map (for_object 0) (begun_records place 0 h.one)) (for_object 0 (plain (body.Spill (length h.mid.told))) ∷ []);
            keeps = same-stops 6 v h.halts.full w (same-then v h.mid h.halts.full (same-gains _ v h.mid g) (same-gains _ h.mid h.halts.full h.halts.spills)) h.halts.stops;
          }

      pub stops-full : HaltsFull v w → SourceHasStopped sys x x v w
      stops-full h =
          let told : w.told ≡ v.told ++ for_object 0 (plain (body.Spill (length v.told))) ∷ [] = ap (λ u. u.told) h.stops ∙ h.spills.told in
          record {
            leaves = λ kernel end try early. full sys (mine x) x.begun v w here s s lt is kernel end try early h;
            why = inl (handed 6 v h.full w (omega arith) (spill-code v h.full (length v.told) h.spills.told) h.spills.stops h.stops);
            ts = for_object 0 (plain (body.Spill (length v.told))) ∷ [];
            told = told;
            keeps = same-stops 6 v h.full w (same-gains _ v h.full h.spills) h.stops;
          }

      pub stops-here : Stimulates sys s place 0 v w stimulated.Stopped → SourceHasStopped sys x x v w
      stops-here (inl h) = stops-asserted h
      stops-here (inr (inl h)) = stops-spilled h
      stops-here (inr (inr h)) = stops-full h

      -- a stimulus that is no `settle` has no tries
      pub never : (s ≡ stim.Settle → ⊥) → Stimulates sys s place 0 v w stimulated.Tried → ⊥
      never other h = other h.settle

-- memory was refused in a stimulus
pub starves : (v w : LaneView) → Exhausts v w → SourceStarves v w
starves v w h = record {
  ts = map (for_object v.by) h.g;
  told = ap (λ u. u.told) h.dry.stops ∙ h.grows.told;
  stops = ap (λ u. u.stops) h.dry.stops ∙ ap (λ cs. 7 ∷ cs) h.grows.stops;
  keeps = same-stops 7 v h.mid w (same-gains (map (for_object v.by) h.g) v h.mid h.grows) h.dry.stops;
}

-- the end of the stimuli
pub turn-ends : (sys : System) (x y : Cursor) (v w : LaneView) (k count : ℕ) → CursorGoes sys x y v w → y.begun ≡ k → count ≡ length (mine x) → count ≤ k → SourceIdles sys x y v w
turn-ends sys x y v w k count goes at all le = record { goes = goes; rests = by y.settling refl }
  where
    same : length (mine y) ≡ length (mine x)
    same = ap (λ (p : List (List Stim)). length (get_or p (y.source - 1) [])) (ap (λ s. s.now) goes.stim) ∙ ap (λ n. length (get_or x.stim.now (n - 1) [])) goes.source

    by : (b : Bool) → y.settling ≡ b → (at_settle_in y || not (left_in y)) ≡ true
    by true e = rests-settling y e
    by false e = rests-done y e (omega (arith, same, at, all, le))
