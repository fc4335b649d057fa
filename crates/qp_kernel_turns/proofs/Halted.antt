-- A run that stops between two records.
use Rattle.std.proofs.Common.{◌≡◌, ℕ, ◌<◌, Bool, true, List, [], ◌∷◌, ◌++◌, length, refl, sym, ◌∙◌, ap, subst, inl, inr, arith}
use Rattle.std.proofs.lemmas.Bool.Decides.{nat_tests}
use Rattle.qp_model.specs.declared.systems.System.{System}
use Rattle.qp_model.specs.Ends.{end_asserted, may_cut}
use Rattle.qp_model.specs.Sound.{IsSound}
use Rattle.qp_model.specs.Told.{Told, ToldItem, for_object}
use Rattle.qp_model_order.specs.RunOrder.{has_stim}
use Rattle.qp_calls.specs.LaneView.{LaneView}
use Rattle.qp_calls.specs.Notes.{last_code}
use Rattle.qp_calls.proofs.NoteLemmas.{last-snoc}
use Rattle.qp_kernel.specs.Happenings.{lanes_from, lanes_of}
use Rattle.qp_kernel.specs.Laws.{AllWait}
use Rattle.qp_kernel.specs.LaneZero.{Agree}
use Rattle.qp_kernel.specs.Turning.{KernelState, Stands, spill_told, Terms}
use Rattle.qp_kernel.proofs.KernelLaws.{full_lane_ends, run_stops_elsewhere}
use Rattle.qp_kernel_turns.specs.declared.halting.Halt.{Halt}
use Rattle.qp_kernel_turns.specs.declared.halting.Halt.TheVariants as halt
use Rattle.qp_kernel_turns.specs.Halting.{TurnHalts}
use Rattle.qp_kernel_turns.specs.Knowing.{last_is}
use Rattle.qp_kernel_turns.specs.Turning.{HaltsTurn}
use Rattle.qp_kernel_turns.specs.TurnRows.{FewRows}
use Rattle.qp_kernel_turns.proofs.Ends.{EndsFew, ends-few, ends-so}
use Rattle.qp_kernel_turns.proofs.SoundObjects.{able, numbered}

-- the last record of a lane
pub last-told : (p : ℕ) (ts : List ToldItem) (t : Told) → last_is p (ts ++ for_object p t ∷ []) ≡ true
last-told p [] t = grind (arith, nat_tests)
last-told p (x ∷ []) t = grind (arith, nat_tests)
last-told p (x ∷ y ∷ ts) t = last-told p (y ∷ ts) t

-- the lanes of the sources, by the plan and what has happened
pub same-lanes : (v w : LaneView) → w.plan ≡ v.plan → w.happened ≡ v.happened → lanes_of w ≡ lanes_of v
same-lanes v w plan happened = ap (λ p. lanes_from 1 p w.happened) plan ∙ ap (λ h. lanes_from 1 v.plan h) happened

-- what the state says of the stimuli is what the lanes say
pub agreed : (s : KernelState) (lanes : ℕ → Bool) → s.now ≡ lanes → Agree s.upto lanes s.now
agreed s lanes same n le = sym (ap (λ f. f n) same)

module _ (sys : System) (sound : IsSound sys) (terms : Terms) (s : KernelState) (v w : LaneView) (told : s.told ≡ v.told) (stands : Stands sys terms s) (now : s.now ≡ has_stim (lanes_of v))
    (started : s.reading.unstarted ≡ []) (waits : AllWait sys s) (plan : w.plan ≡ v.plan) (happened : w.happened ≡ v.happened) where
  same-now : s.now ≡ has_stim (lanes_of w)
  same-now = now ∙ ap has_stim (sym (same-lanes v w plan happened))

  -- another lane stopped the run
  pub stops-elsewhere : w.told ≡ v.told → (end : ℕ) → may_cut end ≡ true → EndsFew sys terms end s.reading.idle w.told (has_stim (lanes_of w))
  stops-elsewhere same end cut =
      subst (λ ts. EndsFew sys terms end s.reading.idle ts (has_stim (lanes_of w))) (told ∙ sym same)
      (run_stops_elsewhere sys terms end s (has_stim (lanes_of w)) (numbered sys sound) (able sys sound) stands (agreed s (has_stim (lanes_of w)) same-now) cut started waits)

  -- the lane had no room
  pub stops-full : 999992 < length v.told → w.told ≡ v.told ++ spill_told (length v.told) ∷ [] → (end : ℕ) → may_cut end ≡ true → EndsFew sys terms end s.reading.idle w.told (has_stim (lanes_of w))
  stops-full many same end cut =
      subst (λ ts. EndsFew sys terms end s.reading.idle ts (has_stim (lanes_of w))) (ap (λ ts. ts ++ spill_told (length v.told) ∷ []) told ∙ sym same)
      (full_lane_ends sys terms end s (has_stim (lanes_of w)) (length v.told) (numbered sys sound) (able sys sound) stands (agreed s (has_stim (lanes_of w)) same-now) cut (ap length (sym told)) many waits)

-- what `ready` says where the run doesn't go on
pub halts-turn : (sys : System) (sound : IsSound sys) (terms : Terms) (s : KernelState) (v w : LaneView) (h : Halt) → s.told ≡ v.told → Stands sys terms s → s.now ≡ has_stim (lanes_of v)
    → s.reading.unstarted ≡ [] → AllWait sys s → TurnHalts v w h → HaltsTurn sys terms v w h
unfolding last_code
halts-turn sys sound terms s v w halt.Memory told stands now started waits h = tt
halts-turn sys sound terms s v w halt.Stopped told stands now started waits (inl h) =
    record {
      zero = λ end cut. ends-so sys terms end _ _ _ (stops-elsewhere sys sound terms s v w told stands now started waits (ap (λ x. x.plan) h.answered) (ap (λ x. x.happened) h.answered) (ap (λ x. x.told) h.answered) end cut);
      why = inr (rw h.answered (omega arith));
    }
halts-turn sys sound terms s v w halt.Stopped told stands now started waits (inr h) =
    let same : w.told ≡ v.told ++ spill_told (length v.told) ∷ [] = ap (λ x. x.told) h.stops ∙ h.spills.told in
    record {
      zero = λ end cut. ends-so sys terms end _ _ _ (stops-full sys sound terms s v w told stands now started waits (ap (λ x. x.plan) h.stops ∙ h.spills.plan) (ap (λ x. x.happened) h.stops ∙ h.spills.happened) h.few same end cut);
      why = inl (rw (same, last-snoc v.told (spill_told (length v.told))) (omega arith));
    }

-- and what rows it has then
pub halts-few : (sys : System) (sound : IsSound sys) (terms : Terms) (s : KernelState) (v w : LaneView) (h : Halt) → s.told ≡ v.told → Stands sys terms s → s.now ≡ has_stim (lanes_of v)
    → s.reading.unstarted ≡ [] → AllWait sys s → TurnHalts v w h → FewRows sys terms s.reading.idle w h
halts-few sys sound terms s v w halt.Memory told stands now started waits h = tt
halts-few sys sound terms s v w halt.Stopped told stands now started waits (inl h) = λ threaded.
    ends-few sys terms end_asserted _ _ _ (stops-elsewhere sys sound terms s v w told stands now started waits (ap (λ x. x.plan) h.answered) (ap (λ x. x.happened) h.answered) (ap (λ x. x.told) h.answered) end_asserted refl) threaded
halts-few sys sound terms s v w halt.Stopped told stands now started waits (inr h) = λ threaded.
    ends-few sys terms end_asserted _ _ _
    (stops-full sys sound terms s v w told stands now started waits (ap (λ x. x.plan) h.stops ∙ h.spills.plan) (ap (λ x. x.happened) h.stops ∙ h.spills.happened) h.few (ap (λ x. x.told) h.stops ∙ h.spills.told) end_asserted refl) threaded
