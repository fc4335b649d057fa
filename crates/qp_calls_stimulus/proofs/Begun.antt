-- A stimulus, from its record on.
use Rattle.std.proofs.Common.{◌≡◌, ℕ, true, false, List, [], ◌∷◌, ◌++◌, refl, ◌∙◌, subst, Ok, inl, inr}
use Rattle.std.proofs.lemmas.List.Folds.{list_any-append}
use Rattle.qp_model.specs.declared.stimulus.Stim.{Stim}
use Rattle.qp_model.specs.declared.systems.System.{System}
use Rattle.qp_model.specs.declared.bodies.Body.TheVariants as body
use Rattle.qp_model.specs.Ends.{is_spill}
use Rattle.qp_model.specs.Kernels.{sim}
use Rattle.qp_model.specs.Sources.{priorities}
use Rattle.qp_model.specs.Told.{Told, ToldItem, plain, for_object}
use Rattle.qp_calls.specs.Tokens.{hands_after, hands_by}
use Rattle.qp_calls.specs.LaneView.{LaneView, AddsTold, Grows, Roomier, own_after}
use Rattle.qp_calls.specs.Notes.{spills_told}
use Rattle.qp_calls.specs.Clauses.{Stops}
use Rattle.qp_calls.proofs.Growing.{gains-none, grows-room, grows-then}
use Rattle.qp_calls_stimulus.specs.declared.calling.Called.{Called}
use Rattle.qp_calls_stimulus.specs.declared.calling.Called.TheVariants as called
use Rattle.qp_calls_stimulus.specs.declared.doing.Stimulated.{Stimulated}
use Rattle.qp_calls_stimulus.specs.declared.doing.Stimulated.TheVariants as stimulated
use Rattle.qp_calls_stimulus.specs.Calling.{Calls, CallsCut}
use Rattle.qp_calls.specs.Halting.{HaltsFull}
use Rattle.qp_calls_stimulus.specs.Stimulating.{StimulusAsserts, StimulusHalts, StimulusHappens, KeepsOwn, Stimulates, StimulusTries, begun_records}
use Rattle.qp_calls_stimulus.proofs.Aloof.{aloof-begun, aloof-front, entry-aloof, own-same, stimulus-aloof}
use Rattle.qp_calls_stimulus.proofs.Halting.{cut-spills}

-- the lane had no room for the `stim`
pub halts-first : (sys : System) (s : Stim) (place look : ℕ) (v m w : LaneView) (r : Stimulated) → m ≡ v → StimulusHalts m w r → Stimulates sys s place look v w r
halts-first sys s place look v m w r same h = go r (subst (λ x. StimulusHalts x w r) same h)
  where
    go : (r : Stimulated) → StimulusHalts v w r → Stimulates sys s place look v w r
    go stimulated.Done h = absurd h
    go stimulated.Tried h = absurd h
    go stimulated.Stopped h = inr (inr h)
    go stimulated.Memory h = record { g = []; mid = v; grows = gains-none v; own = λ a. refl; dry = h }

module _ (sys : System) (s : Stim) (place look : ℕ) (v r n : LaneView) (room : Roomier v r) (note : AddsTold (plain (body.Stim place look) ∷ []) r n) where
  begins : Grows (plain (body.Stim place look) ∷ []) v n
  begins = grows-room (plain (body.Stim place look) ∷ []) v r n room note.grows

  begun_hands : n.hands ≡ v.hands
  unfolding begins hands_after hands_by
  begun_hands = begins.hands

  goes : (one : List Told) (w : LaneView) → Grows one n w → Grows (begun_records place look one) v w
  unfolding begins
  goes one w grows = grows-then (plain (body.Stim place look) ∷ []) one v n w begins grows

  came : (x y : Called) (w : LaneView) → x ≡ y → Calls sys s n w (Ok x) → Calls sys s n w (Ok y)
  came x y w is h = subst (λ z. Calls sys s n w (Ok z)) is h

  pub happens : (x : Called) (w : LaneView) → x ≡ called.Whole → Calls sys s n w (Ok x) → StimulusHappens sys s place look v w
  happens x w is calls = let h = came x called.Whole w is calls in record { one = h.one; grows = goes h.one w h.grows; fits = h.fits; hands = h.hands ∙ begun_hands }

  pub tries : (x : Called) (w : LaneView) → x ≡ called.Tried → Calls sys s n w (Ok x) → StimulusTries sys s place look v w
  tries x w is calls =
      let h = came x called.Tried w is calls in
      let seen = h.1 in
      let entry = seen.found in
      record {
        settle = h.0;
        one = seen.one;
        grows = goes (plain body.Settle ∷ seen.one) w seen.grows;
        fits = seen.fits;
        hands = seen.hands ∙ begun_hands;
        found = record {
          object = entry.object;
          its = entry.its;
          g = begun_records place look entry.g;
          before = entry.before;
          counts = entry.counts;
          grows = goes entry.g entry.before entry.grows;
          sees = entry.sees;
          some = entry.some;
        };
      }

  pub asserts : (x : Called) (code : ℕ) (mid w : LaneView) → x ≡ called.Asserted code → Calls sys s n mid (Ok x) → Stops code mid w → StimulusAsserts sys s place look v w
  asserts x code mid w is calls stops =
      let h = came x (called.Asserted code) mid is calls in
      record { one = h.one; mid = mid; code = code; grows = goes h.one mid h.grows; fits = h.fits; some = h.some; few = h.few; last = h.last; stops = stops }

  pub cuts : (mid w : LaneView) (e : Stimulated) → CallsCut sys s n mid → StimulusHalts mid w e → Stimulates sys s place look v w e
  cuts mid w stimulated.Done cut h = absurd h
  cuts mid w stimulated.Tried cut h = absurd h
  cuts mid w stimulated.Stopped cut h =
      inr (inl (record { one = cut.one; back = cut.back; asserted = cut.asserted; mid = mid; grows = goes cut.one mid cut.grows; fits = cut.fits; some = cut.some; halts = h }))
  cuts mid w stimulated.Memory cut h =
      let grows = goes cut.one mid cut.grows in
      let aloof = aloof-front cut.one cut.back (stimulus-aloof sys s cut.asserted (cut.one ++ cut.back) (cut.fits sim)) in
      record { g = begun_records place look cut.one; mid = mid; grows = grows; own = λ a. own-same (begun_records place look cut.one) v mid a grows (aloof-begun place look cut.one aloof); dry = h }

  -- no `spill` stands in the lane yet
  pub cut-unspilled : (mid : LaneView) → spills_told v.told ≡ false → CallsCut sys s n mid → spills_told mid.told ≡ false
  unfolding begins
  cut-unspilled mid none cut =
      let noted : spills_told n.told ≡ false =
      rw (begins.told, list_any-append (λ (t : ToldItem). is_spill t.told.body) v.told (for_object v.by (plain (body.Stim place look)) ∷ []), none) refl in
      cut-spills sys s cut.asserted cut.one cut.back n mid noted cut.grows cut.some (cut.fits sim)

-- No answer changes what the lane knows of its own posts and takes.

full_own : (v w : LaneView) (a : ℕ) → HaltsFull v w → w.own a ≡ v.own a
unfolding own_after
full_own v w a h = let here : w.own a ≡ h.full.own a = rw h.stops refl in here ∙ h.spills.own a

pub keeps-own : (sys : System) (s : Stim) (place look : ℕ) (v w : LaneView) (r : Stimulated) → Stimulates sys s place look v w r → KeepsOwn v w
keeps-own sys s place look v w stimulated.Done h a = own-same (begun_records place look h.one) v w a h.grows (aloof-begun place look h.one (stimulus-aloof sys s false h.one (h.fits sim)))
keeps-own sys s place look v w stimulated.Tried h a =
    own-same (begun_records place look (plain body.Settle ∷ h.one)) v w a h.grows (aloof-begun place look (plain body.Settle ∷ h.one) (entry-aloof (priorities sys) h.one h.fits))
keeps-own sys s place look v w stimulated.Stopped (inl h) a =
    let here : w.own a ≡ h.mid.own a = rw h.stops refl in
    here ∙ own-same (begun_records place look h.one) v h.mid a h.grows (aloof-begun place look h.one (stimulus-aloof sys s true h.one (h.fits sim)))
keeps-own sys s place look v w stimulated.Stopped (inr (inl h)) a =
    full_own h.mid w a h.halts
    ∙ own-same (begun_records place look h.one) v h.mid a h.grows
    (aloof-begun place look h.one (aloof-front h.one h.back (stimulus-aloof sys s h.asserted (h.one ++ h.back) (h.fits sim))))
keeps-own sys s place look v w stimulated.Stopped (inr (inr h)) a = full_own v w a h
keeps-own sys s place look v w stimulated.Memory h a = let here : w.own a ≡ h.mid.own a = rw h.dry.stops refl in here ∙ h.own a
