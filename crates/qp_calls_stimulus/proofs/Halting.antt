-- A lane that was cut within a stimulus has no `spill` yet.
use Rattle.std.proofs.Common.{◌≡◌, ℕ, Bool, false, List, [], ◌∷◌, ◌++◌, map, refl}
use Rattle.std.specs.Prelude.{◌≢◌}
use Rattle.std.proofs.lemmas.List.Folds.{list_any-append}
use Rattle.qp_model.specs.declared.stimulus.Stim.{Stim}
use Rattle.qp_model.specs.declared.systems.System.{System}
use Rattle.qp_model.specs.Ends.{is_spill}
use Rattle.qp_model.specs.Kernels.{sim}
use Rattle.qp_model.specs.Sources.{StimFits}
use Rattle.qp_model.specs.Told.{Told, for_object}
use Rattle.qp_calls.specs.LaneView.{LaneView, Grows}
use Rattle.qp_calls.specs.Notes.{spills_told}
use Rattle.qp_model_order.specs.Stimulus.{ArePlain, StimulusForm}
use Rattle.qp_model_order.proofs.CalmLemmas.{calm-parts}
use Rattle.qp_model_order.proofs.StimulusForm.{cut-plain, stimulus-form}
use Rattle.qp_calls_stimulus.specs.Stimulating.{StimulusHappens, begun_records}

plain-spills : (o : ℕ) (g : List Told) → ArePlain g → spills_told (map (for_object o) g) ≡ false
plain-spills o [] h = refl
plain-spills o (t ∷ ts) h = rw ((calm-parts t.body h.0.calm).2, plain-spills o ts h.1) refl

pub cut-spills : (sys : System) (s : Stim) (asserted : Bool) (one back : List Told) (v w : LaneView) → spills_told v.told ≡ false → Grows one v w → back ≢ []
    → StimFits sys sim s asserted (one ++ back) → spills_told w.told ≡ false
cut-spills sys s asserted one back v w none grows some fits =
    rw (grows.told, list_any-append (λ t. is_spill t.told.body) v.told (map (for_object v.by) one), none)
    (plain-spills v.by one (cut-plain asserted one back some (stimulus-form sys s asserted (one ++ back) fits)))

-- nor has one in which a stimulus came to its end
pub happens-unspilled : (sys : System) (s : Stim) (place look : ℕ) (v w : LaneView) → spills_told v.told ≡ false → StimulusHappens sys s place look v w → spills_told w.told ≡ false
unfolding StimulusForm
happens-unspilled sys s place look v w none h =
    rw (h.grows.told, list_any-append (λ t. is_spill t.told.body) v.told (map (for_object v.by) (begun_records place look h.one)), none)
    (plain-spills v.by h.one (stimulus-form sys s false h.one (h.fits sim)))
