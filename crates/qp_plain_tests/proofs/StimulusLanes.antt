-- A lane in which a trial goes on.
use Rattle.std.proofs.Common.{◌≡◌, ℕ, [], ◌∷◌, map, refl, ◌∙◌, subst}
use Rattle.std.proofs.lemmas.List.Folds.{list_any-append}
use Rattle.qp_model.specs.declared.systems.System.{System}
use Rattle.qp_model.specs.declared.stimulus.Stim.{Stim}
use Rattle.qp_model.specs.declared.record.Rec.{Rec}
use Rattle.qp_model.specs.declared.bodies.Body.TheVariants.{Rest}
use Rattle.qp_model.specs.Record.{item_of}
use Rattle.qp_model.specs.Ends.{is_spill}
use Rattle.qp_model.specs.Sound.{IsSound}
use Rattle.qp_model.specs.Told.{plain, for_object}
use Rattle.qp_calls.specs.LaneView.{GrowsOf, LaneView, Roomier}
use Rattle.qp_calls.specs.Notes.{told_note}
use Rattle.qp_plain.specs.declared.world.PlainWorld.{PlainWorld}
use Rattle.qp_plain.specs.NewWorld.{IsNewWorld}
use Rattle.qp_plain.specs.WorldView.{world_view}
use Rattle.qp_plain_sound.specs.View.{view_of}
use Rattle.qp_calls_stimulus.specs.Stimulating.{StimulusHappens}
use Rattle.qp_calls_stimulus.proofs.Halting.{happens-unspilled}
use Rattle.qp_plain_tests.specs.StimulusTrial.{IsStimulusBase}
use Rattle.qp_plain_tests.proofs.StepLanes.{rest-told}

pub base-rest : (sys : System) (o k : ℕ) (r : Rec) (u v w : LaneView) → item_of r ≡ record { of = o; body = Rest k } → Roomier u v → GrowsOf r.of (told_note r v) v w
    → IsStimulusBase sys u → IsStimulusBase sys w
base-rest sys o k r u v w is room grows b =
    let grown : GrowsOf r.of (plain (Rest k) ∷ []) v w = subst (λ g. GrowsOf r.of g v w) (rest-told o k r v is) grows in
    record {
      sound = b.sound;
      of = grown.sys ∙ rw room.same b.of;
      none = grown.by ∙ rw room.same b.none;
      spills = rw (grown.told, list_any-append (λ t. is_spill t.told.body) v.told (map (for_object r.of) (plain (Rest k) ∷ [])), room.same, b.spills) refl;
    }

-- a stimulus came to its end
pub base-happens : (sys : System) (s : Stim) (place look : ℕ) (v w : LaneView) → StimulusHappens sys s place look v w → IsStimulusBase sys v → IsStimulusBase sys w
base-happens sys s place look v w h b = record {
  sound = b.sound;
  of = h.grows.sys ∙ b.of;
  none = h.grows.by ∙ b.none;
  spills = happens-unspilled sys s place look v w b.spills h;
}

-- nothing has happened in a new world
pub new-base : (sys : System) (n : ℕ) (world : PlainWorld) → IsSound sys → IsNewWorld sys n world → IsStimulusBase sys (world_view world)
unfolding view_of
new-base sys n world sound new = record { sound = sound; of = new.sys_is; none = new.view.by; spills = rw (new.view.told) refl }
