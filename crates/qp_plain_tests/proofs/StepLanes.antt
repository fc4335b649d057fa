-- A lane in which a trial goes on.
use Rattle.std.proofs.Common.{◌≡◌, ℕ, false, List, [], ◌∷◌, refl, sym, ◌∙◌, ap, subst, None}
use Rattle.qp_model.specs.declared.systems.System.{System}
use Rattle.qp_model.specs.declared.record.Rec.{Rec}
use Rattle.qp_model.specs.declared.bodies.Body.TheVariants.{Look, Rest}
use Rattle.qp_model.specs.Record.{item_of}
use Rattle.qp_model.specs.Calls as call
use Rattle.qp_model.specs.Sound.{IsSound}
use Rattle.qp_model.specs.Told.{Told, plain}
use Rattle.qp_model.proofs.RecordLemmas.{body-is}
use Rattle.qp_calls.specs.declared.did.Did.{Did}
use Rattle.qp_calls.specs.Groups.{CallAnswers}
use Rattle.qp_calls.specs.LaneView.{Grows, GrowsOf, LaneView, Roomier, ceiling_in}
use Rattle.qp_calls.specs.Notes.{spills_told, told_note}
use Rattle.qp_dispatch.proofs.Quiet.{Quiet, fits-quiet, quiet-ceiling, quiet-spillless, spills-append}
use Rattle.qp_dispatch.specs.Objects.{works_for}
use Rattle.qp_dispatch.specs.Resume.{IsLaneOf}
use Rattle.qp_dispatch.specs.Runs.{ObjectSetting}
use Rattle.qp_plain.specs.declared.world.PlainWorld.{PlainWorld}
use Rattle.qp_plain.specs.NewWorld.{IsNewWorld}
use Rattle.qp_plain.specs.WorldView.{world_view}
use Rattle.qp_plain_sound.specs.View.{view_of}
use Rattle.qp_plain_tests.specs.StepTrial.{IsBase}

pub base-room : (sys : System) (c : ℕ) (u v : LaneView) → Roomier u v → IsBase sys c u → IsBase sys c v
base-room sys c u v room b = record {
  sound = b.sound;
  of = rw room.same b.of;
  serves = λ o. rw room.same (b.serves o);
  told = rw room.same b.told;
  spills = rw room.same b.spills;
}

-- records that are no `lock`, `unlock` or `spill`
pub base-quiet : (sys : System) (c o : ℕ) (g : List Told) (v w : LaneView) → GrowsOf o g v w → Quiet g → IsBase sys c v → IsBase sys c w
base-quiet sys c o g v w grows quiet b = record {
  sound = b.sound;
  of = grows.sys ∙ b.of;
  serves = λ p. grows.serves p ∙ b.serves p;
  told = b.told ∙ sym (quiet-ceiling o v.told g quiet) ∙ ap (ceiling_in 0) (sym grows.told);
  spills = subst (λ t. spills_told t ≡ false) (sym grows.told) (spills-append o v.told g b.spills (quiet-spillless g quiet));
}

-- a note of a look, and one of a rest
pub look-told : (o k floor : ℕ) (r : Rec) (v : LaneView) → item_of r ≡ record { of = o; body = Look k floor } → told_note r v ≡ plain (Look k floor) ∷ []
unfolding told_note
look-told o k floor r v is = rw (body-is o (Look k floor) r is) refl

pub rest-told : (o k : ℕ) (r : Rec) (v : LaneView) → item_of r ≡ record { of = o; body = Rest k } → told_note r v ≡ plain (Rest k) ∷ []
unfolding told_note
rest-told o k r v is = rw (body-is o (Rest k) r is) refl

pub base-rest : (sys : System) (c o k : ℕ) (r : Rec) (u v w : LaneView) → item_of r ≡ record { of = o; body = Rest k } → Roomier u v → GrowsOf r.of (told_note r v) v w
    → IsBase sys c u → IsBase sys c w
base-rest sys c o k r u v w is room grows b =
    base-quiet sys c r.of (plain (Rest k) ∷ []) v w (subst (λ g. GrowsOf r.of g v w) (rest-told o k r v is) grows) refl (base-room sys c u v room b)

-- a post of a static event
pub base-post : (sys : System) (to sig : ℕ) (d : Did) (v w : LaneView) → CallAnswers v.sys v.by None (call.Post to sig [] None None) d v w → IsBase sys 0 v → IsBase sys 0 w
base-post sys to sig d v w a b = base-quiet sys 0 v.by a.g v w a.grows (fits-quiet v.sys v.by None (call.Post to sig [] None None) a.answer a.g refl a.fits) b

-- while the lane works for an object, and behind that
pub base-lane : (sys : System) (c : ℕ) (home : ObjectSetting) (v : LaneView) → home.sys ≡ sys → IsBase sys c v → IsLaneOf home c (works_for home.me v)
base-lane sys c home v same b = record { of = b.of ∙ sym same; mine = refl; serves = b.serves home.me; told = b.told; spills = b.spills }

pub lane-base : (sys : System) (c d o : ℕ) (g : List Told) (home : ObjectSetting) (v mid w : LaneView) → IsBase sys c v → Grows g (works_for home.me v) mid → IsLaneOf home d mid → w ≡ works_for o mid
    → IsBase sys d w
lane-base sys c d o g home v mid w b grows lane is = record {
  sound = b.sound;
  of = ap (λ x. x.sys) is ∙ grows.sys ∙ b.of;
  serves = λ p. ap (λ x. x.serves p) is ∙ grows.serves p ∙ b.serves p;
  told = lane.told ∙ ap (λ x. ceiling_in 0 x.told) (sym is);
  spills = subst (λ x. spills_told x.told ≡ false) (sym is) lane.spills;
}

-- nothing has happened in a new world, in which each lane serves each object
pub new-base : (sys : System) (n : ℕ) (world : PlainWorld) → IsSound sys → IsNewWorld sys n world → IsBase sys 0 (world_view world)
unfolding view_of ceiling_in
new-base sys n world sound new = record {
  sound = sound;
  of = new.sys_is;
  serves = λ o. refl;
  told = rw (new.view.told) refl;
  spills = rw (new.view.told) refl;
}
