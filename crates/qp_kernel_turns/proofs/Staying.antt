-- What is known of objects stays while the lane goes on.
use Rattle.std.proofs.Common.{◌≡◌, ◌≢◌, ℕ, ◌==◌, cond, Bool, true, false, List, ◌∷◌, ◌++◌, length, refl, sym, ◌∙◌, ap, subst, Some, arith}
use Rattle.std.specs.Prelude.{slice_get}
use Rattle.std.proofs.lemmas.Bool.Decides.{nat_tests}
use Rattle.qp_chart.specs.StateTree.{has}
use Rattle.qp_chart.specs.declared.checked.Chart.{Chart}
use Rattle.qp_model.specs.declared.systems.System.{System}
use Rattle.qp_model.specs.declared.systems.ObjectDef.{ObjectDef}
use Rattle.qp_model.specs.declared.bodies.Entry as model
use Rattle.qp_model.specs.Sites.{object_at}
use Rattle.qp_model.specs.Course.{chart_at}
use Rattle.qp_calls.specs.LaneView.{LaneView}
use Rattle.qp_calls.specs.Deferring.{StandAll}
use Rattle.qp_dispatch.specs.declared.objects.Object.{Object}
use Rattle.qp_dispatch.specs.declared.lasting.Lasting.{Lasting}
use Rattle.qp_dispatch.specs.declared.steps.Going.{Going}
use Rattle.qp_dispatch.specs.declared.steps.Position.TheVariants as standing
use Rattle.qp_dispatch.specs.Objects.{setting_for}
use Rattle.qp_dispatch.specs.Parts.{held_by}
use Rattle.qp_dispatch.specs.Resume.{IsGoing, IsUnderWay, step_event, held_in, remainder_of}
use Rattle.qp_dispatch.specs.Runs.{ObjectSetting, hand_of}
use Rattle.qp_dispatch.proofs.Naming.{publishing-still}
use Rattle.qp_kernel.specs.Stages as stage
use Rattle.qp_kernel.specs.Stages.{Stage, is_resting, may_wait}
use Rattle.qp_kernel.specs.Turning.{KernelState, moved, having}
use Rattle.qp_kernel.specs.Laws.{AllWait, OthersWait}
use Rattle.qp_kernel.proofs.KernelTurns.{only}
use Rattle.qp_kernel_turns.specs.declared.objects.Objects.{Objects}
use Rattle.qp_kernel_turns.specs.declared.objects.Slot.{Slot}
use Rattle.qp_kernel_turns.specs.Objects.{IsAt, PutsSlot}
use Rattle.qp_kernel_turns.specs.Knowing.{HandsCover, HasStack, IsObjectAt, KnowsAll, KnowsObject, StageIs, is_paused}
use Rattle.qp_kernel_turns.proofs.Places.{get-other, get-put, own-stand}

-- Those that wait.

pub paused-waits : (s : Stage) → is_paused s ≡ true → may_wait s ≡ true
paused-waits (stage.Paused ev e left c) h = refl
paused-waits stage.Unstarted h = absurd (cc)
paused-waits (stage.Resting c) h = absurd (cc)
paused-waits (stage.Begun ev e left c) h = absurd (cc)

pub resting-waits : (s : Stage) → is_resting s ≡ true → may_wait s ≡ true
resting-waits (stage.Resting c) h = refl
resting-waits stage.Unstarted h = absurd (cc)
resting-waits (stage.Paused ev e left c) h = absurd (cc)
resting-waits (stage.Begun ev e left c) h = absurd (cc)

-- all objects rest or wait
pub all-wait : (sys : System) (s : KernelState) → HasStack sys s.reading.running s → AllWait sys s
all-wait sys s stack d found = by (has s.reading.running d.priority) refl
  where
    by : (b : Bool) → has s.reading.running d.priority ≡ b → may_wait (s.stages d.priority) ≡ true
    by true is = paused-waits (s.stages d.priority) (stack.waits d.priority is)
    by false is = resting-waits (s.stages d.priority) (stack.rests d found is)

-- and so do all but the running one
pub others-wait : (sys : System) (s : KernelState) (p : ℕ) (outer : List ℕ) → s.reading.running ≡ p ∷ outer → HasStack sys outer s → OthersWait sys s p
others-wait sys s p outer running stack d found other = by (has outer d.priority) refl
  where
    by : (b : Bool) → has outer d.priority ≡ b → may_wait (s.stages d.priority) ≡ true
    by true is = paused-waits (s.stages d.priority) (stack.waits d.priority is)
    by false is =
        let none : has s.reading.running d.priority ≡ false = ap (λ ps. has ps d.priority) running ∙ rw other is in
        resting-waits (s.stages d.priority) (stack.rests d found none)

-- An object that waits, in a lane that has gone on.

going-still : (home : ObjectSetting) (k : Lasting) (g : Going) (v w : LaneView) → w.sys ≡ v.sys → StandAll (held_in k (standing.Within g)) w → IsGoing home k g v → IsGoing home k g w
going-still home k g v w same all h = record {
  hand = h.hand;
  is = h.is;
  may = h.may;
  able = h.able;
  publishing = publishing-still g.left.under v w same h.publishing;
  stand = subst (λ es. StandAll (held_by k g.left.under ++ es) w) (ap hand_of h.is) all;
  few = h.few;
}

stage-still : (sys : System) (d : ObjectDef) (chart : Chart) (x : Object) (v w : LaneView) (s : Stage) → w.sys ≡ v.sys → StandAll (held_in x.lasting x.stage) w → may_wait s ≡ true
    → StageIs sys d chart x v s → StageIs sys d chart x w s
stage-still sys d chart x v w stage.Unstarted same all waits h = h
stage-still sys d chart x v w (stage.Resting c) same all waits h = h
stage-still sys d chart x v w (stage.Begun ev e left c) same all waits h = absurd (cc)
stage-still sys d chart x v w (stage.Paused ev e left c) same all waits (g, is, h) =
    let home = setting_for sys chart x in
    let going : IsGoing home x.lasting g v = subst (λ z. IsUnderWay home x.lasting z v) is h.under_way in
    let here : StandAll (held_in x.lasting (standing.Within g)) w = subst (λ z. StandAll (held_in x.lasting z) w) is all in (
      g,
      is,
      record {
        started = h.started;
        under_way = subst (λ z. IsUnderWay home x.lasting z w) (sym is) (going-still home x.lasting g v w same here going);
        event = h.event ∙ ap (λ z. step_event z v) is ∙ sym (ap (λ z. step_event z w) is);
        entry = h.entry;
        left = h.left ∙ ap (λ z. remainder_of home x.lasting z v) is ∙ sym (ap (λ z. remainder_of home x.lasting z w) is);
        config = h.config;
      },
    )

pub object-still : (sys : System) (d : ObjectDef) (chart : Chart) (slot : Slot) (v w : LaneView) (s : Stage) (n : ℕ) → w.sys ≡ v.sys
    → StandAll (held_in slot.object.lasting slot.object.stage) w → may_wait s ≡ true → IsObjectAt sys d chart slot v s n → IsObjectAt sys d chart slot w s n
object-still sys d chart slot v w s n same all waits h = record {
  threshold = h.threshold;
  me = h.me;
  of = h.of;
  compiled = h.compiled;
  room = h.room;
  named = h.named;
  taken = h.taken;
  stage = stage-still sys d chart slot.object v w s same all waits h.stage;
}

-- all wait while the lane goes on
pub all-still : (sys : System) (xs : Objects) (v w : LaneView) (stages : ℕ → Stage) (entries : ℕ → List model.Entry) → w.sys ≡ v.sys → v.sys ≡ sys → HandsCover xs w
    → ((d : ObjectDef) → object_at sys d.priority ≡ Some d → may_wait (stages d.priority) ≡ true) → KnowsAll sys xs v stages entries → KnowsAll sys xs w stages entries
all-still sys xs v w stages entries same of cover waits all d chart found its =
    let k = all d chart found its in
    record {
      slot = k.slot;
      there = k.there;
      is = object-still sys d chart k.slot v w (stages d.priority) (length (entries d.priority)) same (own-stand sys xs d.priority k.slot w cover k.there (same ∙ of) k.is.named) (waits d found) k.is;
    }

-- one goes on while the others wait
pub all-put : (sys : System) (xs ys : Objects) (v w : LaneView) (stages : ℕ → Stage) (entries : ℕ → List model.Entry) (p : ℕ) (o : ObjectDef) (chart : Chart) (slot later : Slot) (s : Stage) (es : List model.Entry)
    → o.priority ≡ p → object_at sys o.priority ≡ Some o → chart_at sys o.chart ≡ Some chart
    → w.sys ≡ v.sys → v.sys ≡ sys → HandsCover ys w → IsAt xs p slot → PutsSlot xs ys p later
    → ((d : ObjectDef) → object_at sys d.priority ≡ Some d → (p == d.priority) ≡ false → may_wait (stages d.priority) ≡ true)
    → IsObjectAt sys o chart later w s (length es) → KnowsAll sys xs v stages entries → KnowsAll sys ys w (moved stages p s) (having entries p es)
all-put sys xs ys v w stages entries p o chart slot later s es priority here has same of cover there put waits now all d other found its = by (p == d.priority) refl
  where
    by : (b : Bool) → (p == d.priority) ≡ b → KnowsObject sys d other ys w (cond b s (stages d.priority)) (length (cond b es (entries d.priority)))
    by true is =
        let equal : d.priority ≡ p = grind (arith, nat_tests) in
        record {
          slot = later;
          there = subst (λ n. slice_get ys.slots.items n ≡ Some (Some later)) (sym equal) (ap (λ zs. slice_get zs p) put ∙ get-put xs.slots.items p (Some slot) (Some later) there);
          is = only sys p o d chart other (λ x c. IsObjectAt sys x c later w s (length es)) (record { priority = priority; found = here; its = has }) equal found its now;
        }
    by false is =
        let k = all d other found its in
        let apart : p ≢ d.priority = grind (arith, nat_tests) in
        let at : IsAt ys d.priority k.slot = ap (λ zs. slice_get zs d.priority) put ∙ get-other xs.slots.items p d.priority (Some later) apart ∙ k.there in
        record {
          slot = k.slot;
          there = at;
          is = object-still sys d other k.slot v w (stages d.priority) (length (entries d.priority)) same (own-stand sys ys d.priority k.slot w cover at (same ∙ of) k.is.named) (waits d found is) k.is;
        }
