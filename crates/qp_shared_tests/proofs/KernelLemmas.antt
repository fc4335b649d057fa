-- The kernel's lane and that of a source stay the same ones.
use Rattle.std.proofs.Common.{◌≡◌, ℕ, Bool, true, false, List, ◌∷◌, Some, refl, ◌∙◌, ap, subst, sym}
use Rattle.std.specs.Option.{is_some}
use Rattle.qp_model.specs.declared.systems.System.{System}
use Rattle.qp_model.specs.declared.systems.ObjectDef.{ObjectDef}
use Rattle.qp_model.specs.Sites.{object_at}
use Rattle.qp_model.specs.WordLaw.{is_object}
use Rattle.qp_calls.specs.LaneView.{LaneView}
use Rattle.qp_dispatch.specs.declared.objects.Turn.{Turn}
use Rattle.qp_dispatch.specs.declared.objects.Turn.TheVariants as turn
use Rattle.qp_dispatch.specs.declared.steps.Step.{Step}
use Rattle.qp_dispatch.specs.declared.steps.Step.TheVariants as step
use Rattle.qp_kernel_turns.specs.Lanes.{KeepsLane, LaneStarts, LaneTurns, SameLane}
use Rattle.qp_kernel.specs.Happenings.{has_no_stim}
use Rattle.qp_kernel_turns.specs.Ordering.{InOrder}
use Rattle.qp_kernel_turns.specs.Starting.{IsFreshLane}
use Rattle.qp_port_lanes.specs.declared.cursor.Cursor.{Cursor}
use Rattle.qp_port_lanes.specs.SourceTurning.{SourceTurns}
use Rattle.qp_shared.specs.declared.shared.Shared.{Shared}
use Rattle.qp_shared.specs.Starting.{AreFirst, serves_all}
use Rattle.qp_shared_tests.specs.Lanes.{IsSame}

its : (v w : LaneView) → SameLane v w → IsSame v w
its v w s = record { world = s.world; sys = s.sys; number = s.lane; serves = s.serves }

keeps : (acts : Bool) (v w : LaneView) → KeepsLane acts v w → IsSame v w
keeps acts v w k = record { world = k.same.world; sys = k.same.sys; number = k.same.lane; serves = k.same.serves }

pub same-turned : (acts : Bool) (v w : LaneView) (t : Turn) → LaneTurns acts v w t → IsSame v w
same-turned acts v w turn.Idle h = keeps acts v w h.keeps
same-turned acts v w turn.Stopped h = keeps acts v w h.keeps
same-turned acts v w turn.Memory h = keeps acts v w h.keeps

pub same-started : (v w : LaneView) (s : Step) → LaneStarts v w s → IsSame v w
same-started v w step.Point h = absurd h
same-started v w step.Done h = keeps false v w h.keeps
same-started v w step.Stopped h = keeps false v w h.keeps
same-started v w step.Memory h = keeps false v w h.keeps

pub same-acted : (sys : System) (x y : Cursor) (v w : LaneView) (t : Turn) → SourceTurns sys x y v w t → IsSame v w
same-acted sys x y v w turn.Idle h = its v w h.goes.keeps
same-acted sys x y v w turn.Stopped h = its v w h.keeps
same-acted sys x y v w turn.Memory h = its v w h.keeps

-- What a lane is at first.

is-object : (sys : System) (d : ObjectDef) → object_at sys d.priority ≡ Some d → is_object sys d.priority ≡ true
unfolding is_object
is-object sys d at = ap is_some at

pub first-fresh : (s : Shared) (sys : System) (v : LaneView) (vs : List LaneView) → s.sys.now ≡ sys → AreFirst s 2 (serves_all s.sys.now) (v ∷ vs) → IsFreshLane sys v
first-fresh s sys v vs its h =
    let first = h.each 0 v refl in
    subst (λ t. IsFreshLane t v) its (record { new = first.new; of = first.sys_is; serves = λ d at. h.serve 0 v refl d.priority ∙ is-object s.sys.now d at })

-- in the looks of such a world nothing happens
pub in-order : (acts : Bool) (sys : System) (looks : ℕ) (v : LaneView) → acts ≡ false → has_no_stim v → InOrder acts sys looks v
in-order acts sys looks v alone none = record { order = λ acting. let wrong : true ≡ false = sym acting ∙ alone in absurd (cc); no_stim = none }

pub plan-started : (v w : LaneView) (s : Step) → LaneStarts v w s → w.plan ≡ v.plan
plan-started v w step.Point h = absurd h
plan-started v w step.Done h = h.keeps.same.plan
plan-started v w step.Stopped h = h.keeps.same.plan
plan-started v w step.Memory h = h.keeps.same.plan
