-- A lamp's lane, and a source's, where nothing has happened, and what posts leave of the system.
use Rattle.std.proofs.Common.{◌≡◌, ℕ, List, [], slice_get, Ok, Err, Option, Some, append-nil, sym, ◌∙◌, ap, subst}
use Rattle.std.specs.Prelude.{IsTrue}
use Rattle.std.specs.declared.result.Result.{Result}
use Rattle.qp_model.specs.declared.bodies.Entry as model
use Rattle.qp_model.specs.declared.systems.System.{System}
use Rattle.qp_model.specs.Calls.{Call}
use Rattle.qp_model.specs.Parts.{is_static}
use Rattle.qp_model.specs.WordLaw.{is_object}
use Rattle.qp_calls.specs.declared.answers.RoomFault.{RoomFault}
use Rattle.qp_calls.specs.declared.did.Did.{Did}
use Rattle.qp_calls.specs.Groups.{CallReturns}
use Rattle.qp_calls.specs.LaneView.{LaneView}
use Rattle.qp_dispatch.specs.declared.steps.Step.{Step}
use Rattle.qp_dispatch.specs.declared.steps.Step.TheVariants as step
use Rattle.qp_kernel_turns.specs.Lanes.{LaneStarts}
use Rattle.qp_port_lanes.specs.At.{HasEmptyLane}
use Rattle.qp_shared.specs.declared.shared.Shared.{Shared}
use Rattle.qp_shared.specs.Starting.{AreFirst, serves_one}
use Rattle.qp_wait_rings.specs.declared.ringing.RingingLane.{RingingLane}
use Rattle.qp_wait.specs.Handed.{ringing_view}
use Rattle.qp_wait.specs.declared.bells.Bells.{Bells}
use Rattle.qp_wait.specs.declared.lane.BellLane.{BellLane}
use Rattle.qp_wait.specs.Handed.{IsNewBellLane, bell_view}
use Rattle.qp_wait.specs.Handed.{HasParked}
use Rattle.qp_wait.specs.Handed.{AreBellsOf}
use Rattle.qp_wait.proofs.Handed.{parked-still}
use Rattle.qp_shared_tests.specs.Lamps.{HasGrown, IsLamp, IsLampLane}

-- each lane of the tables is one of their system
pub its-system : (s : Shared) (sys : System) (i : ℕ) (vs : List LaneView) (v : LaneView) → s.sys.now ≡ sys → AreFirst s 3 (serves_one s.sys.now) vs → slice_get vs i ≡ Some v → v.sys ≡ sys
its-system s sys i vs v its h at = (h.each i v at).sys_is ∙ its

-- the bells are those of such a lane
pub its-bells : (sys : System) (b : Bells) (v : LaneView) → v.sys ≡ sys → AreBellsOf sys b → AreBellsOf v.sys b
its-bells sys b v of bells = subst (λ t. AreBellsOf t b) (sym of) bells

-- lane 1 serves the lamp
pub empty-lane : (s : Shared) (sys : System) (vs : List LaneView) (v : LaneView) (l : BellLane) → s.sys.now ≡ sys → AreFirst s 3 (serves_one s.sys.now) vs → slice_get vs 1 ≡ Some v → IsLamp sys → IsNewBellLane v l
    → HasEmptyLane sys 1 (bell_view l)
empty-lane s sys vs v l its h at lamp begins =
    let first = h.each 1 v at in
    subst (HasEmptyLane sys 1) (sym begins.lane)
    (record {
      of = first.sys_is ∙ its;
      serves = h.serve 1 v at 1 ∙ (ap (λ t. serves_one t 1 1) its ∙ lamp.stands);
      told = first.new.told;
      hands = first.new.hands;
    })

-- a lane of a lamp's system may post to it
pub lamp-lane : (sys : System) (v : LaneView) (l : BellLane) → v.sys ≡ sys → IsLamp sys → IsNewBellLane v l → IsLampLane l
lamp-lane sys v l of lamp begins =
    let is = ap (λ u. u.sys) begins.lane ∙ of in
    record { one = subst (λ t. IsTrue (is_object t 1)) (sym is) lamp.one; fixed = subst (λ t. IsTrue (is_static t 4)) (sym is) lamp.fixed }

-- and goes on so
pub lamp-lane-still : (l m : BellLane) → HasGrown (bell_view l) (bell_view m) → IsLampLane l → IsLampLane m
lamp-lane-still l m g h = record { one = subst (λ t. IsTrue (is_object t 1)) (sym g.sys) h.one; fixed = subst (λ t. IsTrue (is_static t 4)) (sym g.sys) h.fixed }

-- More records came.

pub called-grown : (now : Option model.Entry) (c : Call) (v w : LaneView) (r : Result Did RoomFault) → CallReturns now c v w r → HasGrown v w
called-grown now c v w (Ok d) h = record { sys = h.grows.sys; ts = _; told = h.grows.told }
called-grown now c v w (Err fault) h = record { sys = ap (λ u. u.sys) h.0; ts = []; told = ap (λ u. u.told) h.0 ∙ sym (append-nil v.told) }

pub started-grown : (v w : LaneView) (r : Step) → LaneStarts v w r → HasGrown v w
started-grown v w step.Point h = absurd h
started-grown v w step.Done h = record { sys = h.keeps.same.sys; ts = h.keeps.told.0; told = h.keeps.told.1 }
started-grown v w step.Stopped h = record { sys = h.keeps.same.sys; ts = h.keeps.told.0; told = h.keeps.told.1 }
started-grown v w step.Memory h = record { sys = h.keeps.same.sys; ts = h.keeps.told.0; told = h.keeps.told.1 }

-- its parks stand behind looks still
pub parked-grown : (l : BellLane) (now : RingingLane) → HasGrown (bell_view l) (ringing_view now) → HasParked l.farewells.cords.items l.perch (ringing_view now)
parked-grown l now g = parked-still l.farewells.cords.items l.perch (ringing_view l.ringing) (ringing_view now) l.parked (record { sys = g.sys; ts = g.ts; told = g.told })
