-- Lanes of the tests.
use Rattle.std.specs.Prelude.{◌≡◌, ℕ, ◌==◌, IsFalse, IsTrue, false, true, slice_get}
use Rattle.std.specs.Option.{option_map_or}
use Rattle.qp_base.specs.declared.event.Ev.{Ev}
use Rattle.qp_model.specs.declared.systems.System.{System}
use Rattle.qp_model.specs.Parts.{is_static}
use Rattle.qp_model.specs.Sound.{IsSound}
use Rattle.qp_model.specs.WordLaw.{is_object}
use Rattle.qp_calls.specs.Clauses.{IsEvent, event_of}
use Rattle.qp_calls.specs.LaneView.{LaneView}
use Rattle.qp_shared.specs.declared.shared.Shared.{Shared}
use Rattle.qp_shared.specs.Starting.{world_name}

-- lane i of the so many that these tables became
pub record IsTableLane (s : Shared) (n i : ℕ) (v : LaneView) : Type 0 where
  pub world : v.world ≡ world_name s n
  pub sys : v.sys ≡ s.sys.now
  pub number : v.lane ≡ i

-- the same lane of the same tables
pub record IsSame (v w : LaneView) : Type 0 where
  pub world : w.world ≡ v.world
  pub sys : w.sys ≡ v.sys
  pub number : w.lane ≡ v.lane
  pub serves : (o : ℕ) → w.serves o ≡ v.serves o

-- the system has objects 1 and 2, a static first signal, and blocks for the event
pub record MayPlay (sys : System) (ev : Ev) : Type 0 where
  pub sound : IsSound sys
  pub one_stands : option_map_or (λ d. d.priority == 1) (slice_get sys.objects 0) false ≡ true
  pub two_stands : option_map_or (λ d. d.priority == 2) (slice_get sys.objects 1) false ≡ true
  pub one : IsTrue (is_object sys 1)
  pub two : IsTrue (is_object sys 2)
  pub fixed : IsTrue (is_static sys 4)
  pub event : IsEvent sys (event_of ev)
  pub pooled : IsFalse (is_static sys ev.sig)

-- a lane that takes from the queue of object `me`, and posts to it and to object `to`
pub record IsPlayer (sys : System) (ev : Ev) (me to : ℕ) (v : LaneView) : Type 0 where
  pub sound : IsSound sys
  pub of : v.sys ≡ sys
  pub mine : IsTrue (is_object sys me)
  pub other : IsTrue (is_object sys to)
  pub serves : v.serves me ≡ true
  pub fixed : IsTrue (is_static sys 4)
  pub event : IsEvent sys (event_of ev)
  pub pooled : IsFalse (is_static sys ev.sig)
