-- The system of the tests, and a lane that may post to its object.
use Rattle.std.specs.Prelude.{◌≡◌, ◌==◌, ◌++◌, IsTrue, List, false, slice_get, true}
use Rattle.std.specs.Option.{option_map_or}
use Rattle.qp_model.specs.declared.systems.System.{System}
use Rattle.qp_model.specs.Parts.{is_static}
use Rattle.qp_model.specs.Told.{ToldItem}
use Rattle.qp_model.specs.WordLaw.{is_object}
use Rattle.qp_calls.specs.LaneView.{LaneView}
use Rattle.qp_wait.specs.declared.lane.BellLane.{BellLane}
use Rattle.qp_wait.specs.Handed.{bell_view}

-- its first object has priority 1, and its first signal is static
pub record IsLamp (sys : System) : Type 0 where
  pub stands : option_map_or (λ d. d.priority == 1) (slice_get sys.objects 0) false ≡ true
  pub one : IsTrue (is_object sys 1)
  pub fixed : IsTrue (is_static sys 4)

-- a lane of the same system with more records
pub record HasGrown (v w : LaneView) : Type 0 where
  pub sys : w.sys ≡ v.sys
  pub ts : List ToldItem
  pub told : w.told ≡ v.told ++ ts

pub record IsLampLane (l : BellLane) : Type 0 where
  pub one : IsTrue (is_object (bell_view l).sys 1)
  pub fixed : IsTrue (is_static (bell_view l).sys 4)
