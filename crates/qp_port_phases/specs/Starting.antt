-- Starts, and what comes behind them.
use Rattle.std.specs.Prelude.{◌⊎◌, List, [], ◌∷◌, ⊤}
use Rattle.qp_calls.specs.LaneView.{LaneView}
use Rattle.qp_port_phases.specs.Turns.{AreReady}
use Rattle.qp_port_phases.specs.Floors.{HasFloor}
use Rattle.qp_port_phases.specs.Lanes.{SameEach}

-- all started, and went on above a floor
pub record WentOn {T : Type 0} (view : T → LaneView) (Started : T → Type 0) (Same : T → T → Type 0) (xs zs : List T) : Type 0 where
  pub between : List T
  pub started : AreReady Started between
  pub before : SameEach Same xs between
  pub behind : SameEach Same between zs
  pub floor : HasFloor view between zs

-- or no lane has more than its start
abbrev pub StartFirst : {T : Type 0} → (T → LaneView) → (T → Type 0) → (T → Type 0) → (T → T → Type 0) → List T → List T → Type 0
StartFirst view Alone Started Same xs zs = AreReady Alone zs ⊎ WentOn view Started Same xs zs

-- They start in their order: behind one whose start hasn't come to its end none has begun.
abbrev pub StartInOrder : {T : Type 0} → (T → Type 0) → (T → Type 0) → List T → Type 0
StartInOrder Started Fresh [] = ⊤
StartInOrder Started Fresh (x ∷ xs) = (Started x × StartInOrder Started Fresh xs) ⊎ AreReady Fresh xs
