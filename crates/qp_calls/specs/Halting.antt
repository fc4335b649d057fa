-- How a lane stops that has no room.
use Rattle.std.specs.Prelude.{◌<◌, ◌≤◌, [], ◌∷◌, length}
use Rattle.qp_model.specs.declared.bodies.Body.TheVariants as body
use Rattle.qp_model.specs.Told.{plain}
use Rattle.qp_model.specs.Stops as stop
use Rattle.qp_calls.specs.LaneView.{LaneView, GrowsOf}
use Rattle.qp_calls.specs.Clauses.{Stops}
use Rattle.qp_calls.specs.declared.halting.Halted.{Halted}
use Rattle.qp_calls.specs.declared.halting.Halted.TheVariants as halted

-- a full lane told its `spill`, and handed in 6
pub record HaltsFull (v w : LaneView) : Type 0 where
  pub full : LaneView
  pub few : 999992 < length v.told
  pub spills : GrowsOf 0 (plain (body.Spill (length v.told)) ∷ []) v full
  pub stops : Stops stop.spent_or_full full w

-- memory was refused to a lane that isn't full, and it handed in 7
pub record HaltsDry (v w : LaneView) : Type 0 where
  pub room : length v.told ≤ 999992
  pub stops : Stops stop.memory v w

abbrev pub Halts : LaneView → LaneView → Halted → Type 0
Halts v w halted.Full = HaltsFull v w
Halts v w halted.Memory = HaltsDry v w
