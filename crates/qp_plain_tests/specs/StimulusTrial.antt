-- What a trial may go on with.
use Rattle.std.specs.Prelude.{◌≡◌, false}
use Rattle.qp_model.specs.declared.systems.System.{System}
use Rattle.qp_model.specs.Sound.{IsSound}
use Rattle.qp_calls.specs.LaneView.{LaneView}
use Rattle.qp_calls.specs.Notes.{spills_told}

-- the lane is of this sound system, works for no object and has no `spill`
pub record IsStimulusBase (sys : System) (v : LaneView) : Type 0 where
  pub sound : IsSound sys
  pub of : v.sys ≡ sys
  pub none : v.by ≡ 0
  pub spills : spills_told v.told ≡ false
