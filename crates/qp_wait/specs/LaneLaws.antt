-- The laws of every lane.
use Rattle.qp_calls.specs.LaneLaws.{IsWithinLimit, HasCauses}
use Rattle.qp_wait_rings.specs.LaneLaws as rings
use Rattle.qp_wait.specs.declared.lane.BellLane.{BellLane}
use Rattle.qp_wait.specs.Lane.{bell_view}

pub keeps-limit : (l : BellLane) → IsWithinLimit (bell_view l)
keeps-limit l = rings.keeps-limit l.ringing

pub has-causes : (l : BellLane) → HasCauses (bell_view l)
has-causes l = rings.has-causes l.ringing
