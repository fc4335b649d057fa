-- The laws of every lane.
use Rattle.qp_calls.specs.LaneLaws.{IsWithinLimit, HasCauses}
use Rattle.qp_shared.specs.LaneLaws as shared
use Rattle.qp_wait_rings.specs.declared.ringing.RingingLane.{RingingLane}
use Rattle.qp_wait_rings.specs.Lane.{ringing_view}

pub keeps-limit : (l : RingingLane) → IsWithinLimit (ringing_view l)
keeps-limit l = shared.keeps-limit l.lane

pub has-causes : (l : RingingLane) → HasCauses (ringing_view l)
has-causes l = shared.has-causes l.lane
