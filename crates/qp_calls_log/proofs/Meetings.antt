-- A lane that met another went on.
use Rattle.std.proofs.Common.{ap, arith}
use Rattle.qp_calls.specs.LaneView.{Advances, LaneView}
use Rattle.qp_calls.proofs.Advancing.{advances-still}
use Rattle.qp_calls_log.specs.Meeting.{Met}

pub advances-met : (v u w : LaneView) → Met v u w → Advances v w
advances-met v u w h = advances-still v w (ap (λ x. x.told) h.same) (λ x. let most = h.mark x in omega (arith, most))
