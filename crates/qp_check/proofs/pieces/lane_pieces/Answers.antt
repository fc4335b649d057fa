use Rattle.std.proofs.Common.{ap}
use Rattle.qp_model.specs.KernelLane.{Setting}
use Rattle.qp_model.specs.Lawful.{setting_of}
use Rattle.qp_check.proofs.pieces.lane_pieces.Goals as goal

pub pieces_in-requires-clause-same : goal.pieces_in-requires-clause-same
unfolding setting_of
pieces_in-requires-clause-same c = ap (λ (s : Setting). s.sys) c.in_ok-rules.ensures
