use Rattle.std.proofs.Common.{◌≡◌, ◌≤◌, ◌++◌, ℕ, IsSome, drop}
use Rattle.qp_model.specs.History.{lane_items}
use Rattle.qp_model.specs.KernelLane.{lane_on}
use Rattle.qp_model.specs.Points.{lane_pieces, pieces_in}
use Rattle.qp_check_kernel.specs.LaneState.{as_reading, as_setting}
use Rattle.qp_check_knowledge.specs.Knowledge.{known_facts}
use Rattle.qp_check.specs.ObjectPieces.{pieces_of_object}
use Rattle.qp_check.proofs.pieces.pieces_in.Given as goal

abbrev pub invariant-loop-r : goal.invariant-loop-r
invariant-loop-r l = record {
  each :
      (o : ℕ) → pieces_of_object l.pieces o ++ pieces_in (known_facts l.knowledge) (as_setting l.rules) o (as_reading l.reading) (lane_items (drop l.r-index l.lane))
      ≡ lane_pieces (known_facts l.knowledge) (as_setting l.rules) o (lane_items l.lane);
  stands : IsSome (lane_on (as_setting l.rules) (as_reading l.reading) (lane_items (drop l.r-index l.lane)));
  few : l.reading.idle ≤ l.r-index;
}
