use Rattle.qp_side.specs.Seats.{in_set}
use Rattle.qp_shared_ends.specs.Seats.{root_left, lane_new}
use Rattle.qp_shared_ends.proofs.table.give_lane.Given as goal

abbrev pub ghosts-part : goal.ghosts-part
ghosts-part a = record { left = root_left a._number (in_set a._objects); right = lane_new a._number (in_set a._objects) }
