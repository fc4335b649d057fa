use Rattle.qp_side.specs.Told.{root_less, seat_with}
use Rattle.qp_side.specs.Seats.{in_set}
use Rattle.qp_side.proofs.words.give_seat.Given as goal

abbrev pub ghosts-part : goal.ghosts-part
ghosts-part a = record { left = root_less a._number (in_set a._objects); right = seat_with a._number (in_set a._objects) }
