-- Pieces and cuts, as the definitions see them.
use Rattle.qp_model.specs.Pieces as pieces
use Rattle.qp_model.specs.Course as course
use Rattle.qp_check_calls.specs.declared.pieces.Piece.{Piece}
use Rattle.qp_check_calls.specs.declared.pieces.Piece.TheVariants as piece
use Rattle.qp_check_calls.specs.declared.pieces.Cut.{Cut}
use Rattle.qp_check_calls.specs.declared.pieces.Cut.TheVariants as cut

abbrev pub as_piece : Piece → pieces.Piece
as_piece (piece.Tell t) = pieces.Tell t
as_piece piece.Point = pieces.Point

abbrev pub as_cut : Cut → course.Cut
as_cut cut.Whole = course.Whole
as_cut cut.Stopped = course.Stopped
as_cut cut.Anywhere = course.Anywhere
