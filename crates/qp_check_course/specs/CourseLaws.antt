-- What the states of a course promise.
use Rattle.std.specs.Prelude.{◌≡◌, List}
use Rattle.qp_model.specs.declared.systems.System.{System}
use Rattle.qp_model.specs.declared.systems.ObjectDef.{ObjectDef}
use Rattle.qp_model.specs.Told.{Told}
use Rattle.qp_model.specs.Pieces.{Piece, records_in}
use Rattle.qp_model.specs.Course.{Cut, FollowsTo}
use Rattle.qp_check_calls.specs.Decides.{Decides}
use Rattle.qp_check_course.specs.Decided.{reads_to}
use Rattle.qp_check_course.specs.Passing.{told_to}
use Rattle.qp_check_course.specs.Followable.{IsFollowable}

-- read piece by piece, they tell whether the pieces follow the object's chart
unfoldable pub PiecesAreDecided : Type 0
unfolding Decides FollowsTo reads_to
PiecesAreDecided = (sys : System) (d : ObjectDef) (f : IsFollowable sys d) (cut : Cut) (ps : List Piece) → Decides (reads_to sys d f.its cut ps) (FollowsTo sys d cut ps)

-- read record by record, they tell whether the records do with some points between them
unfoldable pub RecordsAreDecided : Type 0
unfolding Decides FollowsTo records_in told_to
RecordsAreDecided =
    (sys : System) (d : ObjectDef) (f : IsFollowable sys d) (cut : Cut) (g : List Told)
    → Decides (told_to sys d f.its cut g) ((ps : List Piece) × (records_in ps ≡ g) × FollowsTo sys d cut ps)
