-- The pieces of each object in lane 0.
use Rattle.std.specs.Prelude.{◌≡◌, ℕ, ◌==◌, Bool, false, List, [], ◌∷◌, if◌then◌else◌, Some, None}
use Rattle.std.specs.declared.option.Option.{Option}
use Rattle.std.specs.Option.{unwrap_or}
use Rattle.std.specs.BTreeMap.{get}
use Rattle.std.specs.Ordering.{nat_cmp}
use Rattle.qp_model.specs.declared.systems.System.{System}
use Rattle.qp_model.specs.declared.journals.Journal.{Journal}
use Rattle.qp_model.specs.History.{lane_items}
use Rattle.qp_model.specs.Home.{lane_at}
use Rattle.qp_model.specs.Lawful.{facts_of, setting_of}
use Rattle.qp_model.specs.Points.{lane_pieces}
use Rattle.qp_model.specs.Record.{Item}
use Rattle.qp_model.specs.Ends.{is_turn_mark}
use Rattle.qp_model.specs.KernelLane.{Reading, Upcoming, Inside}
use Rattle.qp_model.specs.Knowing.{Facts, told}
use Rattle.qp_model.specs.Pieces.{Piece, Tell}
use Rattle.qp_model.specs.Points.{is_look}
use Rattle.qp_check.specs.declared.pieces_rows.ObjectPieces.{ObjectPieces}

-- the pieces of an object
abbrev pub pieces_of_object : ObjectPieces → ℕ → List Piece
pieces_of_object x p = unwrap_or (get nat_cmp x.rows p) []

-- a record as a piece of its own object, but for a turn without a step
unfoldable pub own_piece : Facts → ℕ → Item → Option Piece
unfolding told
own_piece w ceiling i = if is_turn_mark i.body then None else Some (Tell (told w i.of ceiling i.body))

-- the innermost step under way, unless the record is of its object
abbrev pub stepping : ℕ → Upcoming → List ℕ → Option ℕ
stepping of Inside (p ∷ outer) = if p == of then None else Some p
stepping of _ _ = None

-- the object in whose step a row begins with this record
abbrev pub point_of : Reading → Item → Option ℕ
point_of k i = if is_look i.body then stepping i.of k.place k.running else None

-- the number is this one
abbrev pub is_it : ℕ → Option ℕ → Bool
is_it k None = false
is_it k (Some n) = n == k

abbrev pub listed : Option Piece → List Piece
listed None = []
listed (Some p) = p ∷ []

-- each object's are those that the definition of points reads off lane 0
abbrev pub ArePiecesOf : System → Journal → ObjectPieces → Type 0
ArePiecesOf sys j x = (o : ℕ) → pieces_of_object x o ≡ lane_pieces (facts_of sys j) (setting_of sys j) o (lane_items (lane_at j 0))
