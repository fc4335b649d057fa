-- An object's records with the places where rows of looks stand.
use Rattle.std.specs.Prelude.{Bool, true, false, List, [], ◌∷◌, ◌++◌, map}
use Rattle.qp_model.specs.declared.bodies.Body.{Body}
use Rattle.qp_model.specs.declared.bodies.Body.TheVariants.{Post}
use Rattle.qp_model.specs.Told.{Told}
use Rattle.qp_model.specs.Calls as call
use Rattle.qp_model.specs.Calls.{Call}

-- a record, or a scheduling point, where a row of looks stands in a kernel's lane
pub data Piece : Type 0 where
  Tell : (t : Told) → Piece
  Point : Piece

-- the records alone
unfoldable pub records_in : List Piece → List Told
records_in [] = []
records_in (Tell t ∷ ps) = t ∷ records_in ps
records_in (Point ∷ ps) = records_in ps

-- records without a point
abbrev pub tell : List Told → List Piece
tell ts = map Tell ts

-- a record, and a point after it where it is a post
abbrev pub piece_of : Told → Body → List Piece
piece_of t (Post a f l m e) = Tell t ∷ Point ∷ []
piece_of t b = Tell t ∷ []

-- each post is followed by a point
unfoldable pub with_points : List Told → List Piece
with_points [] = []
with_points (t ∷ ts) = piece_of t t.body ++ with_points ts

-- the records of a call with the points inside it: a publication has one after each post
unfoldable pub pieces_of : Call → List Told → List Piece
unfolding with_points
pieces_of (call.Publish sig pars reserve) g = with_points g
pieces_of x g = tell g

-- the last piece is a point; so it counts also where nothing stands
unfoldable pub ends_at_point : List Piece → Bool
ends_at_point [] = true
ends_at_point (Point ∷ []) = true
ends_at_point (Tell t ∷ []) = false
ends_at_point (p ∷ q ∷ ps) = ends_at_point (q ∷ ps)

-- the first piece is a point, or nothing follows
abbrev pub begins_at_point : List Piece → Bool
begins_at_point [] = true
begins_at_point (Point ∷ ps) = true
begins_at_point (Tell t ∷ ps) = false
