-- An object's records with the rows of looks in its steps, read off the kernel lane.
use Rattle.std.specs.Prelude.{ℕ, ◌==◌, Bool, true, false, List, [], ◌∷◌, ◌++◌, if◌then◌else◌}
use Rattle.std.specs.Option.{unwrap_or}
use Rattle.qp_model.specs.declared.bodies.Body.{Body}
use Rattle.qp_model.specs.declared.bodies.Body.TheVariants as body
use Rattle.qp_model.specs.Record.{Item}
use Rattle.qp_model.specs.Knowing.{Facts, told}
use Rattle.qp_model.specs.Pieces.{Piece, Tell, Point}
use Rattle.qp_model.specs.Ends.{is_turn_mark}
use Rattle.qp_model.specs.KernelLane.{Setting, Reading, Upcoming, Inside, lane_next, unread}

abbrev pub is_look : Body → Bool
is_look (body.Look k floor) = true
is_look _ = false

-- a row of looks begins within a step of o
abbrev pub begins_row : ℕ → Upcoming → List ℕ → Bool → Bool
begins_row o Inside (p ∷ outer) looks = if looks then p == o else false
begins_row o _ _ looks = false

-- what a record of lane 0 is to the course of o: its own record but for `nil` and `spent`, or a point where a row begins
unfoldable pub pieces_at : Facts → ℕ → Reading → Item → List Piece
unfolding told
pieces_at w o k i =
    if i.of == o then (if is_turn_mark i.body then [] else Tell (told w o k.ceiling i.body) ∷ [])
    else (if begins_row o k.place k.running (is_look i.body) then Point ∷ [] else [])

-- the pieces of o in lane 0, from this reading on
unfoldable pub pieces_in : Facts → Setting → ℕ → Reading → List Item → List Piece
unfolding lane_next pieces_at
pieces_in w s o k [] = []
pieces_in w s o k (i ∷ is) = pieces_at w o k i ++ pieces_in w s o (unwrap_or (lane_next s k i) k) is

-- the pieces of o in the whole lane
unfoldable pub lane_pieces : Facts → Setting → ℕ → List Item → List Piece
unfolding pieces_in unread
lane_pieces w s o lane = pieces_in w s o (unread w.sys) lane
