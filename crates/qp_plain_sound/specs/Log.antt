-- The records of a world in the order of its calls: its lanes, and the lane of each record.
use Rattle.std.specs.Prelude.{◌≡◌, ℕ, zero, suc, ◌==◌, ◌++◌, List, [], ◌∷◌, drop, length, get_or, slice_set}
use Rattle.qp_model.specs.declared.record.Rec.{Rec}
use Rattle.qp_model.specs.Record.{item_of}
use Rattle.qp_model.specs.OneOrder.{Placed}
use Rattle.qp_calls.specs.Counting.{times}

-- the records of a lane; one that isn't there has none
abbrev pub lane_recs : List (List Rec) → ℕ → List Rec
lane_recs lanes a = get_or lanes a []

-- so many lanes without records
abbrev pub empty_lanes : ℕ → List (List Rec)
empty_lanes zero = []
empty_lanes (suc n) = [] ∷ empty_lanes n

-- the first record of a lane, with its lane
abbrev pub first_placed : ℕ → List Rec → List Placed → List Placed
first_placed a [] others = others
first_placed a (r ∷ rs) others = record { lane = a; item = item_of r } ∷ others

-- each lane's records in their order, put together by the lanes that the order names
unfoldable pub log_of : List (List Rec) → List ℕ → List Placed
unfolding item_of
log_of lanes [] = []
log_of lanes (a ∷ order) = first_placed a (lane_recs lanes a) (log_of (slice_set lanes a (drop 1 (lane_recs lanes a))) order)

-- the order names each lane as often as it has records
abbrev pub Orders : List (List Rec) → List ℕ → Type 0
Orders lanes order = (a : ℕ) → times (λ x. x == a) order ≡ length (lane_recs lanes a)

-- the lanes with a record at the end of one
abbrev pub with_record : List (List Rec) → ℕ → Rec → List (List Rec)
with_record lanes at r = slice_set lanes at (lane_recs lanes at ++ r ∷ [])
