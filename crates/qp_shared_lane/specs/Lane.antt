-- A lane as its caller sees it.
use Rattle.std.specs.Prelude.{ℕ, List, [], ◌∷◌, ◌++◌, length}
use Rattle.qp_model.specs.declared.systems.System.{System}
use Rattle.qp_table.specs.declared.view.View.{View}
use Rattle.qp_calls.specs.LaneView.{LaneView}
use Rattle.qp_calls_log.specs.declared.Log.{Log}
use Rattle.atomic_table.specs.Seated.{TableId}
use Rattle.qp_table.specs.Lane.{LaneContext, lane_of, lane_number}
use Rattle.qp_side.specs.declared.view.SideView.{SideView}
use Rattle.qp_shared_lane.specs.Holds.{told_by}
use Rattle.qp_side.specs.Seat.{side_mark}
use Rattle.qp_shared_lane.specs.declared.lane.LaneState.{LaneState}

-- the name of a world: how many lanes the table became, and the names of both tables
abbrev pub table_name : TableId → List ℕ → List ℕ
table_name t more = t.words ∷ t.slots ∷ t.views_name ∷ t.atom ∷ t.block ∷ t.offset ∷ length t.slot_names ∷ (t.slot_names ++ more)

unfoldable pub world_of : TableId → TableId → ℕ → List ℕ
world_of table side count = count ∷ table_name table (table_name side [])

-- what a lane is besides its records and its view of the event table
abbrev pub lane_context : List ℕ → System → ℕ → Log → View → SideView → LaneContext
lane_context world sys by g v s = record { world = world; sys = sys; number = lane_number v; by = by; stops = g.stops.list; answered = g.answered.list; side = side_mark sys s }

-- the lane with this log, these numbers beside its records, and these views of both tables
abbrev pub lane_with : List ℕ → System → ℕ → Log → List ℕ → View → SideView → LaneView
lane_with world sys by g numbers v s = lane_of (lane_context world sys by g v s) (told_by g numbers v) g.spare v

abbrev pub world_of_lane : LaneState → List ℕ
world_of_lane l = world_of l.words.now.shared.table_id l.side.words.now.shared.table_id l.count

abbrev pub state_view : LaneState → LaneView
state_view l = lane_with (world_of_lane l) l.sys.now l.by l.log l.numbers.list l.seat.me.0 l.side.seat.me.0
