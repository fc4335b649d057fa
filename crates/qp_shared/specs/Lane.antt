-- What contracts see of a lane.
use Rattle.std.specs.Prelude.{List}
use Rattle.qp_model.specs.declared.record.Rec.{Rec}
use Rattle.qp_calls.specs.LaneView.{LaneView}
use Rattle.qp_table.specs.declared.view.View.{View}
use Rattle.qp_shared_lane.specs.Lane.{state_view}
use Rattle.qp_shared.specs.declared.lane.SharedLane.{SharedLane}

abbrev pub lane_view : SharedLane → LaneView
lane_view l = state_view l.state

-- what its seat has seen of the event table, and of what it has there
abbrev pub seat_view : SharedLane → View
seat_view l = l.state.seat.me.0

abbrev pub shared_records : SharedLane → List Rec
shared_records l = l.state.log.recs.items
