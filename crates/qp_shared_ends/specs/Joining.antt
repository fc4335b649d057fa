-- Views and seats put together, the lanes handed in one after another.
use Rattle.std.specs.Prelude.{List, [], ◌∷◌}
use Rattle.qp_model.specs.declared.record.Rec.{Rec}
use Rattle.qp_table.specs.After.{views_joined}
use Rattle.qp_table.specs.declared.view.View.{View}
use Rattle.qp_side.specs.Told.{both_of}
use Rattle.qp_side.specs.declared.view.SideView.{SideView}
use Rattle.qp_shared_lane.specs.declared.lane.LaneState.{LaneState}

abbrev pub table_of : LaneState → View
table_of l = l.seat.me.0

abbrev pub side_of : LaneState → SideView
side_of l = l.side.seat.me.0

abbrev pub recs_in : LaneState → List Rec
recs_in l = l.log.recs.items

-- the first view takes over the others, in their order
abbrev pub all_joined : View → List View → View
all_joined v [] = v
all_joined v (w ∷ ws) = all_joined (views_joined v w) ws

abbrev pub all_both : SideView → List SideView → SideView
all_both v [] = v
all_both v (w ∷ ws) = all_both (both_of v w) ws
