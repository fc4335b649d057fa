-- What the end asks of the lanes.
use Rattle.std.specs.Prelude.{◌==◌, nat_le, Bool, ◌&&◌}
use Rattle.std.specs.List.{list_all}
use Rattle.qp_model.specs.declared.systems.System.{System}
use Rattle.qp_model.specs.declared.journals.Journal.{Journal}
use Rattle.qp_model.specs.History.{lane_items, all_items}
use Rattle.qp_model.specs.Ends.{ends_last}
use Rattle.qp_model.specs.End.{end_of, spents_hold, spills_state, has_room, took_count}

-- the end is as stated, nothing follows the records that end a lane, each of these stands where it may, and lanes and budgets are kept
unfoldable pub end_stands : System → Journal → Bool
unfolding all_items has_room lane_items spents_hold spills_state took_count ends_last
end_stands sys j =
    (j.end == end_of (all_items j.lanes))
    && list_all (λ lane. ends_last (lane_items lane)) j.lanes
    && spents_hold sys j 0 j.lanes
    && list_all (λ lane. spills_state 0 (lane_items lane)) j.lanes
    && list_all (λ lane. has_room (lane_items lane)) j.lanes
    && list_all (λ d. nat_le (took_count (all_items j.lanes) d.priority) j.budget) sys.objects
