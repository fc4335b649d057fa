-- All lanes of a table at its end.
use Rattle.std.specs.Prelude.{◌≡◌, ℕ, ◌<◌, ◌==◌, List, [], map, length}
use Rattle.std.specs.List.{count_by}
use Rattle.atomic_table.specs.Seated.{TableId}
use Rattle.qp_calls.specs.LaneView.{LaneView}
use Rattle.qp_table.specs.Counting.{Each}
use Rattle.qp_shared_lane.specs.declared.lane.LaneState.{LaneState}
use Rattle.qp_shared.specs.declared.lane.SharedLane.{SharedLane}
use Rattle.qp_shared.specs.declared.shared.Shared.{Shared}
use Rattle.qp_shared.specs.Starting.{world_name}

-- These are all lanes that the root of these tables became, each once, in any order
pub record AreAll (s : Shared) (vs : List LaneView) : Type 0 where
  pub some : 0 < length vs
  pub worlds : Each (λ (v : LaneView). v.world ≡ world_name s (length vs)) vs
  pub systems : Each (λ (v : LaneView). v.sys ≡ s.sys.now) vs
  pub once : (n : ℕ) → n < length vs → count_by (λ (v : LaneView). v.lane == n) vs ≡ 1

-- without what callers see
abbrev pub lane_states : List SharedLane → List LaneState
lane_states ls = map (λ (l : SharedLane). l.state) ls

-- the lane has its seats on these tables
abbrev pub IsOn : TableId → TableId → LaneState → Type 0
IsOn table side l = (l.seat.table_id ≡ table) × (l.side.seat.table_id ≡ side) × (l.side.seat.me.1 ≡ [])
