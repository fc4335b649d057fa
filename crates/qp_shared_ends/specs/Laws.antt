-- The laws of the end.
use Rattle.std.specs.Prelude.{◌≡◌, ℕ, ◌+◌, ◌<◌, ◌==◌, true, List, [], ◌∷◌, ◌++◌, map, length, replicate, IsPermutation}
use mathlib.Core.Option.{some}
use lib.ListN.{get_elem?}
use Rattle.qp_model.specs.declared.record.Rec.{Rec}
use Rattle.qp_model.specs.declared.systems.System.{System}
use Rattle.qp_model.specs.declared.journals.Journal.{Journal}
use Rattle.qp_model.specs.End.{end_of}
use Rattle.qp_model.specs.History.{touch, all_items}
use Rattle.qp_calls.specs.Tokens.{Token}
use Rattle.qp_plain_sound.specs.Sound.{Sound}
use Rattle.qp_port_law.specs.Sealed.{SealsLanes}
use Rattle.qp_table.specs.Counting.{Each, many}
use Rattle.qp_table.specs.TwoTables.{on_table, on_side, Thins}
use Rattle.qp_table.specs.Rule.{is_log, is_number}
use Rattle.qp_table.specs.declared.view.SeatLog.{SeatLog}
use Rattle.qp_table.specs.declared.view.View.{View}
use Rattle.qp_side.specs.Laws.{IsSideWhole}
use Rattle.qp_side.specs.declared.view.SideView.{SideView}
use Rattle.qp_shared_lane.specs.declared.lane.LaneState.{LaneState}
use Rattle.qp_shared_lane.specs.Lane.{state_view}
use Rattle.qp_shared_ends.specs.Lanes.{lanes_recs}
use Rattle.qp_shared_ends.specs.SeatEnd.{AtEnd}
use Rattle.qp_shared_ends.specs.End.{AreHands}
use Rattle.qp_shared_ends.specs.Joining.{table_of, side_of, recs_in, all_joined, all_both}

abbrev pub LogsAreLanes : Type 0
LogsAreLanes = (lanes : List (List Rec)) (gs : List SeatLog) (numbers : List ℕ) → Each (λ (g : SeatLog). get_elem? lanes g.number ≡ some g.recs) gs
    → ((n : ℕ) → n < length lanes → many (is_log n) gs + many (is_number n) numbers ≡ 1) → ((n : ℕ) → n < length lanes → 0 < many (is_number n) numbers → get_elem? lanes n ≡ some [])
    → (k : ℕ) × IsPermutation (lanes_recs gs ++ replicate k []) lanes

-- whole lanes, whose records are on both tables, and all hands
abbrev pub EndsAreSound : Type 0
EndsAreSound = (sys : System) (v : View) (s : SideView) (js : List (List Rec)) (hands : List Token) → AtEnd sys v → IsSideWhole sys s
    → Thins (λ i. on_table (touch i)) js (lanes_recs v.logs) → Thins (λ i. on_side (touch i)) js (lanes_recs s.view.logs) → AreHands hands v → Sound sys js hands

-- Lanes that are all of a table, in any order, are sealed into a journal of their records, one lane after another
abbrev pub LanesAreSealed : Type 0
LanesAreSealed = (sys : System) (kernel budget : ℕ) (first : LaneState) (others : List LaneState) (j : Journal) → Each (λ (l : LaneState). l.sys.now ≡ sys) (first ∷ others)
    → AtEnd sys (all_joined (table_of first) (map table_of others)) → IsSideWhole sys (all_both (side_of first) (map side_of others))
    → j.kernel ≡ kernel → j.budget ≡ budget → j.lanes ≡ map recs_in (first ∷ others) → (j.end == end_of (all_items j.lanes)) ≡ true → SealsLanes sys kernel budget (map state_view (first ∷ others)) j
