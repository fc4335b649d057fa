-- The laws of lanes.
use Rattle.std.specs.Prelude.{◌≡◌, ℕ, ◌<◌, ◌≤◌, List, [], ◌∷◌, ◌++◌, length, false, IsTrue}
use Rattle.std.specs.List.{list_any}
use Rattle.qp_model.specs.declared.record.Rec.{Rec}
use Rattle.qp_model.specs.declared.systems.System.{System}
use Rattle.qp_model.specs.declared.words.Word.{Word}
use Rattle.qp_model.specs.Told.{ToldItem}
use Rattle.qp_model.specs.History.{lane_items}
use Rattle.qp_model.specs.Knowing.{ceiling_after}
use Rattle.qp_table.specs.Rule.{is_serve}
use Rattle.qp_table.specs.After.{HasRoom}
use Rattle.qp_table.specs.declared.view.View.{View}
use Rattle.qp_calls.specs.LaneView.{Shown, Gains, Looks, codes_in}
use Rattle.qp_calls.specs.Tokens.{Token, stands, hands_after}
use Rattle.qp_calls_log.specs.declared.log.Log.{Log}
use Rattle.qp_calls_log.specs.LaneLaws.{TellsLog}
use Rattle.atomic_table.specs.Seated.{TableId}
use Rattle.qp_table.specs.Words.{shown_seen}
use Rattle.qp_table.specs.Lane.{lane_mark, tokens_of_view}
use Rattle.qp_table.specs.Telling.{Rises, Touches}
use Rattle.qp_side.specs.Rule.{member_in}
use Rattle.qp_side.specs.declared.view.SideView.{SideView}
use Rattle.qp_shared_lane.specs.Holds.{LaneHolds, told_by, recs_of, member_over}
use Rattle.qp_side.specs.Seat.{side_mark}
use Rattle.qp_shared_lane.specs.Lane.{world_of, lane_with}
use Rattle.qp_shared_lane.specs.More.{IsPut, ViewFollows, SideFollows, AddsRecord, AddsNothing, OnTable, OnSide, IsNoted}

-- A record more, at the end of a call whose steps took the views v and s to u and z, and which touches the word w whose mark is k then.
pub record RecordKept (world : List ℕ) (sys : System) (by count ceiling : ℕ) (g : Log) (numbers : List ℕ) (v : View) (s : SideView) (h : Log) (more : List ℕ) (u : View) (z : SideView) (t : ToldItem) (w : Word) (k : ℕ) : Type 0 where
  pub holds : LaneHolds sys count (ceiling_after ceiling t.told.body) h more u z
  pub told : told_by h more u ≡ told_by g numbers v ++ t ∷ []
  pub gains : Rises w k (lane_mark sys v.seen (side_mark sys s)) (lane_mark sys u.seen (side_mark sys z)) (shown_seen sys v.seen) (shown_seen sys u.seen) → Touches w k t → Gains (t ∷ []) (lane_with world sys by g numbers v s) (lane_with world sys by h more u z)

abbrev pub RecordsKeepTheLane : Type 0
RecordsKeepTheLane = (world : List ℕ) (sys : System) (by count ceiling : ℕ) (g : Log) (numbers : List ℕ) (v : View) (s : SideView) (h : Log) (more : List ℕ) (u : View) (z : SideView) (rec : Rec) (number : ℕ) (t : ToldItem) (w : Word) (k : ℕ)
    → LaneHolds sys count ceiling g numbers v s → IsPut rec number g numbers h more → ViewFollows sys v u → SideFollows sys s z → AddsRecord sys (λ o. list_any (is_serve o) v.serves) g.recs.items (hands_after [] (told_by g numbers v)) ceiling u z rec number t
    → RecordKept world sys by count ceiling g numbers v s h more u z t w k

-- A look without a record, at the word w, whose mark is k then and which shows x.
pub record LookKept (world : List ℕ) (sys : System) (by count ceiling : ℕ) (g : Log) (numbers : List ℕ) (v : View) (s : SideView) (u : View) (z : SideView) (w : Word) (k : ℕ) (x : Shown) : Type 0 where
  pub holds : LaneHolds sys count ceiling g numbers u z
  pub told : told_by g numbers u ≡ told_by g numbers v
  pub looks : Rises w k (lane_mark sys v.seen (side_mark sys s)) (lane_mark sys u.seen (side_mark sys z)) (shown_seen sys v.seen) (shown_seen sys u.seen) → shown_seen sys u.seen w ≡ x → Looks w k x (lane_with world sys by g numbers v s) (lane_with world sys by g numbers u z)

abbrev pub LooksKeepTheLane : Type 0
LooksKeepTheLane = (world : List ℕ) (sys : System) (by count ceiling : ℕ) (g : Log) (numbers : List ℕ) (v : View) (s : SideView) (u : View) (z : SideView) (w : Word) (k : ℕ) (x : Shown)
    → LaneHolds sys count ceiling g numbers v s → ViewFollows sys v u → SideFollows sys s z → AddsNothing v u s z
    → LookKept world sys by count ceiling g numbers v s u z w k x

-- the name of a world says which tables it has and how many lanes they became
abbrev pub WorldsNameTables : Type 0
WorldsNameTables = (a b c d : TableId) (n m : ℕ) → world_of a b n ≡ world_of c d m → (a ≡ c) × (b ≡ d) × (n ≡ m)

-- A record of the event table or the side table, or a note: what ties the lane stands, and the record is all that is gained.
pub record LaneGainsRecord (world : List ℕ) (sys : System) (by count ceiling : ℕ) (g : Log) (numbers : List ℕ) (v : View) (s : SideView) (h : Log) (more : List ℕ) (u : View) (z : SideView) (after : ℕ) (t : ToldItem) : Type 0 where
  pub holds : LaneHolds sys count after h more u z
  pub told : told_by h more u ≡ told_by g numbers v ++ t ∷ []
  pub gains : Gains (t ∷ []) (lane_with world sys by g numbers v s) (lane_with world sys by h more u z)

abbrev pub TableRecordsKeepTheLane : Type 0
TableRecordsKeepTheLane = (world : List ℕ) (sys : System) (by count ceiling : ℕ) (g : Log) (numbers : List ℕ) (v : View) (s : SideView) (h : Log) (more : List ℕ) (u : View) (rec : Rec) (number : ℕ) (t : ToldItem) (w : Word) (k : ℕ)
    → LaneHolds sys count ceiling g numbers v s → IsPut rec number g numbers h more → OnTable sys (hands_after [] (told_by g numbers v)) v u rec number t w k
    → LaneGainsRecord world sys by count ceiling g numbers v s h more u s ceiling t

abbrev pub NotesKeepTheLane : Type 0
NotesKeepTheLane = (world : List ℕ) (sys : System) (by count ceiling : ℕ) (g : Log) (numbers : List ℕ) (v : View) (s : SideView) (h : Log) (more : List ℕ) (rec : Rec) (number : ℕ) (t : ToldItem)
    → LaneHolds sys count ceiling g numbers v s → IsPut rec number g numbers h more → IsNoted rec number ceiling t
    → LaneGainsRecord world sys by count ceiling g numbers v s h more v s (ceiling_after ceiling t.told.body) t

abbrev pub SideRecordsKeepTheLane : Type 0
SideRecordsKeepTheLane = (world : List ℕ) (sys : System) (by count ceiling : ℕ) (g : Log) (numbers : List ℕ) (v : View) (s : SideView) (h : Log) (more : List ℕ) (z : SideView) (rec : Rec) (number : ℕ) (t : ToldItem) (w : Word) (k : ℕ)
    → LaneHolds sys count ceiling g numbers v s → IsPut rec number g numbers h more → OnSide sys (λ o. list_any (is_serve o) v.serves) g.recs.items s z rec number t w k
    → LaneGainsRecord world sys by count ceiling g numbers v s h more v z ceiling t

-- Spare, and codes that both the log and the view of the side table have: all else stands.
pub record LogKept (world : List ℕ) (sys : System) (by count ceiling : ℕ) (g : Log) (numbers : List ℕ) (v : View) (s : SideView) (h : Log) (z : SideView) : Type 0 where
  pub holds : LaneHolds sys count ceiling h numbers v z
  pub is : lane_with world sys by h numbers v z ≡ record (lane_with world sys by g numbers v s) { spare = h.spare; stops = h.stops.list; answered = codes_in h.answered.list; asked = length h.answered.list }

abbrev pub LogsKeepTheLane : Type 0
LogsKeepTheLane = (world : List ℕ) (sys : System) (by count ceiling : ℕ) (g : Log) (numbers : List ℕ) (v : View) (s : SideView) (h : Log) (z : SideView)
    → LaneHolds sys count ceiling g numbers v s → h.recs.items ≡ g.recs.items → z.view ≡ s.view → h.stops.list ≡ z.stops → codes_in h.answered.list ≡ z.answered
    → LogKept world sys by count ceiling g numbers v s h z

-- What a lane may do.

-- a lane with spare has room on both tables
pub record HasSpace (v : View) (s : SideView) : Type 0 where
  pub table : HasRoom v
  pub side : HasRoom s.view
  pub few : length (recs_of s.view.logs) ≤ 1000000

abbrev pub SpareGivesRoom : Type 0
SpareGivesRoom = (sys : System) (count ceiling : ℕ) (g : Log) (numbers : List ℕ) (v : View) (s : SideView) → LaneHolds sys count ceiling g numbers v s → 0 < g.spare → HasSpace v s

-- a token in the hands stands in the view
abbrev pub HandsStand : Type 0
HandsStand = (sys : System) (count ceiling : ℕ) (g : Log) (numbers : List ℕ) (v : View) (s : SideView) → LaneHolds sys count ceiling g numbers v s
    → (t : Token) → IsTrue (stands t (hands_after [] (told_by g numbers v))) → 0 < tokens_of_view v t

-- the lane tells the records of its log
abbrev pub LanesTellTheirLogs : Type 0
LanesTellTheirLogs = (world : List ℕ) (sys : System) (by count ceiling : ℕ) (g : Log) (numbers : List ℕ) (v : View) (s : SideView) → LaneHolds sys count ceiling g numbers v s → TellsLog g (lane_with world sys by g numbers v s)

-- whether an object is a subscriber by all records of the lane, it is by those that its seat on the side table knows
abbrev pub OwnMembersAreKnown : Type 0
OwnMembersAreKnown = (sys : System) (count ceiling : ℕ) (g : Log) (numbers : List ℕ) (v : View) (s : SideView) → LaneHolds sys count ceiling g numbers v s
    → (o n : ℕ) → member_over o n false (lane_items g.recs.items) ≡ member_in o n s.view.logs
