-- Lanes where nothing has happened, and the root that becomes them.
use Rattle.std.specs.Prelude.{◌≡◌, ℕ, ◌+◌, ◌-◌, ◌^◌, ◌==◌, eqb, Bool, false, not, ◌&&◌, List, [], ◌∷◌, cond, length, take, slice_get, Some, if◌then◌else◌}
use Rattle.std.specs.List.{list_any}
use Rattle.std.specs.Option.{option_map_or}
use Rattle.qp_model.specs.declared.systems.System.{System}
use Rattle.qp_model.specs.Lists.{count_up}
use Rattle.qp_model.specs.Sound.{IsSound}
use Rattle.qp_model.specs.WordLaw.{is_object}
use Rattle.qp_calls.specs.LaneView.{LaneView, IsNew}
use Rattle.qp_table.specs.Counting.{Each}
use Rattle.qp_table.specs.First.{IsFreshServe}
use Rattle.qp_table.specs.Rule.{is_serve}
use Rattle.qp_table.specs.After.{empty_view, newcomer}
use Rattle.qp_table.specs.declared.view.View.{View}
use Rattle.qp_calls_log.specs.declared.log.Log.{Log}
use Rattle.qp_side.specs.Told.{side_root}
use Rattle.qp_side.specs.declared.view.SideView.{SideView}
use Rattle.qp_shared_lane.specs.Lane.{world_of}
use Rattle.qp_shared.specs.declared.shared.Shared.{Shared}
use Rattle.qp_shared.specs.declared.shared.Root.{Root}

-- the name of the world of these tables, which became so many lanes
abbrev pub world_name : Shared → ℕ → List ℕ
world_name s n = world_of s.words.shared.table_id s.side.shared.table_id n

-- A lane where nothing has happened: its table, its system and its number
pub record IsNewLaneOf (world : List ℕ) (sys : System) (number : ℕ) (v : LaneView) : Type 0 where
  pub new : IsNew v
  pub world_is : v.world ≡ world
  pub sys_is : v.sys ≡ sys
  pub number_is : v.lane ≡ number
  pub plan : v.plan ≡ []
  pub aside : v.aside ≡ record { told = []; purses = [] }

-- so many lanes, in the order of their numbers, each of which serves these objects
pub record AreFirst (s : Shared) (n : ℕ) (serves : ℕ → ℕ → Bool) (vs : List LaneView) : Type 0 where
  pub count : length vs ≡ n
  pub each : (i : ℕ) (v : LaneView) → slice_get vs i ≡ Some v → IsNewLaneOf (world_name s n) s.sys.now i v
  pub serve : (i : ℕ) (v : LaneView) → slice_get vs i ≡ Some v → (o : ℕ) → v.serves o ≡ serves i o

-- lane 0 serves all objects
abbrev pub serves_all : System → ℕ → ℕ → Bool
serves_all sys i o = eqb i 0 && is_object sys o

-- lane i serves the i-th object in ascending priority
abbrev pub serves_one : System → ℕ → ℕ → Bool
serves_one sys i o = not (eqb i 0) && option_map_or (λ d. d.priority == o) (slice_get sys.objects (i - 1)) false

-- The root that still has the numbers from k on
pub record IsRootAt (s : Shared) (k : ℕ) (r : Root) : Type 0 where
  pub own : r.seat.table_id ≡ s.words.shared.table_id
  pub beside : r.side.table_id ≡ s.side.shared.table_id
  pub bare : r.side.me.1 ≡ []
  pub table : r.seat.me.0 ≡ newcomer (count_up k (49 - k)) r.seat.me.0.serves
  pub side_table : r.side.me.0 ≡ side_root (0 ∷ count_up k (49 - k)) r.seat.me.0.serves
  pub fresh : Each IsFreshServe r.seat.me.0.serves

-- The root of these tables: it has all numbers and serves all objects
pub record IsRootOf (s : Shared) (r : Root) : Type 0 where
  pub sound : IsSound s.sys.now
  pub root : IsRootAt s 1 r
  pub serves : (o : ℕ) → list_any (is_serve o) r.seat.me.0.serves ≡ is_object s.sys.now o

-- the objects that lane k gets, as bits: in a port the k-th one, else none
abbrev pub objects_for : System → Bool → ℕ → ℕ
objects_for sys port k = if port then option_map_or (λ d. 2 ^ (d.priority - 1)) (slice_get sys.objects (k - 1)) 0 else 0

-- the objects that lane k of a port serves, and those that are left to the root before it
abbrev pub lane_serves : System → Bool → ℕ → ℕ → Bool
lane_serves sys port k o = port && option_map_or (λ d. d.priority == o) (slice_get sys.objects (k - 1)) false

abbrev pub root_serves : System → Bool → ℕ → ℕ → Bool
root_serves sys port k o = is_object sys o && not (port && list_any (λ d. d.priority == o) (take (k - 1) sys.objects))

-- a log without records
pub record IsBareLog (g : Log) : Type 0 where
  pub recs : g.recs.items ≡ []
  pub spare : g.spare ≡ 0
  pub stops : g.stops.list ≡ []
  pub answered : g.answered.list ≡ []

-- the views of a lane on both tables where nothing has happened, which serve these objects
pub record AreFirstViews (number count : ℕ) (v : View) (s : SideView) : Type 0 where
  pub numbers : List ℕ
  pub side_numbers : List ℕ
  pub table : v ≡ record empty_view { logs = record { number = number; recs = [] } ∷ []; lane_numbers = numbers; serves = v.serves }
  pub side : s ≡ record { view = record empty_view { logs = record { number = number; recs = [] } ∷ []; lane_numbers = side_numbers; serves = v.serves }; stops = []; answered = [] }
  pub rights : 1 + length numbers ≡ cond (eqb number 0) (50 - count) 1
  pub side_rights : 1 + length side_numbers ≡ cond (eqb number 0) (50 - count) 1

-- a lane that was given out
pub record IsGiven (s : Shared) (number count : ℕ) (serves : ℕ → Bool) (v : LaneView) : Type 0 where
  pub starts : IsNewLaneOf (world_name s count) s.sys.now number v
  pub serve : (o : ℕ) → v.serves o ≡ serves o

-- lanes from number 1 on were given out
abbrev pub AreGiven : Shared → ℕ → Bool → List LaneView → Type 0
AreGiven s count port vs = (i : ℕ) (v : LaneView) → slice_get vs i ≡ Some v → IsGiven s (i + 1) count (lane_serves s.sys.now port (i + 1)) v

-- the root with what is left before lane k
pub record HasLeft (s : Shared) (port : Bool) (k : ℕ) (r : Root) : Type 0 where
  pub root : IsRootAt s k r
  pub serves : (o : ℕ) → list_any (is_serve o) r.seat.me.0.serves ≡ root_serves s.sys.now port k o

-- lane 0 stands first, with what is left to it
abbrev pub FirstLane : Shared → ℕ → Bool → List LaneView → Type 0
FirstLane s n port [] = ⊥
FirstLane s n port (v ∷ vs) = IsGiven s 0 n (root_serves s.sys.now port n) v

abbrev pub rest_of : List LaneView → List LaneView
rest_of [] = []
rest_of (v ∷ vs) = vs
