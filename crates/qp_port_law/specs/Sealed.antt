-- What lanes and their journal have to do with one another when it has been sealed.
use Rattle.std.specs.Prelude.{◌≡◌, ℕ, ◌≤◌, ◌==◌, nat_le, Bool, true, false, List, length, slice_get, Some, IsTrue}
use Rattle.std.specs.List.{flat_map, list_all}
use Rattle.qp_chart.specs.StateTree.{has}
use Rattle.qp_model.specs.declared.journals.Journal.{Journal}
use Rattle.qp_model.specs.declared.systems.System.{System}
use Rattle.qp_model.specs.declared.bodies.Entry.{Entry}
use Rattle.qp_model.specs.declared.words.Word.{Word}
use Rattle.qp_model.specs.declared.words.Word.TheVariants as word
use Rattle.qp_model.specs.Told.{ToldItem}
use Rattle.qp_model.specs.History.{all_items, lane_items, marks, total}
use Rattle.qp_model.specs.Home.{lane_at}
use Rattle.qp_model.specs.Knowing.{event_of_entry, told_lane}
use Rattle.qp_model.specs.End.{end_of, has_room}
use Rattle.qp_model.specs.Lawful.{facts_of}
use Rattle.qp_model_order.specs.SourceRun.{untold_all}
use Rattle.qp_calls.specs.LaneView.{LaneView, is_known}
use Rattle.qp_calls.specs.Tokens.{Token}
use Rattle.qp_plain_sound.specs.Sound.{Sound}
use Rattle.qp_plain_sound.specs.View.{shown_in}

-- a word of the event table
abbrev pub is_event_table_word : Word → Bool
is_event_table_word (word.Pool p) = true
is_event_table_word (word.Block p b) = true
is_event_table_word (word.Queue a) = true
is_event_table_word _ = false

-- none of the records has a greater mark than the lane has seen
abbrev pub is_behind : Word → ℕ → List ToldItem → Bool
is_behind x most told = list_all (λ m. nat_le m most) (marks x (untold_all told))

-- all hands
abbrev pub hands_of_all : List LaneView → List Token
hands_of_all vs = flat_map (λ v. v.hands) vs

-- lane v is one of these
abbrev pub IsLaneAt : List LaneView → ℕ → LaneView → Type 0
IsLaneAt vs n v = slice_get vs n ≡ Some v

-- These lanes were sealed into this journal: its records are theirs, none too many, the words keep their laws, and what each lane has seen of the event table is
-- what its words then held. The event of an entry that a lane knows is that of the life which holds its reference. All codes that lanes answered are one code,
-- which some lane stated.
pub record SealsLanes (sys : System) (kernel budget : ℕ) (vs : List LaneView) (j : Journal) : Type 0 where
  pub kernel_is : j.kernel ≡ kernel
  pub budget_is : j.budget ≡ budget
  pub stated : (j.end == end_of (all_items j.lanes)) ≡ true
  pub count : length j.lanes ≡ length vs
  pub room : list_all (λ lane. has_room (lane_items lane)) j.lanes ≡ true
  pub told : (n : ℕ) (v : LaneView) → IsLaneAt vs n v → told_lane (facts_of sys j) 0 (lane_items (lane_at j n)) ≡ v.told
  pub sound : Sound sys j.lanes (hands_of_all vs)
  pub known : (n : ℕ) (v : LaneView) (x : Word) → IsLaneAt vs n v → is_event_table_word x ≡ true → v.mark x ≤ total x (all_items j.lanes)
  pub says : (n : ℕ) (v : LaneView) (x : Word) → IsLaneAt vs n v → is_event_table_word x ≡ true → v.mark x ≡ total x (all_items j.lanes) → v.shown x ≡ shown_in sys j.lanes x
  pub behind : (n : ℕ) (v : LaneView) (x : Word) → IsLaneAt vs n v → is_event_table_word x ≡ true → is_behind x (v.mark x) v.told ≡ true
  pub events : (n : ℕ) (v : LaneView) (e : Entry) → IsLaneAt vs n v → IsTrue (is_known v e) → event_of_entry (facts_of sys j) e ≡ Some (v.event e)
  pub handed : (n code : ℕ) (v : LaneView) → IsLaneAt vs n v → has v.answered code ≡ true → (m : ℕ) × (u : LaneView) × IsLaneAt vs m u × (has u.stops code ≡ true)
  pub one_code : (n m code other : ℕ) (v u : LaneView) → IsLaneAt vs n v → IsLaneAt vs m u → has v.answered code ≡ true → has u.answered other ≡ true → code ≡ other
