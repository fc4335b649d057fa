-- The laws of a world of one thread.
use Rattle.std.specs.Prelude.{◌≡◌, ℕ, ◌+◌, ◌<◌, ◌≤◌, ◌==◌, not, List, [], ◌∷◌, ◌++◌, length, IsTrue, IsFalse, Some}
use Rattle.std.specs.List.{filter, count_by, list_all}
use Rattle.qp_model.specs.declared.record.Rec.{Rec}
use Rattle.qp_model.specs.declared.words.Word.{Word}
use Rattle.qp_model.specs.declared.systems.System.{System}
use Rattle.qp_model.specs.declared.bodies.Entry.{Entry}
use Rattle.qp_model.specs.declared.bodies.Body.{Body}
use Rattle.qp_model.specs.Record.{Item, item_of, entry}
use Rattle.qp_model.specs.Ends.{is_spill}
use Rattle.qp_model.specs.Told.{ToldItem, for_object}
use Rattle.qp_model.specs.Knowing.{event_of_entry, records_of, told, told_alone, told_lane}
use Rattle.qp_model.specs.History.{lane_items, all_items, total}
use Rattle.qp_model.specs.Places.{in_order}
use Rattle.qp_model.specs.End.{lines_empty, blocks_rest}
use Rattle.qp_model.specs.Sound.{IsSound}
use Rattle.qp_model.specs.WordLaw.{Words, is_block}
use Rattle.qp_calls.specs.Clauses.{StandsHold}
use Rattle.qp_calls.specs.LaneView.{Gains, GrowsOf, IsNew, LaneView, Purse, ceiling_in, is_known, mark_by, own_of}
use Rattle.qp_calls.specs.Tokens.{Hold, Token, hands_by}
use Rattle.qp_calls.specs.LaneLaws.{IsWithinLimit, HasCauses, is_caused_in}
use Rattle.qp_calls.specs.Notes.{MayNote, MayStop, told_note}
use Rattle.qp_plain_sound.specs.Log.{Orders, empty_lanes, lane_recs, log_of}
use Rattle.qp_model.specs.OneOrder.{items_placed}
use Rattle.qp_plain_sound.specs.Sound.{Sound, SoundWorld, facts_in, hands_in}
use Rattle.qp_plain_sound.specs.Step.{WorldStep, Grown, before, behind, MayCome}
use Rattle.qp_plain_sound.specs.Ending.{BlockStands, OnlyDeferred}
use Rattle.qp_plain_sound.specs.View.{view_of}

-- a world without records is sound, and what is seen of each of its lanes is new
abbrev pub NewWorldIsSound : Type 0
NewWorldIsSound = (sys : System) (n : ℕ) → IsSound sys → SoundWorld sys (empty_lanes n) []

abbrev pub NewLaneIsNew : Type 0
NewLaneIsNew = (sys : System) (n at spare : ℕ) (purses : List Purse) → at < n → IsNew (view_of sys (empty_lanes n) [] at spare 0 [] [] purses)

-- whatever record may come next, the world stays sound
abbrev pub StaysSound : Type 0
StaysSound =
    (s : WorldStep) (o : ℕ) (b : Body) → SoundWorld s.sys s.lanes s.order
    → Grown s.lanes s.order s.at s.rec s.more s.longer
    → item_of s.rec ≡ record { of = o; body = b } → MayCome s o b → SoundWorld s.sys s.more s.longer

-- and the lane gains just this record, as it is told; the spare is no matter of it
abbrev pub LaneGainsIt : Type 0
LaneGainsIt =
    (s : WorldStep) (o : ℕ) (b : Body) → SoundWorld s.sys s.lanes s.order
    → Grown s.lanes s.order s.at s.rec s.more s.longer
    → item_of s.rec ≡ record { of = o; body = b } → MayCome s o b
    → Gains (for_object o (told (facts_in s.sys s.more) o (ceiling_in 0 (before s).told) b) ∷ []) (before s) (behind s)

-- a note comes as `note` says
abbrev pub NoteIsAdded : Type 0
NoteIsAdded =
    (s : WorldStep) → SoundWorld s.sys s.lanes s.order → Grown s.lanes s.order s.at s.rec s.more s.longer
    → MayNote s.rec (before s)
    → SoundWorld s.sys s.more s.longer × GrowsOf s.rec.of (told_note s.rec (before s)) (before s) (behind s)

-- no record is lost: each lane is what the log has of it, and the log grows at its end
abbrev pub LanesAreTheLog : Type 0
LanesAreTheLog =
    (lanes : List (List Rec)) (order : List ℕ) → Orders lanes order → (a : ℕ)
    → items_placed (filter (λ x. x.lane == a) (log_of lanes order)) ≡ lane_items (lane_recs lanes a)

abbrev pub LogGrowsAtItsEnd : Type 0
LogGrowsAtItsEnd =
    (lanes more : List (List Rec)) (order longer : List ℕ) (at : ℕ) (r : Rec) → Orders lanes order
    → Grown lanes order at r more longer
    → log_of more longer ≡ log_of lanes order ++ record { lane = at; item = item_of r } ∷ []

-- each number drawn or shown in the log is that of the word's operations before it
abbrev pub LogIsNumbered : Type 0
LogIsNumbered =
    (sys : System) (lanes : List (List Rec)) (order : List ℕ) → SoundWorld sys lanes order
    → IsTrue (in_order [] (items_placed (log_of lanes order)))

-- What contracts see of lane `at` is what the law book has of all records: the law of all words, what is told beside
-- each record, the marks, the records of each object, and the events of references in the hands. Each lane sees the same
-- hands.
pub record ByTheBook (sys : System) (lanes : List (List Rec)) (order : List ℕ) (at : ℕ) (v : LaneView) : Type 0 where
  pub words : Words sys lanes
  pub told : v.told ≡ told_lane (facts_in sys lanes) 0 (lane_items (lane_recs lanes at))
  pub marks : (w : Word) → v.mark w ≡ total w (all_items lanes)
  pub objects : (o : ℕ)
      → records_of (facts_in sys lanes) o 0 (lane_items (lane_recs lanes at)) ≡ told_alone (filter (λ t. t.of == o) v.told)
  pub events : (h : Hold) → StandsHold h v
      → event_of_entry (facts_in sys lanes) (entry h.pool h.block h.name) ≡ Some (v.event (entry h.pool h.block h.name))
  pub hands : (k : ℕ) → (view_of sys lanes order k 0 0 [] [] []).hands ≡ v.hands

abbrev pub ToldByTheBook : Type 0
ToldByTheBook =
    (sys : System) (lanes : List (List Rec)) (order : List ℕ) (at spare by : ℕ) (stops answered : List ℕ) (purses : List Purse)
    → SoundWorld sys lanes order
    → ByTheBook sys lanes order at (view_of sys lanes order at spare by stops answered purses)

-- What another lane sees of this record: its word's mark, the counts of its queue and the hands. It tells nothing new.
pub record SeesElsewhere (t : ToldItem) (old new : LaneView) : Type 0 where
  pub told : new.told ≡ old.told
  pub mark : (w : Word) → new.mark w ≡ mark_by w (old.mark w) t
  pub rise : (w : Word) → old.mark w ≤ new.mark w
  pub shown : (w : Word) → new.mark w ≡ old.mark w → new.shown w ≡ old.shown w
  pub own : (a : ℕ) → new.own a ≡ own_of a (old.own a) t.of t.told.body
  pub event : (e : Entry) → IsTrue (is_known old e) → new.event e ≡ old.event e
  pub hands : new.hands ≡ hands_by old.hands t.told

-- so it is for each lane but that of the record
abbrev pub OtherLanesStay : Type 0
OtherLanesStay =
    (s : WorldStep) (o : ℕ) (b : Body) → SoundWorld s.sys s.lanes s.order
    → Grown s.lanes s.order s.at s.rec s.more s.longer
    → item_of s.rec ≡ record { of = o; body = b } → MayCome s o b
    → (k spare by : ℕ) (stops answered : List ℕ) (purses : List Purse) → IsFalse (k == s.at)
    → SeesElsewhere (for_object o (told (facts_in s.sys s.more) o (ceiling_in 0 (before s).told) b))
    (view_of s.sys s.lanes s.order k spare by stops answered purses) (view_of s.sys s.more s.longer k spare by stops answered purses)

-- The laws of a lane, from its records.
abbrev pub LaneKeepsItsLimit : Type 0
LaneKeepsItsLimit =
    (sys : System) (lanes : List (List Rec)) (order : List ℕ) (at spare by : ℕ) (stops answered : List ℕ) (purses : List Purse)
    → count_by (λ i. not (is_spill i.body)) (lane_items (lane_recs lanes at)) + spare ≤ 1000000
    → IsWithinLimit (view_of sys lanes order at spare by stops answered purses)

abbrev pub LaneKeepsItsCauses : Type 0
LaneKeepsItsCauses =
    (sys : System) (lanes : List (List Rec)) (order : List ℕ) (at spare by : ℕ) (stops answered : List ℕ) (purses : List Purse)
    → IsTrue (list_all (is_caused_in (lane_items (lane_recs lanes at))) stops)
    → HasCauses (view_of sys lanes order at spare by stops answered purses)

-- a code that may be handed in has its record
abbrev pub StopHasItsCause : Type 0
StopHasItsCause =
    (sys : System) (lanes : List (List Rec)) (order : List ℕ) (at spare by : ℕ) (stops answered : List ℕ) (purses : List Purse) (code : ℕ)
    → MayStop code (view_of sys lanes order at spare by stops answered purses)
    → IsTrue (is_caused_in (lane_items (lane_recs lanes at)) code)

-- what is caused stays caused
abbrev pub CausesStay : Type 0
CausesStay =
    (items more : List Item) (stops : List ℕ) → IsTrue (list_all (is_caused_in items) stops)
    → IsTrue (list_all (is_caused_in (items ++ more)) stops)

-- no word has had more operations than the world has records
abbrev pub WordsAreFew : Type 0
WordsAreFew =
    (lanes : List (List Rec)) (order : List ℕ) → Orders lanes order → (w : Word) → total w (all_items lanes) ≤ length order

-- Where each block stands, and the end.
abbrev pub EveryBlockStands : Type 0
EveryBlockStands =
    (sys : System) (lanes : List (List Rec)) (order : List ℕ) → SoundWorld sys lanes order → (p b : ℕ)
    → IsTrue (is_block sys p b)
    → BlockStands sys lanes (hands_in sys lanes order) p b

-- where all queues are empty and the hands are the deferred entries, the run may end, whatever the order of the calls was
abbrev pub QuietEndRests : Type 0
QuietEndRests =
    (sys : System) (lanes : List (List Rec)) (hands : List Token) (deferred : List Entry) → Sound sys lanes hands
    → OnlyDeferred sys lanes hands deferred
    → IsTrue (lines_empty sys (all_items lanes)) × IsTrue (blocks_rest sys (all_items lanes) deferred)
