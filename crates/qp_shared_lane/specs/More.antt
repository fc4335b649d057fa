-- What a call owes of the views after it, so that the lane's facts stand.
use Rattle.std.specs.Prelude.{◌≡◌, ℕ, ◌≤◌, Bool, true, false, List, [], ◌∷◌, ◌++◌, length, Some, IsTrue}
use Rattle.std.specs.List.{list_any}
use Rattle.qp_model.specs.declared.record.Rec.{Rec}
use Rattle.qp_model.specs.declared.systems.System.{System}
use Rattle.qp_model.specs.declared.words.Word.{Word}
use Rattle.qp_model.specs.declared.words.Word.TheVariants as word
use Rattle.qp_model.specs.declared.bodies.Entry.{Entry}
use Rattle.qp_model.specs.Record.{item_of}
use Rattle.qp_model.specs.Told.{ToldItem, Event}
use Rattle.qp_model.specs.History.{Neither, mark_of, touch_of, lane_items, same_word}
use Rattle.qp_model.specs.WordLaw.{is_signal}
use Rattle.qp_table.specs.TwoTables.{on_table, on_side}
use Rattle.qp_table.specs.Rule.{mark_in, is_serve}
use Rattle.qp_table.specs.After.{logged, SeesMore}
use Rattle.qp_table.specs.declared.view.Glance.{Glance}
use Rattle.qp_table.specs.declared.view.View.{View}
use Rattle.qp_calls.specs.Tokens.{Token, token_of, hands_by, handles}
use Rattle.qp_calls_log.specs.declared.log.Log.{Log}
use Rattle.qp_table.specs.Words.{place_of, mark_seen}
use Rattle.qp_table.specs.Lane.{own_recs, on_table_of, event_seen, has_content, told_as, tokens, tokens_of_view, lane_number}
use Rattle.qp_table.specs.Telling.{Saw, Touches, is_on_table}
use Rattle.qp_side.specs.Rule.{signal_at}
use Rattle.qp_side.specs.Told.{last_seen}
use Rattle.qp_side.specs.declared.view.SideView.{SideView}
use Rattle.qp_shared_lane.specs.Holds.{on_side_of, SubscriberIs, IsRead, IsStill, IsPlaced, IsWorn, FormerIs, borne_out}
use Rattle.qp_side.specs.Seat.{side_mark}

-- the record stands at the end of the log, and the number beside it; nothing else changes but the spare and what is kept for a `spill`
pub record IsPut (rec : Rec) (number : ℕ) (g : Log) (numbers : List ℕ) (h : Log) (more : List ℕ) : Type 0 where
  pub recs : h.recs.items ≡ g.recs.items ++ rec ∷ []
  pub numbers_are : more ≡ numbers ++ number ∷ []
  pub stops : h.stops.list ≡ g.stops.list
  pub answered : h.answered.list ≡ g.answered.list

-- what was read of entries is kept
abbrev pub KeepsContents : View → View → Type 0
KeepsContents v u = (e : Entry) → IsTrue (has_content v.contents e) → IsTrue (has_content u.contents e) × (event_seen u.contents e ≡ event_seen v.contents e)

-- The view of the event table after a call or a part of one, which began with v. All but records and hands.
pub record ViewFollows (sys : System) (v u : View) : Type 0 where
  pub logs : length u.logs ≡ length v.logs
  pub number : lane_number u ≡ lane_number v
  pub lane_numbers : u.lane_numbers ≡ v.lane_numbers
  pub serves : (o : ℕ) → list_any (is_serve o) u.serves ≡ list_any (is_serve o) v.serves
  pub grown : KeepsContents v u
  pub read : IsRead u
  pub still : IsStill u
  pub placed : IsPlaced u
  pub worn : IsWorn sys u
  pub rise : (w : Word) → mark_seen sys v.seen w ≤ mark_seen sys u.seen w
  pub seen : SeesMore v.seen u.seen

-- the same of the view of the side table
pub record SideFollows (sys : System) (s z : SideView) : Type 0 where
  pub logs : length z.view.logs ≡ length s.view.logs
  pub number : lane_number z.view ≡ lane_number s.view
  pub lane_numbers : z.view.lane_numbers ≡ s.view.lane_numbers
  pub serves : z.view.serves ≡ s.view.serves
  pub rise : (k : ℕ) → IsTrue (is_signal sys k) → mark_in (signal_at k) (last_seen (signal_at k) s) ≤ mark_in (signal_at k) (last_seen (signal_at k) z)
  pub stops : z.stops ≡ s.stops
  pub answered : z.answered ≡ s.answered

-- A record more, told as t. The lane had these records and hands, and this ceiling, and serves these objects.
pub record AddsRecord (sys : System) (serves : ℕ → Bool) (recs : List Rec) (hands : List Token) (ceiling : ℕ) (u : View) (z : SideView) (rec : Rec) (number : ℕ) (t : ToldItem) : Type 0 where
  pub told : told_as (event_seen u.contents) (item_of rec) number ≡ t
  pub same : on_table_of (recs ++ rec ∷ []) ≡ own_recs u
  pub same_side : on_side_of (recs ++ rec ∷ []) ≡ own_recs z.view
  pub hands_are : (x : Token) → tokens x (hands_by hands t.told) ≡ tokens_of_view u x
  pub handled : (e : Entry) → IsTrue (handles (token_of e) t.told.body) → IsTrue (has_content u.contents e)
  pub marked : (w : Word) (k : ℕ) → IsTrue (is_on_table w) → mark_of w (touch_of t.of t.told.body) ≡ Some k → k ≤ mark_seen sys u.seen w
  pub side_marked : (k n : ℕ) → IsTrue (is_signal sys k) → mark_of (word.Signal k) (touch_of t.of t.told.body) ≡ Some n → n ≤ mark_in (signal_at k) (last_seen (signal_at k) z)
  pub borne : IsTrue (borne_out sys u.seen t)
  pub subscriber : SubscriberIs serves (lane_items recs) t.of t.told.body t.told.known
  pub former : FormerIs ceiling t.told.body t.told.known

-- A look without a record.
pub record AddsNothing (v u : View) (s z : SideView) : Type 0 where
  pub same : own_recs u ≡ own_recs v
  pub same_side : own_recs z.view ≡ own_recs s.view
  pub hands_are : (x : Token) → tokens_of_view u x ≡ tokens_of_view v x

-- A step on one word of the event table, with one record, which is told as t: its word is w, whose mark is k then.
pub record OnTable (sys : System) (hands : List Token) (v u : View) (rec : Rec) (number : ℕ) (t : ToldItem) (w : Word) (k : ℕ) : Type 0 where
  -- the record as the step's view has it
  pub as_seen : Rec
  pub says : item_of rec ≡ item_of as_seen
  pub logs : u.logs ≡ logged as_seen v.logs
  pub told : told_as (event_seen u.contents) (item_of rec) number ≡ t
  pub on : on_table (touch_of t.of t.told.body) ≡ true
  pub found : ℕ
  pub saw : Saw sys w v u found
  pub mark : mark_in (place_of w) found ≡ k
  pub touches : Touches w k t
  pub seen : SeesMore v.seen u.seen
  pub lane_numbers : u.lane_numbers ≡ v.lane_numbers
  pub serves : (o : ℕ) → list_any (is_serve o) u.serves ≡ list_any (is_serve o) v.serves
  pub grown : KeepsContents v u
  pub read : IsRead u
  pub still : IsStill u
  pub placed : IsPlaced u
  pub worn : IsWorn sys u
  pub hands_are : (x : Token) → tokens x (hands_by hands t.told) ≡ tokens_of_view u x
  pub handled : (e : Entry) → IsTrue (handles (token_of e) t.told.body) → IsTrue (has_content u.contents e)
  pub borne : IsTrue (borne_out sys u.seen t)

-- A step on one word of the side table, with one record. What is asked of subscribers is that of a lane which serves these objects and has these records.
pub record OnSide (sys : System) (serves : ℕ → Bool) (recs : List Rec) (s z : SideView) (rec : Rec) (number : ℕ) (t : ToldItem) (w : Word) (k : ℕ) : Type 0 where
  pub as_seen : Rec
  pub says : item_of rec ≡ item_of as_seen
  pub logs : z.view.logs ≡ logged as_seen s.view.logs
  pub told : (ev : Entry → Event) → told_as ev (item_of rec) number ≡ t
  pub on : on_side (touch_of t.of t.told.body) ≡ true
  pub word_is : is_on_table w ≡ false
  pub here : side_mark sys z w ≡ k
  pub rise : side_mark sys s w ≤ k
  pub others : (y : Word) → same_word w y ≡ false → side_mark sys z y ≡ side_mark sys s y
  pub touches : Touches w k t
  pub lane_numbers : z.view.lane_numbers ≡ s.view.lane_numbers
  pub serves_stay : z.view.serves ≡ s.view.serves
  pub stops : z.stops ≡ s.stops
  pub answered : z.answered ≡ s.answered
  pub subscriber : SubscriberIs serves (lane_items recs) t.of t.told.body t.told.known
  pub borne : (seen : List Glance) → IsTrue (borne_out sys seen t)

-- The record touches no word, moves no token and says nothing of subscribers. The ceiling that stood before it is beside it.
pub record IsNoted (rec : Rec) (number ceiling : ℕ) (t : ToldItem) : Type 0 where
  pub told : (ev : Entry → Event) → told_as ev (item_of rec) number ≡ t
  pub off : touch_of t.of t.told.body ≡ Neither
  pub moves : (hands : List Token) → hands_by hands t.told ≡ hands
  pub handles_none : (x : Token) → handles x t.told.body ≡ false
  pub former : FormerIs ceiling t.told.body t.told.known
