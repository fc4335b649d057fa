-- A lane as its caller sees it, and what ties that to its view.
use Rattle.std.specs.Prelude.{ℕ, eqb, Bool, true, false, nat_lt, ◌&&◌, ◌||◌, List, [], ◌∷◌, cond, map, length}
use Rattle.std.specs.List.{filter, list_any}
use Rattle.qp_model.specs.declared.record.Rec.{Rec}
use Rattle.qp_model.specs.declared.systems.System.{System}
use Rattle.qp_model.specs.declared.words.Word.{Word}
use Rattle.qp_model.specs.declared.words.Word.TheVariants as word
use Rattle.qp_model.specs.declared.bodies.Entry.{Entry}
use Rattle.qp_model.specs.declared.bodies.Body.{Body}
use Rattle.qp_model.specs.declared.bodies.Body.TheVariants.{Took, New, Dec, Lock, Same}
use Rattle.qp_model.specs.Record.{Item, item_of}
use Rattle.qp_model.specs.Told.{Known, Nothing, OfEvent, Free, Left, Former, Member, ToldItem, Event}
use Rattle.qp_model.specs.History.{touch, lane_items}
use Rattle.qp_table.specs.TwoTables.{on_table}
use Rattle.qp_table.specs.Counting.{many}
use Rattle.qp_table.specs.Rule.{is_entry, is_ref, is_spot, is_serve, event_of_content}
use Rattle.qp_table.specs.declared.view.Content.{Content}
use Rattle.qp_table.specs.declared.view.Glance.{Glance}
use Rattle.qp_table.specs.declared.view.SeatLog.{SeatLog}
use Rattle.qp_table.specs.declared.view.View.{View}
use Rattle.qp_calls.specs.LaneView.{LaneView, codes_in, own_after, placed_by}
use Rattle.qp_calls.specs.Tokens.{Token, Held, Loose, same_token, hands_after}
use Rattle.qp_table.specs.Words.{mark_seen, shown_seen}

-- the records of the lane's own log, read
abbrev pub own_of_logs : List SeatLog → List Item
own_of_logs [] = []
own_of_logs (g ∷ gs) = lane_items g.recs

unfoldable pub own_recs : View → List Item
own_recs v = own_of_logs v.logs

-- those of a list that are on the event table
unfoldable pub on_table_of : List Rec → List Item
on_table_of recs = filter (λ i. on_table (touch i)) (lane_items recs)

-- the event of an entry, where it was read; a static one has its signal and no parameters
abbrev pub event_read : List Content → Entry → Event
event_read [] e = record { sig = 0; pars = [] }
event_read (q ∷ qs) e = cond {A = Event} (is_entry e q.entry) (event_of_content q.event) (event_read qs e)

unfoldable pub event_seen : List Content → Entry → Event
event_seen qs e = cond {A = Event} (eqb e.pool 0) (record { sig = e.block; pars = [] }) (event_read qs e)

abbrev pub has_content : List Content → Entry → Bool
has_content qs e = eqb e.pool 0 || list_any (λ (q : Content). is_entry e q.entry) qs

-- an entry in hand was read, and its block has its words
abbrev pub is_read : List Content → Entry → Bool
is_read qs e = has_content qs e && (nat_lt e.pool 16 && nat_lt e.block 32)

-- what is known beside a record: the number beside it, or the event of the entry taken
abbrev pub known_with : (Entry → Event) → Body → ℕ → Known
known_with event (Took f l m e) k = OfEvent (event e)
known_with event (New p n b from sig pars) k = Free k
known_with event (Dec p b d r) k = Left k
known_with event (Lock c) k = Former k
known_with event (Same sig n) k = Member (eqb k 1)
known_with event _ k = Nothing

abbrev pub told_as : (Entry → Event) → Item → ℕ → ToldItem
told_as event i k = record { of = i.of; told = record { body = i.body; known = known_with event i.body k } }

unfoldable pub tell_lane : (Entry → Event) → List Rec → List ℕ → List ToldItem
tell_lane event [] ks = []
tell_lane event (r ∷ rs) [] = []
tell_lane event (r ∷ rs) (k ∷ ks) = told_as event (item_of r) k ∷ tell_lane event rs ks

-- the marks of all words: those of signals and timers are the side table's
abbrev pub lane_mark : System → List Glance → (Word → ℕ) → Word → ℕ
lane_mark sys seen side (word.Signal s) = side (word.Signal s)
lane_mark sys seen side (word.Timer t) = side (word.Timer t)
lane_mark sys seen side w = mark_seen sys seen w

-- what a lane is besides its records and its view: the name of its table, the system, its number, the object for which it adds
-- records, the codes that it handed in, the answers to its questions (0 where no code was found), and its marks of signals and timers
pub record LaneContext : Type 0 where
  pub world : List ℕ
  pub sys : System
  pub number : ℕ
  pub by : ℕ
  pub stops : List ℕ
  pub answered : List ℕ
  pub side : Word → ℕ

-- The lane with these records told, and this view
unfoldable pub lane_of : LaneContext → List ToldItem → ℕ → View → LaneView
lane_of at told spare v = record {
  world = at.world;
  sys = at.sys;
  told = told;
  spare = spare;
  by = at.by;
  serves = λ o. list_any (is_serve o) v.serves;
  stops = at.stops;
  answered = codes_in at.answered;
  asked = length at.answered;
  mark = lane_mark at.sys v.seen at.side;
  shown = shown_seen at.sys v.seen;
  own = λ a. own_after a (record { l = 0; m = 0 }) told;
  event = event_seen v.contents;
  hands = hands_after [] told;
  plan = [];
  happened = [];
  lane = at.number;
  log = map (placed_by at.number) told;
  aside = record { told = []; purses = [] };
}

-- how often a token stands in the hands, and in a view
abbrev pub tokens : Token → List Token → ℕ
tokens t hands = many (same_token t) hands

abbrev pub tokens_of_view : View → Token → ℕ
tokens_of_view v (Held p b r) = many (is_ref p b r) v.hands
tokens_of_view v (Loose p b false) = many (is_spot p b) v.fresh
tokens_of_view v (Loose p b true) = many (is_spot p b) v.used

-- the number of a lane
abbrev pub first_number : List SeatLog → ℕ
first_number [] = 0
first_number (g ∷ gs) = g.number

unfoldable pub lane_number : View → ℕ
lane_number v = first_number v.logs
