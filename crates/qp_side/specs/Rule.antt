-- The rule of the side table: its words, and the views of all seats.
use Rattle.std.specs.Prelude.{◌≡◌, ℕ, ◌+◌, ◌*◌, ◌<◌, ◌≤◌, eqb, List, [], ◌∷◌, map, Bool, true, false, cond, ◌&&◌, length, slice_index, IsTrue}
use mathlib.Core.Option.{some}
use lib.ListN.{get_elem?}
use Rattle.qp_chart.specs.StateTree.{has}
use Rattle.qp_model.specs.declared.record.Rec.{Rec}
use Rattle.qp_model.specs.declared.bodies.Body.{Body}
use Rattle.qp_model.specs.declared.bodies.Body.TheVariants.{Sub, Unsub}
use Rattle.qp_model.specs.declared.systems.System.{System}
use Rattle.qp_model.specs.declared.words.Word.TheVariants as word
use Rattle.qp_model.specs.Record.{Item, item_of}
use Rattle.qp_model.specs.History.{hist, all_items}
use Rattle.qp_model.specs.Machine.{after}
use Rattle.qp_model.specs.Subscribers.{Subscribers, subscribers, bits_of_set}
use Rattle.qp_model.specs.TimeEvents.{Clock, time_event}
use Rattle.qp_model.specs.WordLaw.{is_object, is_signal, is_timer}
use Rattle.qp_plain_words.specs.Sets.{are_members}
use Rattle.qp_table.specs.TwoTables.{SideWords}
use Rattle.qp_table.specs.Counting.{Each, sum_over, many}
use Rattle.qp_table.specs.Rule.{is_serve, Logs, Was, Seen}
use Rattle.qp_table.specs.declared.view.SeatLog.{SeatLog}
use Rattle.qp_table.specs.declared.view.View.{View}
use Rattle.qp_side.specs.declared.view.SideView.{SideView}

-- Where each word stands: signals from 4, time events from 1, then the stop word
abbrev pub signal_at : ℕ → ℕ
signal_at s = 8 * s

abbrev pub timer_at : ℕ → ℕ
timer_at t = 1632 + 8 * t

abbrev pub stop_at : ℕ
stop_at = 4488

-- sizes that the layout has room for
pub record SideFitting (sys : System) : Type 0 where
  pub few_signals : length sys.signals ≤ 200
  pub few_timers : length sys.timers ≤ 64
  pub objects : (o : ℕ) → IsTrue (is_object sys o) → (0 < o) × (o ≤ 32)

-- the states of all words
pub record SideNow : Type 0 where
  pub set : ℕ → Subscribers
  pub clock : ℕ → Clock

-- the seats' records are lawful, and leave the words so
pub record SideLeaves (sys : System) (lanes : List (List Rec)) (now : SideNow) : Type 0 where
  pub law : SideWords sys lanes
  pub set : (s : ℕ) → IsTrue (is_signal sys s) → after subscribers (hist (word.Signal s) (all_items lanes)) ≡ now.set s
  pub clock : (t : ℕ) → IsTrue (is_timer sys t) → after time_event (hist (word.Timer t) (all_items lanes)) ≡ now.clock t

abbrev pub set_value : Subscribers → ℕ
set_value s = s.count * 4294967296 + bits_of_set s.members

abbrev pub clock_value : Clock → ℕ
clock_value s = s.count * 4294967296 + s.interval * 65536 + s.counter

-- subscribers that are objects of the system, each once
pub record AreSubscribers (sys : System) (members : List ℕ) : Type 0 where
  pub once : IsTrue (are_members members)
  pub known : Each (λ o. IsTrue (is_object sys o)) members
  pub small : bits_of_set members < 4294967296

-- the words show the states
pub record SideShows (sys : System) (words : List ℕ) (now : SideNow) : Type 0 where
  pub wide : length words ≡ 4489
  pub sets : (s : ℕ) → IsTrue (is_signal sys s) → slice_index words (signal_at s) ≡ set_value (now.set s)
  pub clocks : (t : ℕ) → IsTrue (is_timer sys t) → slice_index words (timer_at t) ≡ clock_value (now.clock t)
  pub members : (s : ℕ) → IsTrue (is_signal sys s) → AreSubscribers sys (now.set s).members
  pub small : (t : ℕ) → IsTrue (is_timer sys t) → ((now.clock t).counter < 65536) × ((now.clock t).interval < 65536)

-- whether object o is a subscriber of signal s by its own last record, which is so at first where b says so
abbrev pub member_by_body : ℕ → ℕ → ℕ → Body → Bool → Bool
member_by_body o s of (Sub sig n) b = cond (eqb sig s && eqb of o) true b
member_by_body o s of (Unsub sig n) b = cond (eqb sig s && eqb of o) false b
member_by_body o s of _ b = b

abbrev pub member_by : ℕ → ℕ → Item → Bool → Bool
member_by o s i b = member_by_body o s i.of i.body b

unfoldable pub member_from : ℕ → ℕ → Bool → List Rec → Bool
member_from o s b [] = b
member_from o s b (r ∷ rs) = member_from o s (member_by o s (item_of r) b) rs

-- by the records of a seat's own log
abbrev pub member_in : ℕ → ℕ → List SeatLog → Bool
member_in o s [] = false
member_in o s (g ∷ gs) = member_from o s false g.recs

-- The stop word: 0 where no code was handed in. Else it is one that some seat handed in, and the only one that was found.
pub record StopHolds (n : ℕ) (views : List SideView) : Type 0 where
  pub low : n ≤ 7
  pub none : n ≡ 0 → (id : ℕ) (v : SideView) → get_elem? views id ≡ some v → v.stops ≡ []
  pub some_seat : 0 < n → 0 < sum_over (λ (v : SideView). many (eqb n) v.stops) views
  pub found : (id : ℕ) (v : SideView) → get_elem? views id ≡ some v → Each (λ k. (k ≡ n) × (0 < n)) v.answered

abbrev pub views_of : List SideView → List View
views_of views = map (λ (v : SideView). v.view) views

-- whether an object that a seat serves is a subscriber is known by the seat's records
abbrev pub KnowsItsOwn : System → SideNow → SideView → Type 0
KnowsItsOwn sys now v = (o s : ℕ) → 0 < many (is_serve o) v.view.serves → IsTrue (is_signal sys s) → has (now.set s).members o ≡ member_in o s v.view.logs

pub record SideHolds (sys : System) (words : List ℕ) (views : List SideView) : Type 0 where
  pub lanes : List (List Rec)
  pub now : SideNow
  pub was : Was
  pub fitting : SideFitting sys
  pub leaves : SideLeaves sys lanes now
  pub shows : SideShows sys words now
  pub logs : Logs lanes (views_of views)
  pub seen : Seen words (views_of views) was
  pub first : (w : ℕ) → was w 0 ≡ 0
  pub serves : (o : ℕ) → sum_over (λ (v : SideView). many (is_serve o) v.view.serves) views ≤ cond (is_object sys o) 1 0
  pub home : (id : ℕ) (v : SideView) → get_elem? views id ≡ some v → KnowsItsOwn sys now v
  pub idle : (id : ℕ) (v : SideView) → get_elem? views id ≡ some v → length v.view.logs ≡ 0 → v.stops ≡ []
  pub stop : StopHolds (slice_index words stop_at) views
