-- What each step of a seat tells it: of its view before, the number found and its view after.
use Rattle.std.specs.Prelude.{◌≡◌, ◌≢◌, ℕ, ◌+◌, ◌-◌, ◌/◌, ◌%◌, ◌^◌, ◌<◌, ◌≤◌, eqb, Bool, List, [], ◌∷◌, ◌++◌, cond, slice_index, slice_set}
use Rattle.std.specs.Int.{bit_at}
use mathlib.Core.Option.{some}
use lib.ListN.{get_elem?}
use Rattle.qp_model.specs.declared.record.Rec.{Rec}
use Rattle.qp_model.specs.declared.systems.System.{System}
use Rattle.qp_model.specs.Subscribers.{bits_of_set}
use Rattle.qp_table.specs.Counting.{Each}
use Rattle.qp_table.specs.Rule.{mark_in}
use Rattle.qp_table.specs.After.{rec_of, glanced, noted, empty_view, onlooker, passing, handing, granting, views_joined}
use Rattle.qp_table.specs.declared.view.SeatLog.{SeatLog}
use Rattle.qp_table.specs.declared.view.Serve.{Serve}
use Rattle.qp_table.specs.Words.{latest}
use Rattle.qp_side.specs.Rule.{signal_at, timer_at, member_in, AreSubscribers, SideHolds}
use Rattle.qp_side.specs.declared.view.SideView.{SideView}

-- a word was seen, and it was with a record
abbrev pub side_glanced : SideView → ℕ → ℕ → SideView
side_glanced v w n = record v { view = glanced v.view w n }

abbrev pub side_noted : SideView → ℕ → ℕ → Rec → SideView
side_noted v w n r = record v { view = noted v.view w n r }

-- Whatever the words and views are when the word w becomes f of what it was, the seat has a new view that keeps the rule, and `tells` holds of the number found and of the new view
abbrev pub SideSteps : System → ℕ → SideView → ℕ → (ℕ → ℕ) → (ℕ → SideView → Type 0) → Type 0
SideSteps sys id v w f tells = (words : List ℕ) (views : List SideView) → SideHolds sys words views → get_elem? views id ≡ some v → slice_index words w < 18446744073709551616
    → (u : SideView) × SideHolds sys (slice_set words w (f (slice_index words w))) (slice_set views id u) × tells (slice_index words w) u

-- the value with the most operations that was seen of a word
abbrev pub last_seen : ℕ → SideView → ℕ
last_seen w v = latest w 0 v.view.seen

-- The word was found to be n, of which nothing later and nothing else as late was seen, and x was seen of it, and else nothing new
pub record SideSaw (w : ℕ) (v u : SideView) (n x : ℕ) : Type 0 where
  pub le : mark_in w (last_seen w v) ≤ mark_in w n
  pub same : mark_in w (last_seen w v) ≡ mark_in w n → last_seen w v ≡ n
  pub value : last_seen w u ≡ x
  pub rises : mark_in w n ≤ mark_in w x
  pub others : (y : ℕ) → y ≢ w → last_seen y u ≡ last_seen y v

-- Signals.

-- what a member o adds to a set
abbrev pub bit_value : ℕ → ℕ
bit_value o = 2 ^ o / 2

-- 1 where the word of a signal has object o as a subscriber
abbrev pub bit_in : ℕ → ℕ → ℕ
bit_in o x = bit_at (x % 4294967296) (o - 1)

-- a look for object o, with the record `same` where its bit is this one
abbrev pub eyed_signal : ℕ → ℕ → ℕ → SideView → ℕ → SideView
eyed_signal bit o s v x = cond (eqb (bit_in o x) bit) (side_noted v (signal_at s) x (rec_of 33 o (s ∷ (x / 4294967296) ∷ []))) (side_glanced v (signal_at s) x)

abbrev pub EyeSignalTold : ℕ → ℕ → ℕ → SideView → ℕ → SideView → Type 0
EyeSignalTold bit o s v n u = (u ≡ eyed_signal bit o s v n) × SideSaw (signal_at s) v u n n × (member_in o s v.view.logs ≡ eqb (bit_in o n) 1)

-- object o comes, and goes: the word has one operation more
abbrev pub SubTold : ℕ → ℕ → SideView → ℕ → SideView → Type 0
SubTold o s v n u =
    (u ≡ side_noted v (signal_at s) (n + (4294967296 + bit_value o)) (rec_of 31 o (s ∷ (n / 4294967296) ∷ [])))
    × SideSaw (signal_at s) v u n (n + (4294967296 + bit_value o)) × ((n + (4294967296 + bit_value o)) / 4294967296 ≡ n / 4294967296 + 1)

abbrev pub UnsubTold : ℕ → ℕ → SideView → ℕ → SideView → Type 0
UnsubTold o s v n u =
    (u ≡ side_noted v (signal_at s) (n + (4294967296 - bit_value o)) (rec_of 32 o (s ∷ (n / 4294967296) ∷ [])))
    × SideSaw (signal_at s) v u n (n + (4294967296 - bit_value o)) × ((n + (4294967296 - bit_value o)) / 4294967296 ≡ n / 4294967296 + 1)

-- the set is looked at, with the record `pub`
abbrev pub PubTold : System → ℕ → ℕ → SideView → ℕ → SideView → Type 0
PubTold sys o s v n u =
    (members : List ℕ) × (u ≡ side_noted v (signal_at s) n (rec_of 23 o (s ∷ (n / 4294967296) ∷ (n % 4294967296) ∷ [])))
    × SideSaw (signal_at s) v u n n × (n % 4294967296 ≡ bits_of_set members) × AreSubscribers sys members

-- Time events.

abbrev pub counter_in : ℕ → ℕ
counter_in x = x % 65536

abbrev pub interval_in : ℕ → ℕ
interval_in x = x / 65536 % 65536

-- a look, with the assertion's record where the time event is armed
abbrev pub eyed_armed : ℕ → ℕ → SideView → ℕ → SideView
eyed_armed o t v x = cond (eqb (counter_in x) 0) (side_glanced v (timer_at t) x) (side_noted v (timer_at t) x (rec_of 42 o (3 ∷ t ∷ (x / 4294967296) ∷ counter_in x ∷ [])))

-- a look, with the record `idle` where it isn't
abbrev pub eyed_idle : ℕ → ℕ → SideView → ℕ → SideView
eyed_idle o t v x = cond (eqb (counter_in x) 0) (side_noted v (timer_at t) x (rec_of 37 o (t ∷ (x / 4294967296) ∷ []))) (side_glanced v (timer_at t) x)

-- a look without a record
abbrev pub eyed_clock : ℕ → SideView → ℕ → SideView
eyed_clock t v x = side_glanced v (timer_at t) x

-- what a look tells; the word has room for another operation
abbrev pub EyeTimerTold : (SideView → ℕ → SideView) → ℕ → SideView → ℕ → SideView → Type 0
EyeTimerTold eyed t v n u = (u ≡ eyed v n) × SideSaw (timer_at t) v u n n × (n < 288230376151711744)

-- A try: the record is added and the word is new, or the word shows more operations than it was seen with
abbrev pub TimerTold : (SideView → ℕ → SideView) → Rec → ℕ → ℕ → ℕ → SideView → ℕ → SideView → Type 0
TimerTold eyed r t old new v n u =
    (n ≡ old → (u ≡ side_noted v (timer_at t) new r) × SideSaw (timer_at t) v u old new × (mark_in (timer_at t) old < mark_in (timer_at t) new))
    × (n ≢ old → (mark_in (timer_at t) old < mark_in (timer_at t) n) × EyeTimerTold eyed t v n u)

abbrev pub ArmTold : ℕ → ℕ → ℕ → ℕ → ℕ → ℕ → SideView → ℕ → SideView → Type 0
ArmTold o t ticks interval old new v n u = TimerTold (eyed_armed o t) (rec_of 34 o (t ∷ (old / 4294967296) ∷ ticks ∷ interval ∷ [])) t old new v n u

abbrev pub DisarmTold : ℕ → ℕ → ℕ → ℕ → SideView → ℕ → SideView → Type 0
DisarmTold o t old new v n u = TimerTold (eyed_idle o t) (rec_of 35 o (t ∷ (old / 4294967296) ∷ counter_in old ∷ [])) t old new v n u

abbrev pub RearmTold : ℕ → ℕ → ℕ → ℕ → ℕ → SideView → ℕ → SideView → Type 0
RearmTold o t ticks old new v n u = TimerTold (eyed_clock t) (rec_of 36 o (t ∷ (old / 4294967296) ∷ counter_in old ∷ ticks ∷ [])) t old new v n u

-- a tick is no object's: it fires where one tick is left
abbrev pub tick_rec : ℕ → ℕ → Rec
tick_rec t x = cond (eqb (counter_in x) 1) (rec_of 39 0 (t ∷ (x / 4294967296) ∷ interval_in x ∷ [])) (rec_of 38 0 (t ∷ (x / 4294967296) ∷ (counter_in x - 1) ∷ []))

abbrev pub TickTold : ℕ → ℕ → ℕ → ℕ → SideView → ℕ → SideView → Type 0
TickTold o t old new v n u = TimerTold (eyed_idle o t) (tick_rec t old) t old new v n u

-- The stop word.

-- a code is handed in
abbrev pub HandTold : ℕ → SideView → ℕ → SideView → Type 0
HandTold code v n u = u ≡ record v { stops = code ∷ v.stops }

-- the word is read: where it is 0 nothing was handed in and nothing found; else this code alone was found
abbrev pub FoundTold : SideView → ℕ → SideView → Type 0
FoundTold v n u =
    (n ≡ 0 → (u ≡ v) × (v.stops ≡ []) × (v.answered ≡ []))
    × (n ≢ 0 → (u ≡ record v { answered = n ∷ v.answered }) × (n ≤ 7) × Each (λ k. k ≡ n) v.answered)

-- Seats.

-- the root without a number and without the objects that pass the test, and the seat that has them
abbrev pub root_less : ℕ → (Serve → Bool) → SideView → SideView
root_less n t v = record v { view = handing t (granting n v.view) }

abbrev pub seat_with : ℕ → (Serve → Bool) → SideView → SideView
seat_with n t v = record { view = record empty_view { logs = record { number = n; recs = [] } ∷ []; serves = passing t v.view.serves }; stops = []; answered = [] }

-- the objects that a seat serves, where it has records of its own
abbrev pub served_by : List SeatLog → List Serve → List Serve
served_by [] xs = []
served_by (g ∷ gs) xs = xs

-- One seat takes over another. What the other served is served no more, nor is anything where the seat has no records of its own.
abbrev pub both_of : SideView → SideView → SideView
both_of v w = record { view = record (views_joined v.view w.view) { serves = served_by v.view.logs v.view.serves }; stops = v.stops ++ w.stops; answered = v.answered ++ w.answered }

-- a seat that has seen what another has
abbrev pub side_onlooker : SideView → SideView
side_onlooker v = record { view = onlooker v.view; stops = []; answered = [] }

abbrev pub no_seat : SideView
no_seat = record { view = empty_view; stops = []; answered = [] }

-- the root at first: it has all numbers and serves these objects
abbrev pub side_root : List ℕ → List Serve → SideView
side_root numbers xs = record { view = record empty_view { lane_numbers = numbers; serves = xs }; stops = []; answered = [] }
