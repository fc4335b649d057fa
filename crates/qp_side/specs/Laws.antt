-- Each step of a seat keeps the rule of the side table and tells the seat what it found, whatever the other seats are.
use Rattle.std.specs.Prelude.{◌≡◌, ◌≢◌, ℕ, ◌+◌, ◌-◌, ◌*◌, ◌/◌, ◌%◌, ◌<◌, ◌≤◌, eqb, List, [], ◌∷◌, ◌++◌, Bool, true, false, cond, length, slice_index, slice_set, IsTrue}
use prog.Atomic.{either}
use mathlib.Core.Option.{some}
use lib.ListN.{get_elem?}
use Rattle.qp_model.specs.declared.record.Rec.{Rec}
use Rattle.qp_model.specs.declared.systems.System.{System}
use Rattle.qp_model.specs.Lists.{count_up}
use Rattle.qp_model.specs.Sound.{IsSound}
use Rattle.qp_model.specs.WordLaw.{is_signal, is_timer}
use Rattle.qp_table.specs.Counting.{Each, many}
use Rattle.qp_table.specs.Rule.{is_log, is_number, is_serve, mark_in}
use Rattle.qp_table.specs.After.{HasRoom}
use Rattle.qp_table.specs.declared.view.Glance.{Glance}
use Rattle.qp_table.specs.declared.view.SeatLog.{SeatLog}
use Rattle.qp_table.specs.declared.view.Serve.{Serve}
use Rattle.qp_table.specs.First.{first_serves}
use Rattle.qp_side.specs.Rule.{signal_at, timer_at, stop_at, member_in, SideNow, SideLeaves, SideShows, SideHolds}
use Rattle.qp_side.specs.Told.{SideSteps, last_seen, bit_value, EyeSignalTold, SubTold, UnsubTold, PubTold, counter_in, interval_in, eyed_armed, eyed_idle, eyed_clock, EyeTimerTold, ArmTold, DisarmTold, RearmTold, TickTold, HandTold, FoundTold, root_less, seat_with, both_of, no_seat, side_onlooker, side_root}
use Rattle.qp_side.specs.declared.view.SideView.{SideView}

-- Signals.

-- by the seat that serves the object
abbrev pub EyeSignalsTell : Type 0
EyeSignalsTell = (sys : System) (id : ℕ) (v : SideView) → HasRoom v.view → (bit o s : ℕ) → IsTrue (is_signal sys s) → 0 < many (is_serve o) v.view.serves → SideSteps sys id v (signal_at s) (λ n. n) (EyeSignalTold bit o s v)

abbrev pub SubsTell : Type 0
SubsTell = (sys : System) (id : ℕ) (v : SideView) → HasRoom v.view → (o s : ℕ) → IsTrue (is_signal sys s) → 0 < many (is_serve o) v.view.serves → member_in o s v.view.logs ≡ false
    → SideSteps sys id v (signal_at s) (λ n. (n + (4294967296 + bit_value o)) % 18446744073709551616) (SubTold o s v)

abbrev pub UnsubsTell : Type 0
UnsubsTell = (sys : System) (id : ℕ) (v : SideView) → HasRoom v.view → (o s : ℕ) → IsTrue (is_signal sys s) → 0 < many (is_serve o) v.view.serves → member_in o s v.view.logs ≡ true
    → SideSteps sys id v (signal_at s) (λ n. (n + (4294967296 - bit_value o)) % 18446744073709551616) (UnsubTold o s v)

-- by any seat
abbrev pub PubsTell : Type 0
PubsTell = (sys : System) (id : ℕ) (v : SideView) → HasRoom v.view → (o s : ℕ) → IsTrue (is_signal sys s) → SideSteps sys id v (signal_at s) (λ n. n) (PubTold sys o s v)

-- Time events.

abbrev pub EyeArmsTell : Type 0
EyeArmsTell = (sys : System) (id : ℕ) (v : SideView) → HasRoom v.view → (o t : ℕ) → IsTrue (is_timer sys t) → SideSteps sys id v (timer_at t) (λ n. n) (EyeTimerTold (eyed_armed o t) t v)

abbrev pub EyeIdlesTell : Type 0
EyeIdlesTell = (sys : System) (id : ℕ) (v : SideView) → HasRoom v.view → (o t : ℕ) → IsTrue (is_timer sys t) → SideSteps sys id v (timer_at t) (λ n. n) (EyeTimerTold (eyed_idle o t) t v)

abbrev pub EyeClocksTell : Type 0
EyeClocksTell = (sys : System) (id : ℕ) (v : SideView) (t : ℕ) → IsTrue (is_timer sys t) → SideSteps sys id v (timer_at t) (λ n. n) (EyeTimerTold (eyed_clock t) t v)

-- where it was disarmed when last seen
abbrev pub ArmsTell : Type 0
ArmsTell = (sys : System) (id : ℕ) (v : SideView) → HasRoom v.view → (o t ticks interval old new : ℕ) → IsTrue (is_timer sys t) → ticks < 65536 → interval < 65536 → last_seen (timer_at t) v ≡ old → counter_in old ≡ 0 → new ≡ (old / 4294967296 + 1) * 4294967296 + interval * 65536 + ticks
    → SideSteps sys id v (timer_at t) (λ n. either (eqb n old) new n) (ArmTold o t ticks interval old new v)

-- where it was armed when last seen
abbrev pub DisarmsTell : Type 0
DisarmsTell = (sys : System) (id : ℕ) (v : SideView) → HasRoom v.view → (o t old new : ℕ) → IsTrue (is_timer sys t) → last_seen (timer_at t) v ≡ old → 0 < counter_in old → new + counter_in old ≡ old + 4294967296
    → SideSteps sys id v (timer_at t) (λ n. either (eqb n old) new n) (DisarmTold o t old new v)

abbrev pub RearmsTell : Type 0
RearmsTell = (sys : System) (id : ℕ) (v : SideView) → HasRoom v.view → (o t ticks old new : ℕ) → IsTrue (is_timer sys t) → ticks < 65536 → last_seen (timer_at t) v ≡ old → new + counter_in old ≡ old + 4294967296 + ticks
    → SideSteps sys id v (timer_at t) (λ n. either (eqb n old) new n) (RearmTold o t ticks old new v)

abbrev pub TicksTell : Type 0
TicksTell = (sys : System) (id : ℕ) (v : SideView) → HasRoom v.view → (o t old new : ℕ) → IsTrue (is_timer sys t) → last_seen (timer_at t) v ≡ old → 0 < counter_in old → new + 1 ≡ old + 4294967296 + cond (eqb (counter_in old) 1) (interval_in old) 0
    → SideSteps sys id v (timer_at t) (λ n. either (eqb n old) new n) (TickTold o t old new v)

-- The stop word.

abbrev pub HandsTell : Type 0
HandsTell = (sys : System) (id : ℕ) (v : SideView) (code : ℕ) → 0 < length v.view.logs → 0 < code → code ≤ 7 → SideSteps sys id v stop_at (λ n. either (eqb n 0) code n) (HandTold code v)

abbrev pub FindsTell : Type 0
FindsTell = (sys : System) (id : ℕ) (v : SideView) → SideSteps sys id v stop_at (λ n. n) (FoundTold v)

-- Seats.

-- the root, which has no records, gives a seat one of its numbers, and the objects that pass the test
abbrev pub SeatsAreGiven : Type 0
SeatsAreGiven = (sys : System) (words : List ℕ) (views : List SideView) → SideHolds sys words views → (id : ℕ) (v : SideView) → get_elem? views id ≡ some v
    → (n : ℕ) (t : Serve → Bool) → n < 49 → 0 < many (is_number n) v.view.lane_numbers → v.view.logs ≡ [] → SideHolds sys words (slice_set views id (root_less n t v) ++ seat_with n t v ∷ [])

-- a seat that has seen what another has, which stays as it is
abbrev pub SeatsLookOn : Type 0
SeatsLookOn = (sys : System) (words : List ℕ) (views : List SideView) → SideHolds sys words views → (id : ℕ) (v : SideView) → get_elem? views id ≡ some v → SideHolds sys words (slice_set views id v ++ side_onlooker v ∷ [])

-- a seat takes over another
abbrev pub SeatsJoin : Type 0
SeatsJoin = (sys : System) (words : List ℕ) (views : List SideView) → SideHolds sys words views → (id : ℕ) (v : SideView) → get_elem? views id ≡ some v
    → (other : ℕ) (w : SideView) → other ≢ id → get_elem? (slice_set views id (both_of v w)) other ≡ some w → SideHolds sys words (slice_set (slice_set views id (both_of v w)) other no_seat)

-- words where nothing has happened, and a root that has all numbers and serves every object, meet the rule
abbrev pub SideStarts : Type 0
SideStarts = (sys : System) (words : List ℕ) → IsSound sys → length words ≡ 4489 → ((k : ℕ) → k < 4489 → slice_index words k ≡ 0) → SideHolds sys words (side_root (count_up 0 49) (first_serves sys 32) ∷ [])

-- What the seat with all numbers knows at the end. The lanes are those of the rule: each log is the lane of its number, each number
-- is a log's or was never given out, and the lanes of the latter have no records.
pub record IsSideWhole (sys : System) (v : SideView) : Type 0 where
  pub words : List ℕ
  pub now : SideNow
  pub lanes : List (List Rec)
  pub count : length lanes ≡ 49
  pub own : Each (λ (g : SeatLog). get_elem? lanes g.number ≡ some g.recs) v.view.logs
  pub once : (n : ℕ) → n < 49 → many (is_log n) v.view.logs + many (is_number n) v.view.lane_numbers ≡ 1
  pub rest : (n : ℕ) → n < 49 → 0 < many (is_number n) v.view.lane_numbers → get_elem? lanes n ≡ some []
  pub leaves : SideLeaves sys lanes now
  pub shows : SideShows sys words now
  pub glances : Each (λ (g : Glance). mark_in g.word g.value ≤ mark_in g.word (slice_index words g.word)) v.view.seen
  -- each code that was found is one code, which was handed in
  pub codes : Each (λ k. (k ≡ slice_index words stop_at) × (0 < many (eqb k) v.stops)) v.answered

abbrev pub SideWholeIsKnown : Type 0
SideWholeIsKnown = (sys : System) (words : List ℕ) (views : List SideView) → SideHolds sys words views → (id : ℕ) (v : SideView) → get_elem? views id ≡ some v → length v.view.logs + length v.view.lane_numbers ≡ 49 → IsSideWhole sys v

-- every word of a system stands apart from all others
abbrev pub SideWordsStandApart : Type 0
SideWordsStandApart = (s r t u : ℕ) → s < 204 → r < 204 → 0 < t → t ≤ 64 → 0 < u → u ≤ 64
    → (signal_at s < timer_at t) × (timer_at t < stop_at) × (signal_at s ≡ signal_at r → s ≡ r) × (timer_at t ≡ timer_at u → t ≡ u)
