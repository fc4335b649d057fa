-- The rule of the event table over a list of seats.
use Rattle.std.specs.Prelude.{◌≡◌, ℕ, ◌<◌, ◌≤◌, ◌==◌, nat_lt, Bool, true, false, List, [], ◌∷◌, ⊤}
use Rattle.std.specs.List.{list_any}
use Rattle.qp_model.specs.declared.systems.System.{System}
use Rattle.qp_table.specs.Counting.{Each, many}
use Rattle.qp_table.specs.Rule.{is_number, Holds}
use Rattle.qp_table.specs.After.{empty_view}
use Rattle.qp_table.specs.declared.view.SeatLog.{SeatLog}
use Rattle.qp_table.specs.declared.view.View.{View}
use Rattle.qp_core_steps.specs.Seats.{as_view}
use Rattle.qp_core_steps.specs.declared.seats.Seat.{Seat}

-- the views are those of the seats
abbrev pub AreViews : List Seat → List View → Type 0
AreViews [] [] = ⊤
AreViews [] (v ∷ vs) = ⊥
AreViews (x ∷ xs) [] = ⊥
AreViews (x ∷ xs) (v ∷ vs) = (v ≡ as_view x) × AreViews xs vs

-- a view with the lane numbers that no seat has had yet
abbrev pub bank : List ℕ → View
bank ns = record empty_view { lane_numbers = ns }

-- the log of this lane stands first
abbrev pub is_own : ℕ → List SeatLog → Bool
is_own n [] = false
is_own n (g ∷ gs) = g.number == n

-- a seat of the lanes that stands has its own log first
abbrev pub OwnsLog : ℕ → Seat → Type 0
OwnsLog lanes x = x.stands ≡ true → nat_lt x.number lanes ≡ true → is_own x.number x.logs ≡ true

-- the seat with this number
abbrev pub has_number : ℕ → Seat → Bool
has_number n x = x.number == n

-- The rule of the event table, over the views of all seats and the lane numbers not handed out yet
pub record TableHolds (sys : System) (lanes : ℕ) (words : List ℕ) (seats : List Seat) : Type 0 where
  pub lane_numbers : List ℕ
  pub views : List View
  pub holds : Holds sys words (bank lane_numbers ∷ views)
  pub seats_are : AreViews seats views
  pub own : Each (OwnsLog lanes) seats
  pub later : (n : ℕ) → nat_lt n lanes ≡ true → list_any (has_number n) seats ≡ false → 0 < many (is_number n) lane_numbers
  pub few : lanes ≤ 49
