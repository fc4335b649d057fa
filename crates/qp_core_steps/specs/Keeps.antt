-- A step of one seat keeps the rule of the event table.
use Rattle.std.specs.Prelude.{◌≡◌, ℕ, ◌<◌, nat_lt, true, List, length}
use mathlib.Core.Option.{some}
use lib.ListN.{get_elem?, set}
use Rattle.qp_model.specs.declared.systems.System.{System}
use Rattle.qp_table.specs.Rule.{Holds}
use Rattle.qp_table.specs.declared.view.View.{View}
use Rattle.qp_core_steps.specs.Seats.{as_view}
use Rattle.qp_core_steps.specs.declared.seats.Seat.{Seat}

-- a seat of the lanes has its own log
abbrev pub HasOwn : ℕ → Seat → Type 0
HasOwn lanes x = nat_lt x.number lanes ≡ true → 0 < length x.logs

-- whatever the other views are, the rule stands with the seat's view after the step
abbrev pub StepKeeps : System → List ℕ → Seat → List ℕ → Seat → Type 0
StepKeeps sys words x words' x' = (views : List View) (id : ℕ) → Holds sys words views → get_elem? views id ≡ some (as_view x) → Holds sys words' (set views id (as_view x'))
