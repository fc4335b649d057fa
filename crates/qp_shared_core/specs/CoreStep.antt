-- A step of a running lane, as one of the core.
use Rattle.std.specs.Prelude.{◌≡◌, ℕ, true, List, slice_index, slice_set}
use mathlib.Core.Option.{some}
use lib.ListN.{get_elem?}
use Rattle.qp_model.specs.declared.systems.System.{System}
use Rattle.qp_table.specs.Rule.{Holds}
use Rattle.qp_table.specs.declared.view.View.{View}
use Rattle.qp_core_steps.specs.declared.seats.Seat.{Seat}
use Rattle.qp_core_steps.specs.declared.ops.Op.{Op}
use Rattle.qp_core_steps.specs.Steps.{may_step, Steps_one}
use Rattle.qp_table.specs.Lane.{first_number}

-- a lane's view as a seat of the core, which adds records for object o: without the events that it read and the lane numbers that it may hand out
abbrev pub seat_of : ℕ → View → Seat
seat_of o v = record {
  number = first_number v.logs;
  stands = true;
  by = o;
  logs = v.logs;
  fresh = v.fresh;
  used = v.used;
  hands = v.hands;
  gives = v.gives;
  fills = v.fills;
  claims = v.claims;
  takes = v.takes;
  serves = v.serves;
  seen = record { list = v.seen };
}

-- This step of the core may be made there, where 49 seats have a lane of their own, and comes to the same words and the same view
pub record IsCoreStep (sys : System) (o : ℕ) (op : Op) (words : List ℕ) (v : View) (words' : List ℕ) (u : View) : Type 0 where
  pub may : may_step sys 49 words (seat_of o v) op ≡ true
  pub goes : Steps_one sys words (seat_of o v) op words' (seat_of o u)

-- Whatever state meets the rule before and after: where the word w was found as n and becomes f n, and the lane is told this, the step is `op n` of the core
abbrev pub AreCore : System → ℕ → View → ℕ → (ℕ → ℕ) → (ℕ → Op) → (ℕ → View → Type 0) → Type 0
AreCore sys o v w f op tells = (words : List ℕ) (views : List View) (id : ℕ) (u : View) → Holds sys words views → get_elem? views id ≡ some v
    → Holds sys (slice_set words w (f (slice_index words w))) (slice_set views id u) → tells (slice_index words w) u
    → IsCoreStep sys o (op (slice_index words w)) words v (slice_set words w (f (slice_index words w))) u
