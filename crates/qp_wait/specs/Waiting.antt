-- A turn that waits.
use Rattle.std.specs.Prelude.{◌≡◌, ◌⊎◌, ℕ, ◌+◌, ◌<◌, ◌≤◌, ◌%◌, ◌^◌, ◌==◌, min, Bool, true, false, List, ◌++◌, length, slice_get, Ok, Err}
use Rattle.std.specs.declared.result.Result.{Result}
use Rattle.std.specs.List.{count_by, list_any}
use Rattle.std.specs.Option.{option_map_or}
use Rattle.qp_model.specs.Ends.{is_nil}
use Rattle.qp_model.specs.Told.{ToldItem}
use Rattle.qp_dispatch.specs.declared.objects.Turn.{Turn}
use Rattle.qp_dispatch.specs.declared.objects.Turn.TheVariants as turn
use Rattle.qp_kernel_turns.specs.declared.halting.Halt.{Halt}
use Rattle.qp_model.specs.OutputSummary.{is_took}
use Rattle.qp_wait_bells.specs.Tallies.{one_where}
use Rattle.qp_wait.specs.declared.lane.BellLane.{BellLane}
use Rattle.qp_wait.specs.Lane.{bell_view, empty_looks, last_takes, openings}
use Rattle.qp_wait.specs.Parked.{parks_of}

abbrev pub is_nil_at : List ToldItem → ℕ → Bool
is_nil_at told n = option_map_or (λ t. is_nil t.told.body) (slice_get told n) false

abbrev pub holds_place : List ℕ → ℕ → Bool
holds_place ks n = list_any (λ k. k == n) ks

-- the steps that began
abbrev pub steps_in : List ToldItem → ℕ
steps_in ts = count_by (λ t. is_took t.told.body) ts

-- Within a turn, where the object rests: every step that began was closed, no look found nothing on the count, and each `nil` that it added stands among
-- its parks. So often it took the last one off (`left`); behind the first it said a farewell. `said` tells whether it has.
pub record IsWaiting (said : Bool) (old new : BellLane) : Type 0 where
  pub ts : List ToldItem
  pub told : (bell_view new).told ≡ (bell_view old).told ++ ts
  pub ended : new.closings.ended % 2 ^ 64 ≡ (old.closings.ended + steps_in ts) % 2 ^ 64
  pub added : openings new ≡ openings old
  pub looks : empty_looks new ≡ empty_looks old
  pub left : ℕ
  pub lasts : last_takes new ≡ last_takes old + left
  pub once : one_where said ≡ min left 1
  pub said_is : new.farewells.said % 2 ^ 64 ≡ (old.farewells.said + min left 1) % 2 ^ 64
  pub ks : List ℕ
  pub parks : parks_of new.perch ≡ parks_of old.perch ++ ks
  pub nils : (n : ℕ) → length (bell_view old).told ≤ n → is_nil_at (bell_view new).told n ≡ true → holds_place ks n ≡ true

-- What a turn leaves beside its lane. For each step that it finished one was taken off: for all that began, but for one that is still under way (`busy`).
-- One of its looks found nothing on the count where it is `over`, and none where it isn't. It said one farewell where it took the last one off, however
-- often (`left`), and so many `more`. Each `nil` that it added stands among its parks, or is its last.
pub record Waits (over busy : Bool) (more : ℕ) (old new : BellLane) : Type 0 where
  pub ts : List ToldItem
  pub told : (bell_view new).told ≡ (bell_view old).told ++ ts
  pub finished : ℕ
  pub steps : finished + one_where busy ≡ steps_in ts
  pub ended : new.closings.ended % 2 ^ 64 ≡ (old.closings.ended + finished) % 2 ^ 64
  pub added : openings new ≡ openings old
  pub looks : empty_looks new ≡ empty_looks old + one_where over
  pub left : ℕ
  pub lasts : last_takes new ≡ last_takes old + left
  pub said : new.farewells.said % 2 ^ 64 ≡ (old.farewells.said + (min left 1 + more)) % 2 ^ 64
  pub ks : List ℕ
  pub parks : parks_of new.perch ≡ parks_of old.perch ++ ks
  pub nils : (n : ℕ) → length (bell_view old).told ≤ n → is_nil_at (bell_view new).told n ≡ true
      → (holds_place ks n ≡ true) ⊎ ((k : ℕ) → n < k → is_nil_at (bell_view new).told k ≡ false)

-- the turn is over, or it stops
abbrev pub RoundWaits : Result (Unit {0}) Halt → Bool → BellLane → BellLane → Type 0
RoundWaits (Ok u) busy old new = Waits true busy 0 old new
RoundWaits (Err h) busy old new = Waits false busy 0 old new

-- where it stops a farewell is said
abbrev pub TurnWaits : Turn → Bool → BellLane → BellLane → Type 0
TurnWaits turn.Idle busy old new = Waits true busy 0 old new
TurnWaits turn.Stopped busy old new = Waits false busy 1 old new
TurnWaits turn.Memory busy old new = Waits false busy 1 old new
