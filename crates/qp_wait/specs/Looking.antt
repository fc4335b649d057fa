-- The look that found a queue empty.
use Rattle.std.specs.Prelude.{◌≡◌, ℕ, ◌<◌, Bool, true, false, List, slice_get, Some, None}
use Rattle.std.specs.declared.option.Option.{Option}
use Rattle.std.specs.Option.{option_map_or}
use Rattle.qp_model.specs.Record.{Item}
use Rattle.qp_wait.specs.Parked.{is_empty_look}

-- such a look stands at this place
abbrev pub is_look_in : ℕ → List Item → ℕ → Bool
is_look_in me is n = option_map_or (λ i. is_empty_look me i.of i.body) (slice_get is n) false

-- and behind this place none does
abbrev pub IsLastLookAt : ℕ → List Item → Option ℕ → Type 0
IsLastLookAt me is None = (k : ℕ) → is_look_in me is k ≡ false
IsLastLookAt me is (Some n) = (is_look_in me is n ≡ true) × ((k : ℕ) → n < k → is_look_in me is k ≡ false)
