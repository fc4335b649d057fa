-- Which source is chosen to act.
use Rattle.std.specs.Prelude.{◌≡◌, ℕ, ◌+◌, ◌-◌, ◌<◌, nat_lt, Bool, true, false, List, [], length, drop, get_or, if◌then◌else◌, Some, None}
use Rattle.std.specs.declared.option.Option.{Option}
use Rattle.qp_model.specs.declared.stimulus.Stim.{Stim}
use Rattle.qp_model.specs.OneOrder.{may_act}

-- what the source in this place, from 0, has left
abbrev pub left_of : List (List Stim) → List ℕ → ℕ → List Stim
left_of plan begun k = drop (get_or begun k 0) (get_or plan k [])

-- the place, of n in a cycle, that comes so many places behind that of the source that acted last
abbrev pub place_after : ℕ → ℕ → ℕ → ℕ
place_after last n k = if nat_lt (last + k) n then last + k else last + k - n

-- whether the source in that place may act
abbrev pub may_there : Bool → List (List Stim) → List ℕ → ℕ → ℕ → Bool
may_there rests plan begun last k = may_act rests (left_of plan begun (place_after last (length plan) k))

-- the first that may
pub record IsFirstThere (rests : Bool) (plan : List (List Stim)) (begun : List ℕ) (last j : ℕ) : Type 0 where
  pub turn : ℕ
  pub few : turn < length plan
  pub its : j ≡ place_after last (length plan) turn
  pub may : may_there rests plan begun last turn ≡ true
  pub before : (i : ℕ) → i < turn → may_there rests plan begun last i ≡ false

-- the place of the source that is chosen; none is where none may act
abbrev pub IsChosen : Bool → List (List Stim) → List ℕ → ℕ → Option ℕ → Type 0
IsChosen rests plan begun last None = (i : ℕ) → i < length plan → may_there rests plan begun last i ≡ false
IsChosen rests plan begun last (Some j) = IsFirstThere rests plan begun last j
