-- Values that may be absent.
use Rattle.std.specs.Prelude.{ℕ, ◌==◌, Bool, true, false, Some, None}
use Rattle.std.specs.declared.option.Option.{Option}

-- the value, if it may be
abbrev pub allowed : {A : Type 0} → Bool → A → Option A
allowed true x = Some x
allowed false x = None

-- the number is there, and is this one
abbrev pub is_this_number : ℕ → Option ℕ → Bool
is_this_number k None = false
is_this_number k (Some n) = n == k
