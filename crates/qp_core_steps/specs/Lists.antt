-- Lists without an item.
use Rattle.std.specs.Prelude.{ℕ, List, Some, None}
use Rattle.std.specs.declared.option.Option.{Option}
use Rattle.std.specs.List.{remove}

-- the list without the item at this place
abbrev pub removed : {A : Type 0} → List A → Option ℕ → List A
removed xs None = xs
removed xs (Some i) = remove xs i
