-- A row that was found, as the definition of handlers sees it.
use Rattle.std.specs.Prelude.{ℕ}
use Rattle.std.specs.Borrow.{Bor}
use Rattle.std.specs.Option.{option_map}
use Rattle.std.specs.declared.option.Option.{Option}
use Rattle.qp_chart.specs.declared.checked.Row.{Row}

abbrev pub as_row_place : Option (ℕ × Bor Row) → Option (ℕ × Row)
as_row_place found = option_map (λ f. (f.0, f.1.now)) found
