-- Which row of which state handles an event.
use Rattle.std.specs.Prelude.{ℕ, ◌+◌, ◌==◌, Bool, true, ◌&&◌, List, [], ◌∷◌, if◌then◌else◌}
use Rattle.std.specs.Prelude.{Some, None}
use Rattle.std.specs.declared.option.Option.{Option}
use Rattle.qp_chart.specs.declared.expression.Bound.{Bound}
use Rattle.qp_chart.specs.declared.checked.Row.{Row}
use Rattle.qp_chart.specs.declared.checked.State.{State}
use Rattle.qp_chart.specs.declared.checked.Chart.{Chart}
use Rattle.qp_chart.specs.Expr.{Names, value_of, is_truth}
use Rattle.qp_chart.specs.StateTree.{state_at, up}

-- a row of a state, with its place there, from 1
pub record Handler : Type 0 where
  pub state : ℕ
  pub place : ℕ
  pub row : Row

-- the guard isn't 0; a missing guard counts as 1
unfoldable pub passes : Names → Option Bound → Bool
unfolding value_of
passes names None = true
passes names (Some guard) = is_truth (value_of names guard)

-- the first row for the signal whose guard passes, and its place, counted from k
unfoldable pub first_row : Names → ℕ → ℕ → List Row → Option (ℕ × Row)
unfolding passes
first_row names sig k [] = None
first_row names sig k (row ∷ rows) =
    if (row.on == sig) && passes names row.when then Some (k, row) else first_row names sig (k + 1) rows

-- the row found at state s, or else what the states around it have
abbrev pub handler_at : ℕ → Option (ℕ × Row) → Option Handler → Option Handler
handler_at s None outer = outer
handler_at s (Some found) outer = Some (record { state = s; place = found.0; row = found.1 })

abbrev pub rows_of : Option State → List Row
rows_of None = []
rows_of (Some s) = s.row

-- the first state of the path that has such a row, with its first such row
unfoldable pub handler_on : Chart → Names → ℕ → List ℕ → Option Handler
unfolding first_row state_at
handler_on chart names sig [] = None
handler_on chart names sig (s ∷ outer) =
    handler_at s (first_row names sig 1 (rows_of (state_at chart s))) (handler_on chart names sig outer)

-- what handles the signal where the leaf is the current state, or None
unfoldable pub handler : Chart → Names → ℕ → ℕ → Option Handler
unfolding handler_on up
handler chart names sig leaf = handler_on chart names sig (up chart leaf)
