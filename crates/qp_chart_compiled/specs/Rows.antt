-- The rows that may handle an event, and which of them does.
use Rattle.std.specs.Prelude.{ℕ, ◌+◌, ◌%◌, ◌==◌, Bool, false, ◌&&◌, List, [], ◌∷◌, ◌++◌, if◌then◌else◌, Some, None}
use Rattle.std.specs.declared.option.Option.{Option}
use Rattle.qp_chart.specs.declared.checked.Row.{Row}
use Rattle.qp_chart.specs.declared.checked.Chart.{Chart}
use Rattle.qp_chart.specs.Expr.{Names}
use Rattle.qp_chart.specs.StateTree.{state_at}
use Rattle.qp_chart.specs.Handler.{Handler, passes, rows_of}
use Rattle.qp_chart_compiled.specs.declared.agenda.Plan.{Plan}
use Rattle.qp_chart_compiled.specs.declared.choice.Choice.{Choice}
use Rattle.qp_chart_compiled.specs.Codes.{row_at}

-- the rows of a state, with their places counted from k
unfoldable pub rows_from : ℕ → ℕ → List Row → List Handler
rows_from s k [] = []
rows_from s k (row ∷ rows) = record { state = s; place = k; row = row } ∷ rows_from s (k + 1) rows

-- the rows of all states of a path, in order
unfoldable pub rows_on : Chart → List ℕ → List Handler
unfolding rows_from state_at
rows_on chart [] = []
rows_on chart (s ∷ outer) = rows_from s 1 (rows_of (state_at chart s)) ++ rows_on chart outer

-- the signal of the row leaves this rest
abbrev pub leaves_rest : (width rest : ℕ) → Handler → Bool
leaves_rest width rest h = (h.row.on % width) == rest

-- the row is for the signal, and its guard passes
abbrev pub is_open : Names → ℕ → Row → Bool
is_open names sig row = (row.on == sig) && passes names row.when

-- the same, of a row that the chart may not have
abbrev pub is_open_at : Names → ℕ → Option Row → Bool
is_open_at names sig None = false
is_open_at names sig (Some row) = is_open names sig row

-- what the first choice with an open row does
unfoldable pub first_open : Chart → Names → ℕ → List Choice → Option Plan
unfolding row_at passes
first_open chart names sig [] = None
first_open chart names sig (choice ∷ choices) =
    if is_open_at names sig (row_at chart choice.state choice.place) then Some choice.plan else first_open chart names sig choices
