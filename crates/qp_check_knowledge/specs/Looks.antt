-- Looks that count as records of the object whose queue they show.
use Rattle.std.specs.Prelude.{ℕ, Bool, true, false}
use Rattle.qp_model.specs.Record.{Item}
use Rattle.qp_model.specs.Home.{as_own}

-- a record of the lane of o; where looks count, a look at its queue is one of o
abbrev pub as_look_of : Bool → ℕ → Item → Item
as_look_of false o i = i
as_look_of true o i = as_own o i
