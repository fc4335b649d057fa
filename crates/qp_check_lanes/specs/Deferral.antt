-- The deferred list of an object, kept by a lane's records.
use Rattle.std.specs.Prelude.{ℕ, ◌==◌, List, [], ◌∷◌, if◌then◌else◌, Some}
use Rattle.std.specs.declared.option.Option.{Option}
use Rattle.std.specs.Option.{option_and_then}
use Rattle.qp_model.specs.declared.bodies.Entry.{Entry}
use Rattle.qp_model.specs.Record.{Item}
use Rattle.qp_model.specs.Deferral.{keep}

-- a record of o keeps the list, one of another changes nothing
abbrev pub keep_own : ℕ → ℕ → List Entry → Item → Option (List Entry)
keep_own room o kept i = if i.of == o then keep room kept i.body else Some kept

-- the list after a lane's records, or None where one of them can't stand
unfoldable pub kept_on : ℕ → ℕ → List Entry → List Item → Option (List Entry)
unfolding keep
kept_on room o kept [] = Some kept
kept_on room o kept (i ∷ is) = option_and_then (λ next. kept_on room o next is) (keep_own room o kept i)
