-- The ceiling of a publication.
use Rattle.std.specs.Prelude.{ℕ, max, List, [], ◌∷◌, Some, None}
use Rattle.std.specs.declared.option.Option.{Option}

-- raised to the highest member; nothing is raised where there is none
abbrev pub raised_to : ℕ → List ℕ → Option ℕ
raised_to former [] = None
raised_to former (a ∷ others) = Some (max former a)
