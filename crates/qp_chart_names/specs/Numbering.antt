-- Numbers of named things.
use Rattle.std.specs.Prelude.{◌≡◌, ℕ, ◌+◌, Bool, List, [], ◌∷◌, Some, None, if◌then◌else◌}
use Rattle.std.specs.declared.option.Option.{Option}
use Rattle.std.specs.Option.{is_none, option_or}
use Rattle.std.specs.Str.{bytes_eq}
use Rattle.std.specs.Ordering.{nat_cmp}
use Rattle.std.specs.Cmp.Lexicographic.{slice_cmp}
use Rattle.std.specs.BTreeMap.{get_by}
use Rattle.qp_chart_names.specs.declared.places.NumbersByName.{NumbersByName}

-- the number of the first thing with this name, where the things are numbered from k
unfoldable pub number_in : ℕ → List (List ℕ) → List ℕ → Option ℕ
number_in k [] name = None
number_in k (x ∷ xs) name = if bytes_eq name x then Some k else number_in (k + 1) xs name

-- the number that a table has for a name
unfoldable pub number_of_name : NumbersByName → List ℕ → Option ℕ
number_of_name places name = get_by (λ k. slice_cmp nat_cmp name k) places.map

-- the table numbers these names from k, in order
abbrev pub IsNumbering : ℕ → List (List ℕ) → NumbersByName → Type 0
IsNumbering k names places = (name : List ℕ) → number_of_name places name ≡ number_in k names name

-- a table with a name more, which counts only where the table hasn't got it
pub record AddsName (old new : NumbersByName) (name : List ℕ) (number : ℕ) (added : Bool) : Type 0 where
  pub fresh : added ≡ is_none (number_of_name old name)
  pub numbers : (q : List ℕ) → number_of_name new q ≡ option_or (number_of_name old q) (if bytes_eq q name then Some number else None)
