-- Reading a tree: a value, or the first fault.
use Rattle.std.specs.Prelude.{ℕ, ◌+◌, Bool, true, ◌&&◌, List, [], ◌∷◌, ◌++◌, if◌then◌else◌, Some, None, Ok, Err}
use Rattle.std.specs.declared.option.Option.{Option}
use Rattle.std.specs.declared.result.Result.{Result}
use Rattle.std.specs.List.{list_any}
use Rattle.std.specs.Str.{bytes_eq}
use Rattle.toml.specs.Data.{Data, Members, no_members, member, get_member}
use Rattle.qp_chart_names.specs.declared.place.Part.{Part}
use Rattle.qp_chart_names.specs.declared.place.Part.TheVariants.{Key, Pos}
use Rattle.qp_chart_names.specs.Codes.{MISSING, UNKNOWN}
use Rattle.qp_chart_names.specs.Paths.{key_word}
use Rattle.qp_chart_names.specs.Faults.{Fault}
use Rattle.qp_model.specs.Results.{◌>>=◌}

-- the fault of this code at this path
abbrev pub refuse : {A : Type 0} → ℕ → List Part → Result A Fault
refuse code path = Err (record { code = code; path = path })

-- the value at a key
unfoldable pub at_key : ℕ → Members → Option Data
unfolding key_word
at_key key table = get_member (key_word key) table

-- the word is that of one of the keys
unfoldable pub is_key : List ℕ → List ℕ → Bool
unfolding key_word
is_key keys word = list_any (λ key. bytes_eq word (key_word key)) keys

unfoldable pub all_known : List ℕ → Members → Bool
unfolding is_key
all_known keys no_members = true
all_known keys (member word value more) = is_key keys word && all_known keys more

-- a table has no keys but these
unfoldable pub knows_keys : List ℕ → List Part → Members → Result (Unit {0}) Fault
unfolding all_known
knows_keys keys at table = if all_known keys table then Ok tt else refuse UNKNOWN at

-- the reading of a value, at the path to it
abbrev pub DataReader : Type 0 → Type 0
DataReader A = List Part → Data → Result A Fault

abbrev pub needed_at : {A : Type 0} → DataReader A → List Part → Option Data → Result A Fault
needed_at read place None = refuse MISSING place
needed_at read place (Some value) = read place value

-- a key that has to stand
unfoldable pub needed : {A : Type 0} → DataReader A → ℕ → List Part → Members → Result A Fault
unfolding at_key
needed read key at table = needed_at read (at ++ Key key ∷ []) (at_key key table)

abbrev pub default_at : {A : Type 0} → A → DataReader A → List Part → Option Data → Result A Fault
default_at default read place None = Ok default
default_at default read place (Some value) = read place value

-- a key with a default
unfoldable pub defaulted : {A : Type 0} → A → DataReader A → ℕ → List Part → Members → Result A Fault
unfolding at_key
defaulted default read key at table = default_at default read (at ++ Key key ∷ []) (at_key key table)

abbrev pub optional_at : {A : Type 0} → DataReader A → List Part → Option Data → Result (Option A) Fault
optional_at read place None = Ok None
optional_at read place (Some value) = read place value >>= λ x. Ok (Some x)

-- a key that may be missing
unfoldable pub optional : {A : Type 0} → DataReader A → ℕ → List Part → Members → Result (Option A) Fault
unfolding at_key
optional read key at table = optional_at read (at ++ Key key ∷ []) (at_key key table)

-- each table of a list in turn; the first has place k
unfoldable pub each : {A : Type 0} → (List Part → Members → Result A Fault) → List Part → ℕ → List Members → Result (List A) Fault
each read place k [] = Ok []
each read place k (table ∷ more) = do
  x ← read (place ++ Pos k ∷ []) table
  xs ← each read place (k + 1) more
  Ok (x ∷ xs)
