-- The values that stand at keys, each with the fault that comes first in it.
use Rattle.std.specs.Prelude.{ℕ, ◌+◌, ℤ, pos, negsuc, nat_le, nat_lt, Bool, false, ◌&&◌, List, [], ◌∷◌, ◌++◌, length, if◌then◌else◌, Some, None, Ok}
use Rattle.std.specs.declared.option.Option.{Option}
use Rattle.std.specs.declared.result.Result.{Result}
use Rattle.std.specs.Option.{option_map, option_and_then}
use Rattle.toml.specs.Data.{Data, Items, no_items, item, Members, no_members, member, as_integer, as_str, as_bool, as_array, as_table}
use Rattle.qp_chart_names.specs.declared.place.Part.{Part}
use Rattle.qp_chart_names.specs.declared.place.Part.TheVariants.{Pos}
use Rattle.qp_chart_names.specs.Codes.{WRONG_KIND, RANGE, TOO_MANY}
use Rattle.qp_chart_names.specs.Faults.{Fault}
use Rattle.qp_system_tables.specs.Tree.{refuse}
use Rattle.qp_model.specs.Results.{◌>>=◌}
use Rattle.qp_system_tables.specs.Names.{is_name}

abbrev pub integer_within : ℕ → ℕ → List Part → ℤ → Result ℕ Fault
integer_within least most place (pos n) = if nat_le least n && nat_le n most then Ok n else refuse RANGE place
integer_within least most place (negsuc n) = refuse RANGE place

abbrev pub integer_in : ℕ → ℕ → List Part → Option ℤ → Result ℕ Fault
integer_in least most place None = refuse WRONG_KIND place
integer_in least most place (Some z) = integer_within least most place z

-- an integer from least to most
unfoldable pub integer_between : ℕ → ℕ → List Part → Data → Result ℕ Fault
integer_between least most place value = integer_in least most place (as_integer value)

-- a value of the key's kind
abbrev pub of_kind : {A : Type 0} → List Part → Option A → Result A Fault
of_kind place None = refuse WRONG_KIND place
of_kind place (Some x) = Ok x

-- a text that is a name
unfoldable pub allowed_name : List Part → List ℕ → Result (List ℕ) Fault
unfolding is_name
allowed_name place text = if is_name text then Ok text else refuse RANGE place

abbrev pub name_value : List Part → Option (List ℕ) → Result (List ℕ) Fault
name_value place None = refuse WRONG_KIND place
name_value place (Some text) = allowed_name place text

-- a name
unfoldable pub name_of : List Part → Data → Result (List ℕ) Fault
unfolding allowed_name
name_of place value = name_value place (as_str value)

abbrev pub short_text : List Part → Option (List ℕ) → Result (List ℕ) Fault
short_text place None = refuse WRONG_KIND place
short_text place (Some text) = if nat_le (length text) 200 then Ok text else refuse RANGE place

-- a text of at most 200 bytes
unfoldable pub text_value : List Part → Data → Result (List ℕ) Fault
text_value place value = short_text place (as_str value)

-- a boolean
unfoldable pub flag_value : List Part → Data → Result Bool Fault
flag_value place value = of_kind place (as_bool value)

-- both, if both stand
abbrev pub both_values : {A : Type 0} → Option A → Option (List A) → Option (List A)
both_values None more = None
both_values (Some x) more = option_map (λ xs. x ∷ xs) more

-- items that are all of one kind
unfoldable pub all_of_kind : {A : Type 0} → (Data → Option A) → Items → Option (List A)
all_of_kind as_kind no_items = Some []
all_of_kind as_kind (item value more) = both_values (as_kind value) (all_of_kind as_kind more)

-- texts of at most 200 bytes; the first has place k
unfoldable pub short_texts : List Part → ℕ → List (List ℕ) → Result (List (List ℕ)) Fault
short_texts place k [] = Ok []
short_texts place k (text ∷ more) =
    if nat_le (length text) 200 then (short_texts place (k + 1) more >>= λ texts. Ok (text ∷ texts)) else refuse RANGE (place ++ Pos k ∷ [])

abbrev pub some_texts : List Part → Option (List (List ℕ)) → Result (List (List ℕ)) Fault
some_texts place None = refuse WRONG_KIND place
some_texts place (Some texts) = if nat_le (length texts) 16 then short_texts place 1 texts else refuse TOO_MANY place

-- the items of a list, if all are of one kind
unfoldable pub items_of_kind : {A : Type 0} → (Data → Option A) → Data → Option (List A)
unfolding all_of_kind
items_of_kind as_kind value = option_and_then (λ items. all_of_kind as_kind items) (as_array value)

-- an action list: at most 16 texts of at most 200 bytes
unfoldable pub texts_of : List Part → Data → Result (List (List ℕ)) Fault
unfolding items_of_kind short_texts
texts_of place value = some_texts place (items_of_kind as_str value)

-- members whose values are all integers
unfoldable pub all_integers : Members → Option (List (List ℕ × ℤ))
all_integers no_members = Some []
all_integers (member name value more) = both_values (option_map (λ z. (name, z)) (as_integer value)) (all_integers more)

-- more than the limit, if there is one
abbrev pub is_above : Option ℕ → ℕ → Bool
is_above None n = false
is_above (Some most) n = nat_lt most n

-- variables, if all their keys are names
unfoldable pub named_vars : List Part → List (List ℕ × ℤ) → Result (List (List ℕ × ℤ)) Fault
unfolding allowed_name
named_vars place [] = Ok []
named_vars place (var ∷ more) = do
  name ← allowed_name place var.0
  vars ← named_vars place more
  Ok ((name, var.1) ∷ vars)

abbrev pub some_vars : Option ℕ → List Part → Option (List (List ℕ × ℤ)) → Result (List (List ℕ × ℤ)) Fault
some_vars most place None = refuse WRONG_KIND place
some_vars most place (Some vars) =
    if is_above most (length vars) then refuse TOO_MANY place else named_vars place vars

-- integers under names, at most so many where there is a limit
unfoldable pub vars_of : Option ℕ → List Part → Data → Result (List (List ℕ × ℤ)) Fault
unfolding all_integers named_vars
vars_of most place value = some_vars most place (option_and_then (λ members. all_integers members) (as_table value))

abbrev pub some_tables : ℕ → ℕ → List Part → Option (List Members) → Result (List Members) Fault
some_tables least most place None = refuse WRONG_KIND place
some_tables least most place (Some tables) = if nat_le least (length tables) && nat_le (length tables) most then Ok tables else refuse TOO_MANY place

-- a list of least to most tables
unfoldable pub tables_of : ℕ → ℕ → List Part → Data → Result (List Members) Fault
unfolding items_of_kind
tables_of least most place value = some_tables least most place (items_of_kind as_table value)
