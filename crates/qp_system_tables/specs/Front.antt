-- What was read before the rest.
use Rattle.std.specs.Prelude.{List, ◌++◌, Ok, String}
use Rattle.std.specs.BTreeMap.{BTreeMap}
use Rattle.std.specs.declared.alloc.Global.{Global}
use denote.Ref.{Bor}
use Rattle.toml.specs.Data.{Members}
use Rattle.toml.specs.View.{table_view}
use Rattle.toml.specs.declared.value.Value.{Value}
use Rattle.std.specs.declared.result.Result.{Result}
use Rattle.qp_chart_names.specs.Faults.{Fault}
use Rattle.qp_model.specs.Results.{◌>>=◌}

-- things that were read, before those that reading gives
abbrev pub with_front : {A : Type 0} → List A → Result (List A) Fault → Result (List A) Fault
with_front front read = read >>= λ rest. Ok (front ++ rest)

-- a table as the program has it
abbrev pub Table : Type 0
Table = BTreeMap (String Global) Value

-- a table's members
abbrev pub table_members : Bor Table → Members
table_members table = table_view table.now
