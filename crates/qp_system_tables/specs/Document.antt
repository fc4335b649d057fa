-- What the bytes of a system file give.
use Rattle.std.specs.Prelude.{◌≡◌, List, ℕ, Some, None, Ok, Err, ⊤}
use Rattle.std.specs.declared.result.Result.{Result}
use Rattle.std.specs.Str.{IsUtf8}
use Rattle.toml.specs.Data.{Members}
use Rattle.toml.specs.Parse.{parse_document}
use Rattle.qp_chart_names.specs.Faults.{Fault}
use Rattle.qp_system_tables.specs.declared.fault.SystemFault.{SystemFault}
use Rattle.qp_system_tables.specs.declared.fault.SystemFault.TheVariants.{Memory, NotToml, At}
use Rattle.qp_system_tables.specs.declared.raw.RawSystem.{RawSystem}
use Rattle.qp_system_tables.specs.Tables.{raw_of}

-- the bytes are the TOML text of a tree that reading takes to this
unfoldable pub TreeGives : List ℕ → Result RawSystem Fault → Type 0
TreeGives bytes read = (tree : Members) × IsUtf8 bytes × (parse_document bytes ≡ Some tree) × (raw_of tree ≡ read)

abbrev pub RefusesBytes : SystemFault → List ℕ → Type 0
RefusesBytes Memory bytes = ⊤
RefusesBytes NotToml bytes = IsUtf8 bytes → parse_document bytes ≡ None
RefusesBytes (At code path) bytes = TreeGives bytes (Err (record { code = code; path = path.0.items }))

-- the tables of the bytes, or why there are none, unless memory ran out
abbrev pub FromBytes : Result RawSystem SystemFault → List ℕ → Type 0
FromBytes (Ok raw) bytes = TreeGives bytes (Ok raw)
FromBytes (Err fault) bytes = RefusesBytes fault bytes
