-- The bytes of a file and the tree that they are.
use Rattle.std.proofs.Common.{◌≡◌, List, ℕ, Some, Ok, Err}
use Rattle.std.specs.declared.result.Result.{Result}
use Rattle.std.specs.Str.{IsUtf8}
use Rattle.toml.specs.Data.{Members}
use Rattle.toml.specs.Parse.{parse_document}
use Rattle.qp_system_tables.specs.declared.fault.SystemFault.{SystemFault}
use Rattle.qp_system_tables.specs.declared.fault.SystemFault.TheVariants.{Memory, NotToml, At}
use Rattle.qp_system_tables.specs.declared.raw.RawSystem.{RawSystem}
use Rattle.qp_system_tables.specs.Tables.{raw_of}
use Rattle.qp_system_tables.specs.Refused.{ReadsAs, ReadFails}
use Rattle.qp_system_tables.specs.Document.{TreeGives, RefusesBytes, FromBytes}

refused-tree : (e : SystemFault) (bytes : List ℕ) (tree : Members) → IsUtf8 bytes → parse_document bytes ≡ Some tree → ReadFails e (raw_of tree) → RefusesBytes e bytes
unfolding TreeGives
refused-tree Memory bytes tree utf8 parsed h = tt
refused-tree NotToml bytes tree utf8 parsed h = absurd h
refused-tree (At code path) bytes tree utf8 parsed h = (tree, utf8, parsed, h)

-- what reading a tree gives is what its bytes give
pub FromBytes-tree : (r : Result RawSystem SystemFault) (bytes : List ℕ) (tree : Members) → IsUtf8 bytes → parse_document bytes ≡ Some tree
    → ReadsAs (λ raw. raw) r (raw_of tree) → FromBytes r bytes
unfolding TreeGives
FromBytes-tree (Ok raw) bytes tree utf8 parsed h = (tree, utf8, parsed, h)
FromBytes-tree (Err e) bytes tree utf8 parsed h = refused-tree e bytes tree utf8 parsed h
