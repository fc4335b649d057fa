-- The keys of a table.
use Rattle.std.proofs.Common.{◌≡◌, ℕ, ◌&&◌, List, [], ◌∷◌, refl, ap, String, Global, string_bytes}
use Rattle.std.specs.List.{list_all}
use Rattle.std.specs.Map.{keys_of}
use Rattle.toml.specs.View.{members_view}
use Rattle.toml.specs.declared.value.Value.{Value}
use Rattle.qp_system_tables.specs.Tree.{is_key, all_known}

-- a table knows its keys if each of them is known
pub all_known-entries : (keys : List ℕ) (es : List (String Global × Value)) → all_known keys (members_view es) ≡ list_all (λ word. is_key keys (string_bytes word)) (keys_of es)
unfolding all_known
all_known-entries keys [] = refl
all_known-entries keys (e ∷ es) = ap (λ b. is_key keys (string_bytes e.0) && b) (all_known-entries keys es)
