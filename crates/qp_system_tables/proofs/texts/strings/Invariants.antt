use Rattle.std.proofs.Common.{◌≡◌, ◌++◌, map, drop}
use Rattle.std.specs.Option.{option_map}
use Rattle.toml.specs.Data.{as_str}
use Rattle.toml.specs.View.{items_view}
use Rattle.qp_system_tables.specs.Values.{all_of_kind}
use Rattle.qp_system_tables.proofs.texts.strings.Given as goal

abbrev pub invariant-loop-item : goal.invariant-loop-item
invariant-loop-item l =
    option_map (λ rest. map (λ s. s.now) l.texts.items ++ rest) (all_of_kind as_str (items_view (drop l.item-index l.items))) ≡ all_of_kind as_str (items_view l.items)
