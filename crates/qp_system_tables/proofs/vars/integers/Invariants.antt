use Rattle.std.proofs.Common.{◌≡◌, ◌++◌, map}
use Rattle.std.specs.Option.{option_map}
use Rattle.toml.specs.View.{members_view, table_view}
use Rattle.qp_system_tables.specs.Values.{all_integers}
use Rattle.qp_system_tables.proofs.vars.integers.Given as goal

abbrev pub invariant-loop-name : goal.invariant-loop-name
invariant-loop-name l = record {
  can : (goal.iterator-loop-name).can_next l.name-iterator;
  finite : (goal.iterator-loop-name).is_finite l.name-iterator;
  same : option_map (λ rest. map (λ x. (x.0.now, x.1)) l.vars.items ++ rest) (all_integers (members_view l.name-iterator)) ≡ all_integers (table_view l.table);
}
