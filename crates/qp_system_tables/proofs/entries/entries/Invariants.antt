use Rattle.std.proofs.Common.{◌≡◌, ◌++◌, ◌∷◌, [], ◌+◌, map, drop}
use Rattle.qp_chart_names.specs.declared.place.Part.TheVariants.{Key}
use Rattle.qp_system_tables.specs.Tree.{each}
use Rattle.qp_system_tables.specs.Front.{with_front, table_members}
use Rattle.qp_system_tables.proofs.entries.entries.Given as goal

abbrev pub invariant-loop-i : goal.invariant-loop-i
invariant-loop-i g l =
    with_front l.items.items (each g.T.TableEntry.reading (l.place.at.now ++ Key l.place.key ∷ []) (l.i + 1) (map table_members (drop l.i l.tables)))
    ≡ each g.T.TableEntry.reading (l.place.at.now ++ Key l.place.key ∷ []) 1 (map table_members l.tables)
