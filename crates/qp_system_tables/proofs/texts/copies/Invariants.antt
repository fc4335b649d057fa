use Rattle.std.proofs.Common.{◌≡◌, ◌++◌, ◌∷◌, [], ◌+◌, map, drop}
use Rattle.qp_chart_names.specs.declared.place.Part.TheVariants.{Key}
use Rattle.qp_system_tables.specs.Values.{short_texts}
use Rattle.qp_system_tables.specs.Front.{with_front}
use Rattle.qp_system_tables.proofs.texts.copies.Given as goal

abbrev pub invariant-loop-i : goal.invariant-loop-i
invariant-loop-i l =
    with_front l.items.items (short_texts (l.place.at.now ++ Key l.place.key ∷ []) (l.i + 1) (map (λ s. s.now) (drop l.i l.texts)))
    ≡ short_texts (l.place.at.now ++ Key l.place.key ∷ []) 1 (map (λ s. s.now) l.texts)
