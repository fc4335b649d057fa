use Rattle.std.proofs.Common.{◌≡◌, ◌++◌, ◌∷◌, [], map, drop}
use Rattle.qp_chart_names.specs.declared.place.Part.TheVariants.{Key}
use Rattle.qp_system_tables.specs.Values.{named_vars}
use Rattle.qp_system_tables.specs.Front.{with_front}
use Rattle.qp_system_tables.proofs.vars.named.Given as goal

abbrev pub invariant-loop-text : goal.invariant-loop-text
invariant-loop-text l =
    with_front l.items.items (named_vars (l.place.at.now ++ Key l.place.key ∷ []) (map (λ x. (x.0.now, x.1)) (drop l.text-index l.vars)))
    ≡ named_vars (l.place.at.now ++ Key l.place.key ∷ []) (map (λ x. (x.0.now, x.1)) l.vars)
