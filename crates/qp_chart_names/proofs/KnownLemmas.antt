-- Names among the variables.
use Rattle.std.proofs.Common.{ℕ, ◌≡◌, ◌||◌, List, [], ◌∷◌, nat_eq, refl, ap}
use Rattle.std.specs.List.{list_any}
use Rattle.std.specs.Cmp.Lexicographic.{pointwise}
use Rattle.qp_chart_text.specs.Terms.{Word}
use Rattle.qp_chart_names.specs.Known.{has_name, words, is_among}

pub any_named : (name : Word) (vars : List (List ℕ)) → list_any (has_name name) vars ≡ is_among (words vars) name
any_named name [] = refl
any_named name (v ∷ vars) = ap (λ b. pointwise nat_eq v name || b) (any_named name vars)
