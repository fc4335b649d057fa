-- The references to a block.
use Rattle.std.specs.Prelude.{ℕ, ◌+◌, ◌==◌, Bool, false, ◌&&◌, List, [], ◌∷◌}
use Rattle.qp_model.specs.declared.bodies.Body.{Body}
use Rattle.qp_model.specs.declared.bodies.Body.TheVariants.{Inc, Dec}
use Rattle.qp_chart.specs.StateTree.{has}
use Rattle.qp_model.specs.Lists.{without_one}
use Rattle.qp_model.specs.Machine.{Machine}

pub record Refs : Type 0 where
  pub count : ℕ
  -- the references that stand, the newest first
  pub names : List ℕ

-- `inc` makes a reference, `dec` drops one
abbrev pub refs_next : Refs → Body → Refs
refs_next s (Inc p b r) = record { count = s.count + 1; names = r ∷ s.names }
refs_next s (Dec p b d k) = record { count = s.count + 1; names = without_one k s.names }
refs_next s _ = s

-- the reference dropped is one that stands
abbrev pub refs_may : Refs → Body → Bool
refs_may s (Inc p b r) = r == s.count
refs_may s (Dec p b d k) = (d == s.count) && has s.names k
refs_may s _ = false

-- no record shows a block's word
abbrev pub refs_says : Refs → Body → Bool
refs_says s b = false

abbrev pub references : Machine Refs
references = record {
  first = record { count = 0; names = [] };
  next = λ s i. refs_next s i.body;
  may = λ s i. refs_may s i.body;
  count = λ s. s.count;
  says = refs_says;
}
