-- A set of objects, as a list and as bits.
use Rattle.std.specs.Prelude.{ℕ, nat_lt, nat_le, Bool, true, not, ◌&&◌, List, [], ◌∷◌}
use Rattle.qp_chart.specs.StateTree.{has}

-- each is from 1 to 32, and stands once
unfoldable pub are_members : List ℕ → Bool
are_members [] = true
are_members (p ∷ ps) = (nat_lt 0 p && nat_le p 32) && (not (has ps p) && are_members ps)
