-- Sums over views, where one changes, one is split off, or one is taken in.
use Rattle.std.proofs.Common.{◌≡◌, ℕ, zero, suc, ◌+◌, List, [], ◌∷◌, ◌++◌, set, sym, ap, arith}
use mathlib.Core.Option.{some, some-injective, some-ne-none}
use lib.ListN.{get_elem?}
use Rattle.qp_wait_bells.specs.Tallies.{tally_sum}

pub total-set : {V : Type 0} (f : V → ℕ) (vs : List V) (i : ℕ) (v w : V) → get_elem? vs i ≡ some v → tally_sum f (set vs i w) + f v ≡ tally_sum f vs + f w
total-set f [] i v w at = absurd (some-ne-none v (sym at))
total-set f (x ∷ xs) zero v w at = let same : f x ≡ f v = ap f (some-injective x v at) in omega (arith, same)
total-set f (x ∷ xs) (suc i) v w at = let later = total-set f xs i v w at in omega (arith, later)

pub total-last : {V : Type 0} (f : V → ℕ) (vs : List V) (w : V) → tally_sum f (vs ++ w ∷ []) ≡ tally_sum f vs + f w
total-last f [] w = omega arith
total-last f (x ∷ xs) w = let later = total-last f xs w in omega (arith, later)
