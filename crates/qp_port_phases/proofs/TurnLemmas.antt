-- Turns of two rows of workers, one row behind the other.
use Rattle.std.specs.Prelude.{List, [], ◌∷◌, ◌++◌}
use Rattle.qp_port_phases.specs.Turns.{TurnEach}

pub turn_each-append : {T : Type 0} → (Turned : T → T → Type 0) → (xs ys us vs : List T) → TurnEach Turned xs ys → TurnEach Turned us vs
    → TurnEach Turned (xs ++ us) (ys ++ vs)
turn_each-append Turned [] [] us vs a b = b
turn_each-append Turned (x ∷ xs) (y ∷ ys) us vs a b = (a.0, turn_each-append Turned xs ys us vs a.1 b)
turn_each-append Turned [] (y ∷ ys) us vs a b = absurd a
turn_each-append Turned (x ∷ xs) [] us vs a b = absurd a
