-- How often tokens occur.
use Rattle.std.specs.Prelude.{ℕ, ◌+◌, Bool, true, false, List, [], ◌∷◌}
use Rattle.qp_calls.specs.Tokens.{Token, same_token}

abbrev pub one_if : Bool → ℕ
one_if true = 1
one_if false = 0

-- how many items pass the test
unfoldable pub times : {X : Type 0} → (X → Bool) → List X → ℕ
times p [] = 0
times p (x ∷ xs) = one_if (p x) + times p xs

-- how often the token is there
abbrev pub count_of : Token → List Token → ℕ
count_of t hands = times (λ x. same_token t x) hands
