-- The answer of a test whose question is a type.
use Rattle.std.specs.Prelude.{Bool, true, false}

-- the answer is true where it holds, and false where it doesn't
unfoldable pub Decides : Bool → Type 0 → Type 0
Decides true P = P
Decides false P = P → ⊥
