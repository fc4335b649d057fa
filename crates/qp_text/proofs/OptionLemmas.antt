-- Values that are there.
use Rattle.std.proofs.Common.{◌≡◌, Option, Some, None, refl}
use Rattle.qp_text.specs.Numbers.{and_then}

-- a value that comes of another
pub and_then-some : {A B : Type 0} (o : Option A) (f : A → Option B) (y : B) → and_then o f ≡ Some y → (a : A) × (o ≡ Some a) × (f a ≡ Some y)
and_then-some None f y is = absurd cc
and_then-some (Some a) f y is = (a, refl, is)
