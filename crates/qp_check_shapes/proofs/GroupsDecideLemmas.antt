-- Answers of tests whose questions are types.
use Rattle.std.proofs.Common.{◌≡◌, Bool, true, false}
use Rattle.qp_check_calls.specs.Decides.{Decides}

pub decides-yes : (P : Type 0) → P → Decides true P
unfolding Decides
decides-yes P h = h

pub decides-no : (P : Type 0) → (P → ⊥) → Decides false P
unfolding Decides
decides-no P h = h

pub decided : (P : Type 0) (b : Bool) → Decides b P → b ≡ true → P
unfolding Decides
decided P true d is = d
decided P false d is = absurd (cc)

pub denied : (P : Type 0) (b : Bool) → Decides b P → b ≡ false → P → ⊥
unfolding Decides
denied P true d is = absurd (cc)
denied P false d is = d

-- the same answer to a question that holds just where the other does
pub decides-as : (P Q : Type 0) (b : Bool) → (P → Q) → (Q → P) → Decides b P → Decides b Q
unfolding Decides
decides-as P Q true f g d = f d
decides-as P Q false f g d = λ q. d (g q)
