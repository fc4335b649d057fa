-- Answers of tests whose questions are types.
use Rattle.std.proofs.Common.{◌≡◌, Bool, true, false, refl, IsTrue, ◌↔◌}
use Rattle.qp_check_calls.specs.Decides.{Decides}

-- a test that says when it is true
pub decides-where : (P : Type 0) (b : Bool) → IsTrue b ↔ P → Decides b P
unfolding Decides
decides-where P true h = h.0 refl
decides-where P false h = λ p. let bad : false ≡ true = h.1 p in let absent : ⊥ = cc in absent
