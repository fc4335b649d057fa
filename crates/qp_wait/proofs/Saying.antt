-- Farewells by all cords, and ropes one behind another.
use Rattle.std.proofs.Common.{◌≡◌, ℕ, ◌+◌, ◌%◌, ◌^◌, ◌==◌, true, List, [], ◌∷◌, ◌++◌, map, get_or, drop, refl, ◌∙◌, ap, arith}
use Rattle.std.proofs.lemmas.Bool.{and_from, and_parts}
use Rattle.std.proofs.lemmas.Bool.Decides.{nat_tests}
use Rattle.qp_wait_rings.specs.declared.cord.Cord.{Cord}
use Rattle.qp_wait.specs.declared.hanging.Waking.{Waking}
use Rattle.qp_wait.specs.declared.hanging.Rope.{Rope}
use Rattle.qp_wait.specs.Parked.{have_all}
use Rattle.qp_wait.specs.Ropes.{AreRopes, IsRopeOf}
use Rattle.qp_wait.proofs.FoundEmpty.{same-test}

-- each gave one note more
pub all-said : (n : ℕ) (cs ds : List Cord) → have_all n cs ≡ true → map (λ c. c.pulls) ds ≡ map (λ c. (c.pulls + 1) % 2 ^ 64) cs → have_all ((n + 1) % 2 ^ 64) ds ≡ true
all-said n [] [] h more = refl
all-said n [] (d ∷ ds) h more = absurd (cc)
all-said n (c ∷ cs) [] h more = absurd (cc)
all-said n (c ∷ cs) (d ∷ ds) h more =
    let parts = and_parts (c.pulls == n) (have_all n cs) h in
    let was = parts.0 in
    let same : c.pulls ≡ n = grind (arith, nat_tests, was) in
    let one : d.pulls ≡ (c.pulls + 1) % 2 ^ 64 = ap (λ xs. get_or xs 0 0) more in
    let rest : map (λ x. x.pulls) ds ≡ map (λ x. (x.pulls + 1) % 2 ^ 64) cs = ap (drop 1) more in
    and_from (d.pulls == (n + 1) % 2 ^ 64) (have_all ((n + 1) % 2 ^ 64) ds) (same-test d.pulls ((n + 1) % 2 ^ 64) (one ∙ ap (λ k. (k + 1) % 2 ^ 64) same)) (all-said n cs ds parts.1 rest)

-- one rope more
pub ropes-last : (ws : List Waking) (rs : List Rope) (w : Waking) (r : Rope) → IsRopeOf w r → AreRopes ws rs → AreRopes (ws ++ w ∷ []) (rs ++ r ∷ [])
ropes-last [] [] w r one all = (one, tt)
ropes-last (v ∷ ws) (q ∷ rs) w r one all = (all.0, ropes-last ws rs w r one all.1)
ropes-last [] (q ∷ rs) w r one all = absurd all
ropes-last (v ∷ ws) [] w r one all = absurd all
