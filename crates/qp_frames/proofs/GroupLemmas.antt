-- Numbers in groups of seven bits.
use Rattle.std.proofs.Common.{◌≡◌, ℕ, suc, ◌+◌, ◌-◌, ◌/◌, ◌%◌, ◌<◌, ◌≤◌, [], ◌∷◌, refl, arith}
use Rattle.std.specs.Prelude.{nat_lt, true, false}
use Rattle.std.proofs.lemmas.Bool.Decides.{nat_tests}
use Rattle.qp_model.specs.OutputFrames.{groups}

-- a number of one group
pub groups-small : (left n : ℕ) → n < 128 → groups (suc left) n ≡ n ∷ []
unfolding groups
groups-small left n small =
    let test : nat_lt n 128 ≡ true = grind (arith, nat_tests) in
    rw test refl

-- a number of more groups
pub groups-large : (left n : ℕ) → 128 ≤ n → groups (suc left) n ≡ (n % 128 + 128) ∷ groups left (n / 128)
unfolding groups
groups-large left n large =
    let test : nat_lt n 128 ≡ false = grind (arith, nat_tests) in
    rw test refl

-- the same by the place of the group
pub groups-last : (place n : ℕ) → place < 10 → n < 128 → groups (10 - place) n ≡ n ∷ []
groups-last place n early small =
    let one : 10 - place ≡ suc (10 - (place + 1)) = omega arith in
    rw one (groups-small (10 - (place + 1)) n small)

pub groups-next : (place n : ℕ) → place < 10 → 128 ≤ n → groups (10 - place) n ≡ (n % 128 + 128) ∷ groups (10 - (place + 1)) (n / 128)
groups-next place n early large =
    let one : 10 - place ≡ suc (10 - (place + 1)) = omega arith in
    rw one (groups-large (10 - (place + 1)) n large)

-- no group is left
pub groups-none : (place n : ℕ) → 10 ≤ place → groups (10 - place) n ≡ []
unfolding groups
groups-none place n past =
    let none : 10 - place ≡ 0 = omega arith in
    rw none refl
