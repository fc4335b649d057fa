-- Pools by their sizes, and members of sets.
use Rattle.std.proofs.Common.{◌≡◌, ◌≢◌, ℕ, zero, suc, ◌+◌, ◌-◌, ◌/◌, ◌%◌, ◌^◌, ◌<◌, ◌≤◌, ◌==◌, nat_le, true, false, List, [], ◌∷◌, map, Some, None, refl, subst, arith}
use Rattle.std.proofs.lemmas.Bool.Decides.{nat_tests}
use Rattle.std.specs.List.{position, position_or_len}
use Rattle.std.proofs.lemmas.List.{length-map}
use Rattle.qp_model.specs.declared.systems.PoolDef.{PoolDef}
use Rattle.qp_model.specs.Parts.{first_pool, members_below}
use Rattle.qp_check_calls.specs.CallStateNext.{is_of}

position_or_len-sizes : (n : ℕ) (ds : List PoolDef) → position_or_len (λ size. nat_le n size) (map (λ (d : PoolDef). d.size) ds) ≡ position_or_len (λ (d : PoolDef). nat_le n d.size) ds
position_or_len-sizes n [] = refl
position_or_len-sizes n (d ∷ ds) = rw (position_or_len-sizes n ds) refl

-- the first size that is large enough stands where the first such pool stands
pub position-sizes : (n : ℕ) (ds : List PoolDef) → position (λ size. nat_le n size) (map (λ (d : PoolDef). d.size) ds) ≡ position (λ (d : PoolDef). nat_le n d.size) ds
position-sizes n ds = rw (position_or_len-sizes n ds, length-map) refl

pub below-member : (n set : ℕ) → (((set / 2 ^ n) % 2) == 1) ≡ true → members_below (suc n) set ≡ suc n ∷ members_below n set
unfolding members_below
below-member n set h = rw h refl

pub below-none : (n set : ℕ) → (((set / 2 ^ n) % 2) == 1) ≡ false → members_below (suc n) set ≡ members_below n set
unfolding members_below
below-none n set h = rw h refl

-- the number of the first pool, by its place
pub first_pool-at : (ds : List PoolDef) (n i p : ℕ) → Some i ≡ position (λ (d : PoolDef). nat_le n d.size) ds
    → is_of (first_pool (map (λ (d : PoolDef). d.size) ds) n) p ≡ (i + 1 == p)
unfolding first_pool
first_pool-at ds n i p h = rw (position-sizes n ds, ← h) refl

pub first_pool-none : (ds : List PoolDef) (n p : ℕ) → None ≡ position (λ (d : PoolDef). nat_le n d.size) ds
    → is_of (first_pool (map (λ (d : PoolDef). d.size) ds) n) p ≡ false
unfolding first_pool
first_pool-none ds n p h = rw (position-sizes n ds, ← h) refl

-- the highest of the members that are left
pub members-first : (below set : ℕ) → 0 < below → (set / 2 ^ (below - 1)) % 2 ≡ 1 → members_below below set ≡ (below - 1 + 1) ∷ members_below (below - 1) set
members-first below set some h =
    let bit : (((set / 2 ^ (below - 1)) % 2) == 1) ≡ true = rw h refl in
    let up : suc (below - 1) ≡ below = omega (arith, some) in
    let one : below - 1 + 1 ≡ suc (below - 1) = omega arith in
    let first = below-member (below - 1) set bit in
    rw one (subst (λ n. members_below n set ≡ suc (below - 1) ∷ members_below (below - 1) set) up first)

pub members-later : (below set : ℕ) → 0 < below → ((set / 2 ^ (below - 1)) % 2 ≢ 1) → members_below below set ≡ members_below (below - 1) set
members-later below set some h =
    let bit : (((set / 2 ^ (below - 1)) % 2) == 1) ≡ false = grind (arith, nat_tests) in
    let up : suc (below - 1) ≡ below = omega (arith, some) in
    subst (λ n. members_below n set ≡ members_below (below - 1) set) up (below-none (below - 1) set bit)

pub members-none : (below set : ℕ) → below ≤ 0 → members_below below set ≡ []
unfolding members_below
members-none zero set h = refl
members-none (suc below) set h = absurd (omega (arith, h))
