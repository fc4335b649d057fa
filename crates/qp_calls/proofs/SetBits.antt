-- The members of a set by its highest bit.
use Rattle.std.proofs.Common.{◌≡◌, ℕ, zero, suc, ◌+◌, ◌-◌, ◌*◌, ◌/◌, ◌%◌, ◌^◌, ◌==◌, ◌<◌, ◌≤◌, false, List, ◌∷◌, refl, sym, ◌∙◌, ap, subst, arith, lit<}
use Rattle.std.proofs.Math.Nat.{add-mul-div_left, add-mul-mod_self_left, div-eq_of_lt, mod-eq_of_lt, mul_comm, pow-le-pow_right, one-le-pow, two-pow-succ}
use Rattle.std.proofs.lemmas.Nat.{leading_top, pow-add}
use Rattle.std.specs.Int.Count.{count_leading_zeros}
use Rattle.qp_model.specs.Parts.{members, members_below}

bit-of : (q : ℕ) → q ≡ 0 → (q % 2 == 1) ≡ false
bit-of q h = rw h refl

-- bits above the highest
members-low : (k j a : ℕ) → a < 2 ^ k → members_below (k + j) a ≡ members_below k a
unfolding members_below
members-low k zero a h = ap (λ n. members_below n a) (omega arith)
members-low k (suc j) a h =
    let up : k + suc j ≡ suc (k + j) = omega arith in
    let le : k ≤ k + j = omega arith in
    let grows : 2 ^ k ≤ 2 ^ (k + j) = pow-le-pow_right (lit< tt) le in
    let lt : a < 2 ^ (k + j) = omega (arith, grows) in
    let none : a / 2 ^ (k + j) ≡ 0 = div-eq_of_lt lt in
    rw (up, none) (members-low k j a h)

-- an even number more
odd-same : (q j : ℕ) → ((q + 2 ^ suc j) % 2 == 1) ≡ (q % 2 == 1)
odd-same q j =
    let twice : 2 ^ suc j ≡ 2 * 2 ^ j = omega (arith, two-pow-succ j) in
    rw (twice, add-mul-mod_self_left q 2 (2 ^ j)) refl

bit-same : (n j r : ℕ) → ((r + 2 ^ (suc j + n)) / 2 ^ n % 2 == 1) ≡ (r / 2 ^ n % 2 == 1)
bit-same n j r =
    let some : 0 < 2 ^ n = one-le-pow n 2 (lit< tt) in
    let split : 2 ^ (suc j + n) ≡ 2 ^ n * 2 ^ suc j = pow-add 2 (suc j) n ∙ mul_comm (2 ^ suc j) (2 ^ n) in
    rw (split, add-mul-div_left r (2 ^ suc j) some) (odd-same (r / 2 ^ n) j)

-- bits below one that is added
members-same : (n k r : ℕ) → n ≤ k → members_below n (r + 2 ^ k) ≡ members_below n r
unfolding members_below
members-same zero k r h = refl
members-same (suc n) k r h =
    let le : n ≤ k = omega arith in
    let is : suc (k - suc n) + n ≡ k = omega arith in
    let bit : ((r + 2 ^ k) / 2 ^ n % 2 == 1) ≡ (r / 2 ^ n % 2 == 1) = subst (λ x. ((r + 2 ^ x) / 2 ^ n % 2 == 1) ≡ (r / 2 ^ n % 2 == 1)) is (bit-same n (k - suc n) r) in
    rw (bit, members-same n k r le) refl

div-one : (r m : ℕ) → 0 < m → r < m → (r + m) / m ≡ 1
div-one r m some lt =
    let once : r + m ≡ r + m * 1 = omega arith in
    let none : r / m ≡ 0 = div-eq_of_lt lt in
    rw (once, add-mul-div_left r 1 some, none) refl

members-top : (j a : ℕ) → a / 2 ^ j ≡ 1 → members_below (suc j) a ≡ suc j ∷ members_below j a
unfolding members_below
members-top j a once = rw once refl

pub members-highest : (a j : ℕ) → 2 ^ j ≤ a → a < 2 ^ suc j → suc j ≤ 32 → members a ≡ suc j ∷ members (a - 2 ^ j)
unfolding members
members-highest a j low high few =
    let r = a - 2 ^ j in
    let is : r + 2 ^ j ≡ a = omega arith in
    let small : r < 2 ^ j = omega (arith, two-pow-succ j) in
    let all : suc j + (32 - suc j) ≡ 32 = omega arith in
    let below : j + (32 - j) ≡ 32 = omega arith in
    let some : 0 < 2 ^ j = one-le-pow j 2 (lit< tt) in
    let once : a / 2 ^ j ≡ 1 = subst (λ x. x / 2 ^ j ≡ 1) is (div-one r (2 ^ j) some small) in
    let front : members_below 32 a ≡ members_below (suc j) a = subst (λ n. members_below n a ≡ members_below (suc j) a) all (members-low (suc j) (32 - suc j) a high) in
    let rest : members_below 32 r ≡ members_below j r = subst (λ n. members_below n r ≡ members_below j r) below (members-low j (32 - j) r small) in
    let same : members_below j a ≡ members_below j r = subst (λ x. members_below j x ≡ members_below j r) is (members-same j j r (omega arith)) in
    front ∙ members-top j a once ∙ ap (λ xs. suc j ∷ xs) (same ∙ sym rest)

-- the highest bit of a number of 32 bits
pub record HasTop (a : ℕ) : Type 0 where
  pub top : ℕ
  pub is : 31 - count_leading_zeros 32 a ≡ top
  pub few : top < 32
  pub low : 2 ^ top ≤ a
  pub high : a < 2 ^ suc top
  pub shifted : 1 * 2 ^ (31 - count_leading_zeros 32 a) % 4294967296 ≡ 2 ^ top

pub top-of : (a : ℕ) → 0 < a → a < 4294967296 → HasTop a
top-of a some few =
    let t = leading_top 32 a some few in
    let sum : count_leading_zeros 32 a + suc t.0 ≡ 32 = t.1 in
    let is : 31 - count_leading_zeros 32 a ≡ t.0 = omega arith in
    let low : 2 ^ t.0 ≤ a = t.2 in
    let small : 2 ^ t.0 < 4294967296 = omega arith in
    record { top = t.0; is = is; few = omega arith; low = low; high = t.3; shifted = rw is (ap (λ x. x % 4294967296) (one_times (2 ^ t.0)) ∙ mod-eq_of_lt small) }
  where
    one_times : (x : ℕ) → 1 * x ≡ x
    one_times x = omega arith

-- a set that isn't 0 has a member
pub members-some : (a : ℕ) → 0 < a → a < 4294967296 → (top : ℕ) × (rest : List ℕ) × (members a ≡ top ∷ rest)
members-some a some few =
    let t = top-of a some few in
    (suc t.top, members (a - 2 ^ t.top), members-highest a t.top t.low t.high (omega (arith, t.few)))
