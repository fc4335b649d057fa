-- The ones of a number of 32 bits, when one bit changes.
use Rattle.std.proofs.Common.{◌≡◌, ◌≢◌, ℕ, zero, suc, ◌+◌, ◌-◌, ◌*◌, ◌%◌, ◌^◌, ◌<◌, ◌≤◌, ◌==◌, Bool, true, false, cond, [], ◌∷◌, length, refl, sym, ◌∙◌, ap, arith, w32}
use Rattle.std.specs.Int.{bit_at, bit_not, trailing_zeros}
use Rattle.std.specs.Int.RustNames.{bit_or}
use lib.Bits.{bit_and}
use Rattle.std.specs.List.{filter}
use Rattle.std.proofs.Math.Nat.{mod-eq_of_lt}
use Rattle.std.proofs.Math.Pow.{pow_mono}
use Rattle.std.proofs.lemmas.Bool.{eqb-false}
use Rattle.std.proofs.lemmas.Nat.Bits.{bit_at-lt, bit_at_set_same, bit_at_set_other, bit_at_clear_same, bit_at_clear_other, bit_at-trailing_zeros, bit_at_ones, bit_at_ones_above}
use Rattle.qp_chart.specs.StateTree.{has}
use Rattle.qp_model.specs.Lists.{count_up, without_all, with_number, is_first}
use Rattle.qp_plain_words.specs.Places.{bit_places}
use Rattle.qp_plain_words.proofs.Masks.{first-passing, without-passing, with-passing, length-one_less, filter-below, has-passing}

abbrev pub set : ℕ → ℕ → ℕ
set n k = bit_or n (1 * 2 ^ k % 4294967296)

abbrev pub clear : ℕ → ℕ → ℕ
clear n k = bit_and n (bit_not w32 (1 * 2 ^ k % 4294967296))

one : (x : ℕ) → x ≡ 1 → (x == 1) ≡ true
one x h = rw h refl

none : (x : ℕ) → x ≡ 0 → (x == 1) ≡ false
none x h = rw h refl

-- the bit after `n & !(1 << k)`
clear-same : (n k : ℕ) → k < 32 → (bit_at (clear n k) k == 1) ≡ false
clear-same n k lt = none _ (bit_at_clear_same w32 n k lt)

clear-other : (n k i : ℕ) → k < 32 → i < 0 + 32 → (i == k) ≡ false → (bit_at (clear n k) i == 1) ≡ (bit_at n i == 1)
clear-other n k i lt below other = ap (λ x. x == 1) (bit_at_clear_other w32 n k lt i (omega (arith, below)) (eqb-false i k other))

-- the bit after `n | 1 << k`
set-same : (n k : ℕ) → k < 32 → (bit_at (set n k) k == 1) ≡ true
set-same n k lt = one _ (bit_at_set_same w32 n k lt)

set-other : (n k i : ℕ) → k < 32 → (i == k) ≡ false → (bit_at (set n k) i == 1) ≡ (bit_at n i == 1)
set-other n k i lt other = ap (λ x. x == 1) (bit_at_set_other w32 n k lt i (eqb-false i k other))

pub places-clear : (n k : ℕ) → k < 32 → bit_places (clear n k) ≡ without_all k (bit_places n)
unfolding bit_places
places-clear n k lt =
    sym (without-passing (λ i. bit_at n i == 1) (λ i. bit_at (clear n k) i == 1) k 32 0 (clear-same n k lt) (λ i below other. clear-other n k i lt below other))

pub length-clear : (n k : ℕ) → k < 32 → bit_at n k ≡ 1 → length (bit_places n) ≡ suc (length (bit_places (clear n k)))
unfolding bit_places
length-clear n k lt is =
    length-one_less (λ i. bit_at n i == 1) (λ i. bit_at (clear n k) i == 1) k 32 0 (omega arith) (omega (arith, lt)) (one _ is) (clear-same n k lt) (λ i below other. clear-other n k i lt below other)

-- a block that isn't among them has no bit
pub bit-out : (n k : ℕ) → k < 32 → has (bit_places n) k ≡ false → bit_at n k ≡ 0
unfolding bit_places
bit-out n k lt out = go (bit_at n k) refl (bit_at-lt n k)
  where
    go : (v : ℕ) → bit_at n k ≡ v → v < 2 → v ≡ 0
    go zero e small = refl
    go (suc zero) e small =
        let yes = has-passing (λ i. bit_at n i == 1) 32 0 k (omega arith) (omega (arith, lt)) (one _ e) in
        let wrong : true ≡ false = sym yes ∙ out in absurd (cc)
    go (suc (suc v)) e small = absurd (omega (arith, small))

pub places-set : (n k : ℕ) → k < 32 → bit_at n k ≡ 0 → bit_places (set n k) ≡ with_number k (bit_places n)
unfolding bit_places
places-set n k lt out =
    sym (with-passing (λ i. bit_at n i == 1) (λ i. bit_at (set n k) i == 1) k 32 0 (omega arith) (omega (arith, lt)) (none _ out) (set-same n k lt) (λ i below other. set-other n k i lt other))

pub length-set : (n k : ℕ) → k < 32 → bit_at n k ≡ 0 → length (bit_places (set n k)) ≡ suc (length (bit_places n))
unfolding bit_places
length-set n k lt out =
    length-one_less (λ i. bit_at (set n k) i == 1) (λ i. bit_at n i == 1) k 32 0 (omega arith) (omega (arith, lt)) (set-same n k lt) (none _ out)
    (λ i below other. sym (set-other n k i lt other))

pub places-zero : bit_places 0 ≡ []
unfolding bit_places
places-zero = refl

-- the lowest one is the first
pub record Lowest (n : ℕ) : Type 0 where
  pub within : trailing_zeros w32 n < 32
  pub one : bit_at n (trailing_zeros w32 n) ≡ 1
  pub first : is_first (trailing_zeros w32 n) (bit_places n) ≡ true

pub lowest : (n : ℕ) → 0 < n → n < 4294967296 → Lowest n
unfolding bit_places
lowest n some few =
    let t = bit_at-trailing_zeros w32 n some few in
    record {
      within = t.0;
      one = t.1;
      first = first-passing (λ i. bit_at n i == 1) 32 0 (trailing_zeros w32 n) (omega arith) (omega (arith, t.0)) (one _ t.1) (λ i at below. none _ (t.2 i below));
    }

pub some-bit : (n : ℕ) → 0 < length (bit_places n) → 0 < n
some-bit zero h = let e = ap length places-zero in absurd (omega (arith, h, e))
some-bit (suc n) h = omega arith

-- all places below k are ones
pub places-ones : (k : ℕ) → k ≤ 32 → bit_places (2 ^ k - 1) ≡ count_up 0 k
unfolding bit_places
places-ones k le =
    filter-below (λ i. bit_at (2 ^ k - 1) i == 1) k 32 0 le (λ i lt at. one _ (bit_at_ones k i (omega (arith, lt)))) (λ i at lt. none _ (bit_at_ones_above k i (omega (arith, at))))

pub length-count_up : (n from : ℕ) → length (count_up from n) ≡ n
length-count_up zero from = refl
length-count_up (suc n) from = ap suc (length-count_up n (from + 1))

-- `1 << k` less 1, below the width
pub ones-below : (k : ℕ) → k ≤ 32 → k ≢ 32 → 1 * 2 ^ k % 4294967296 - 1 ≡ 2 ^ k - 1
ones-below k le other =
    let at_most : k ≤ 31 = omega (arith, le, other) in
    let small : 2 ^ k ≤ 2 ^ 31 = pow_mono at_most in
    let lt : 1 * 2 ^ k < 4294967296 = omega arith in
    ap (λ x. x - 1) (mod-eq_of_lt lt) ∙ ap (λ x. x - 1) (one_times (2 ^ k))
  where
    one_times : (x : ℕ) → 1 * x ≡ x
    one_times x = omega arith

pub length-places : (n : ℕ) → length (bit_places n) ≤ 32
unfolding bit_places
length-places n = go 32 0
  where
    go : (m from : ℕ) → length (filter (λ i. bit_at n i == 1) (count_up from m)) ≤ m
    go zero from = omega arith
    go (suc m) from = step (bit_at n from == 1) (go m (from + 1))
      where
        step : (b : Bool) → length (filter (λ i. bit_at n i == 1) (count_up (from + 1) m)) ≤ m
            → length (cond b (from ∷ filter (λ i. bit_at n i == 1) (count_up (from + 1) m)) (filter (λ i. bit_at n i == 1) (count_up (from + 1) m))) ≤ suc m
        step true h = omega (arith, h)
        step false h = omega (arith, h)
