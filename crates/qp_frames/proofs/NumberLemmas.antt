-- Numbers of a frame.
use Rattle.std.proofs.Common.{ℕ, suc, ◌+◌, ◌*◌, ◌^◌, ◌<◌, ◌≤◌, List, ◌++◌, Result, Ok, Err, arith, add-one}
use Rattle.std.proofs.Math.Nat.{mul-le-mul_right, pow-le-pow_right, pow-succ', suc-mul}

-- numbers behind these
abbrev pub behind : List ℕ → Result (List ℕ) ℕ → Result (List ℕ) ℕ
behind before (Ok nums) = Ok (before ++ nums)
behind before (Err got) = Err got

-- a digit of weight w before a value below w
pub below : (value digit w base : ℕ) → value < w → digit < base → value + digit * w < base * w
below value digit w base small within =
    let rows : suc digit * w ≤ base * w = mul-le-mul_right w within in
    omega (arith, suc-mul digit w, rows, small)

-- a byte of a number in form 1 leaves it below the next weight
pub fixed-below : (place value digit : ℕ) → value < 256 ^ place → digit < 256 → value + digit * 256 ^ place < 256 ^ (place + 1)
fixed-below place value digit small within =
    rw (add-one, pow-succ' 256 place) (below value digit (256 ^ place) 256 small within)

-- the weights of form 1
pub fixed-weight : (place : ℕ) → place ≤ 7 → 256 ^ place < 18446744073709551616
fixed-weight place early =
    let most : 256 ^ place ≤ 72057594037927936 = pow-le-pow_right (omega arith) early in
    omega (arith, most)

pub fixed-fits : (place value digit : ℕ) → place ≤ 7 → value < 256 ^ place → digit < 256 → value + digit * 256 ^ place < 18446744073709551616
fixed-fits place value digit early small within =
    let early_next : place + 1 ≤ 8 = omega (arith, early) in
    let most : 256 ^ (place + 1) ≤ 18446744073709551616 = pow-le-pow_right (omega arith) early_next in
    omega (arith, most, fixed-below place value digit small within)

-- a group of a number in form 2 leaves it below the next weight
pub group-below : (place value digit : ℕ) → value < 128 ^ place → digit < 128 → value + digit * 128 ^ place < 128 ^ (place + 1)
group-below place value digit small within =
    rw (add-one, pow-succ' 128 place) (below value digit (128 ^ place) 128 small within)

-- the weights of form 2
pub group-weight : (place : ℕ) → place ≤ 9 → 128 ^ place < 18446744073709551616
group-weight place early =
    let most : 128 ^ place ≤ 9223372036854775808 = pow-le-pow_right (omega arith) early in
    omega (arith, most)

pub group-fits : (place value digit : ℕ) → place ≤ 8 → value < 128 ^ place → digit < 128 → value + digit * 128 ^ place < 18446744073709551616
group-fits place value digit early small within =
    let early_next : place + 1 ≤ 9 = omega (arith, early) in
    let most : 128 ^ (place + 1) ≤ 9223372036854775808 = pow-le-pow_right (omega arith) early_next in
    omega (arith, most, group-below place value digit small within)
