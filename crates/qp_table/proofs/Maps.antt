-- Maps of blocks: their lowest bit, and how many they have.
use Rattle.std.proofs.Common.{◌≡◌, ℕ, suc, ◌+◌, ◌-◌, ◌*◌, ◌/◌, ◌%◌, ◌^◌, ◌<◌, ◌≤◌, List, [], ◌∷◌, true, length, refl, sym, ap, ◌∙◌, arith, eq-eqb, pow-suc}
use Rattle.std.specs.Prelude.{count_ones}
use lib.Count.{ones}
use Rattle.std.specs.Int.{bit_at}
use Rattle.std.proofs.Math.Nat.{add-mul, mul_assoc, mul_comm, mul-div_left}
use Rattle.std.proofs.lemmas.Nat.{pow_pos, pow-add, ones_cat}
use Rattle.std.proofs.lemmas.Nat.Bits.{bit_at-zero}
use mathlib.Core.Logic.{dite}
use native.Mathlib.Decide.{ℕ_discrete}
use Rattle.qp_model.specs.Lists.{is_first}
use Rattle.qp_table.specs.Rule.{bits_value}
use Rattle.qp_table.proofs.Bounds.{Ascends}
use Rattle.qp_table.specs.Told.{IsLowest}

-- a power above another is a multiple of it
pow-split : (lo b : ℕ) → lo ≤ b → 2 ^ b ≡ 2 ^ (b - lo) * 2 ^ lo
pow-split lo b le = let e : b ≡ b - lo + lo = omega arith in ap (λ k. 2 ^ k) e ∙ pow-add 2 (b - lo) lo

odd-times : (q p : ℕ) → p + q * (p * 2) ≡ (q * 2 + 1) * p
odd-times q p =
    let a : (q * 2 + 1) * p ≡ q * 2 * p + 1 * p = add-mul (q * 2) 1 p in
    let b : q * 2 * p ≡ q * (p * 2) = mul_assoc q 2 p ∙ ap (λ z. q * z) (mul_comm 2 p) in omega arith

-- a map without blocks below lo is a multiple of 2 ^ lo; of its first block it has the bit, and above it a multiple of the next
parts-of : (lo n : ℕ) (xs : List ℕ) → Ascends lo n xs → (q : ℕ) × (bits_value xs ≡ q * 2 ^ lo)
parts-of lo n [] a = (0, sym (zero-times (2 ^ lo)))
  where
    zero-times : (k : ℕ) → 0 * k ≡ 0
    zero-times k = omega arith
parts-of lo n (x ∷ xs) a =
    let r = parts-of (x + 1) n xs a.2 in
    let next : 2 ^ (x + 1) ≡ 2 ^ x * 2 = ap (λ k. 2 ^ k) (let e : x + 1 ≡ suc x = omega arith in e) ∙ pow-suc 2 x in
    let odd : bits_value (x ∷ xs) ≡ (r.0 * 2 + 1) * 2 ^ x = ap (λ z. 2 ^ x + z) (r.1 ∙ ap (λ z. r.0 * z) next) ∙ odd-times r.0 (2 ^ x) in
    ((r.0 * 2 + 1) * 2 ^ (x - lo), odd ∙ (ap (λ z. (r.0 * 2 + 1) * z) (pow-split lo x a.0) ∙ sym (mul_assoc (r.0 * 2 + 1) (2 ^ (x - lo)) (2 ^ lo))))

odd-first : (n y : ℕ) (ys : List ℕ) → Ascends (y + 1) n ys → (q : ℕ) × (bits_value (y ∷ ys) ≡ (q * 2 + 1) * 2 ^ y)
odd-first n y ys a =
    let r = parts-of (y + 1) n ys a in
    let next : 2 ^ (y + 1) ≡ 2 ^ y * 2 = ap (λ k. 2 ^ k) (let e : y + 1 ≡ suc y = omega arith in e) ∙ pow-suc 2 y in
    (r.0, ap (λ z. 2 ^ y + z) (r.1 ∙ ap (λ z. r.0 * z) next) ∙ odd-times r.0 (2 ^ y))

bit-of-odd : (k y : ℕ) → bit_at ((k * 2 + 1) * 2 ^ y) y ≡ 1
bit-of-odd k y = ap (λ z. z % 2) (mul-div_left (k * 2 + 1) (pow_pos y)) ∙ (let e : (k * 2 + 1) % 2 ≡ 1 = omega arith in e)

bit-below : (k y i : ℕ) → i < y → bit_at (k * 2 ^ y) i ≡ 0
bit-below k y i lt =
    let c : ℕ = 2 ^ (y - i - 1) in
    let up : 2 ^ (y - i) ≡ c * 2 = ap (λ z. 2 ^ z) (let e : y - i ≡ suc (y - i - 1) = omega arith in e) ∙ pow-suc 2 (y - i - 1) in
    let m : k * 2 ^ y ≡ k * c * 2 * 2 ^ i = ap (λ z. k * z) (pow-split i y (omega arith) ∙ ap (λ z. z * 2 ^ i) up) ∙ (sym (mul_assoc k (c * 2) (2 ^ i)) ∙ ap (λ z. z * 2 ^ i) (sym (mul_assoc k c 2))) in
    ap (λ z. z / 2 ^ i % 2) m ∙ (ap (λ z. z % 2) (mul-div_left (k * c * 2) (pow_pos i)) ∙ even (k * c))
  where
    even : (z : ℕ) → z * 2 % 2 ≡ 0
    even z = omega arith

-- the lowest bit of a map is its first block's
lowest-is : (n b y : ℕ) (ys : List ℕ) → Ascends (y + 1) n ys → IsLowest b (bits_value (y ∷ ys)) → y ≡ b
lowest-is n b y ys a h =
    let o = odd-first n y ys a in
    dite (ℕ_discrete y b)
    (λ e. e)
    (λ ne. dite (ℕ_discrete (y - b) 0)
    (λ below. let z = h.1 y (omega arith) in let one = ap (λ m. bit_at m y) o.1 ∙ bit-of-odd o.0 y in absurd (omega arith))
    (λ above. let one = h.0 in let z = ap (λ m. bit_at m b) o.1 ∙ bit-below (o.0 * 2 + 1) y b (omega arith) in absurd (omega arith)))

ones-pow : (k : ℕ) → count_ones (2 ^ k) ≡ 1
unfolding ones
ones-pow k = ap count_ones (let e : 2 ^ k ≡ 1 * 2 ^ k + 0 = omega arith in e) ∙ ones_cat k 1 0 (pow_pos k)

pub ones-length : (lo n : ℕ) (xs : List ℕ) → Ascends lo n xs → count_ones (bits_value xs) ≡ length xs
unfolding ones
ones-length lo n [] a = refl
ones-length lo n (x ∷ xs) a =
    let r = parts-of (x + 1) n xs a.2 in
    let next : 2 ^ (x + 1) ≡ 2 ^ x * 2 = ap (λ k. 2 ^ k) (let e : x + 1 ≡ suc x = omega arith in e) ∙ pow-suc 2 x in
    let pos = pow_pos x in
    let turn : bits_value (x ∷ xs) ≡ r.0 * 2 ^ (x + 1) + 2 ^ x = (let e = r.1 in omega arith) in
    let all = ap count_ones turn ∙ ones_cat (x + 1) r.0 (2 ^ x) (omega arith) in
    let rest = ap count_ones (let e : bits_value xs ≡ r.0 * 2 ^ (x + 1) + 0 = (let z = r.1 in omega arith) in e) ∙ ones_cat (x + 1) r.0 0 (pow_pos (x + 1)) in
    let none : count_ones 0 ≡ 0 = refl in let one = ones-pow x in let more = ones-length (x + 1) n xs a.2 in omega arith

-- what is left where the lowest is given out
pub give-map : (n : ℕ) (xs : List ℕ) → Ascends 0 n xs → (b : ℕ) → IsLowest b (bits_value xs) → (is_first b xs ≡ true) × (b < n) × (2 ^ b ≤ bits_value xs) × ((m : ℕ) → m + 2 ^ b ≡ bits_value xs → count_ones m + 1 ≡ count_ones (bits_value xs))
give-map n [] a b h = let z = h.0 in let y = bit_at-zero b in absurd (omega arith)
give-map n (y ∷ ys) a b h =
    let e = lowest-is n b y ys a.2 h in let lt = a.1 in
    let p : 2 ^ y ≡ 2 ^ b = ap (λ k. 2 ^ k) e in (
      eq-eqb y b e,
      omega arith,
      omega arith,
      λ m is. let same : m ≡ bits_value ys = omega arith in let few = ones-length (y + 1) n ys a.2 in let all = ones-length 0 n (y ∷ ys) a in let c = ap count_ones same in omega arith,
    )
