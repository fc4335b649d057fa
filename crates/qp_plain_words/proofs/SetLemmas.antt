-- A set of objects as bits: bit p - 1 for object p.
use Rattle.std.proofs.Common.{◌≡◌, ◌≢◌, ℕ, zero, suc, ◌+◌, ◌-◌, ◌*◌, ◌/◌, ◌%◌, ◌^◌, ◌<◌, ◌≤◌, ◌==◌, nat_lt, nat_le, Bool, true, false, not, cond, ◌||◌, List, [], ◌∷◌, refl, sym, ◌∙◌, ap, subst, arith, w32}
use Rattle.std.specs.Int.{bit_at, bit_not}
use Rattle.std.specs.Int.RustNames.{bit_or}
use lib.Bits.{bit_and}
use Rattle.std.proofs.Math.Nat.{mod-eq_of_lt, pow-succ', mul-div_cancel_left}
use Rattle.std.proofs.Math.Pow.{pow_mono}
use Rattle.std.proofs.lemmas.Bool.{and_parts}
use Rattle.std.proofs.lemmas.Bool.Decides.{nat_tests}
use Rattle.std.proofs.lemmas.List.Sums.{sum_by-cons}
use Rattle.std.proofs.lemmas.Nat.{or_disjoint}
use Rattle.std.proofs.lemmas.Nat.Bits.{and_pow, bit_at_and, bit_at_set_same, bit_at_set_other, bit_at_clear_same, bit_at_clear_other, bit_at_above, same_from_bits}
use Rattle.qp_chart.specs.StateTree.{has}
use Rattle.qp_model.specs.Lists.{without_all}
use Rattle.qp_model.specs.Subscribers.{bits_of_set}
use Rattle.qp_plain_words.specs.Sets.{are_members}
use Rattle.qp_plain_words.proofs.PlaceLemmas.{set, clear}

other_way : (x y : ℕ) → x + y ≡ y + x
other_way x y = omega arith

-- the bit of object p
pub bit-of : (p : ℕ) → 0 < p → 2 ^ p / 2 ≡ 2 ^ (p - 1)
bit-of zero some = absurd (omega (arith, some))
bit-of (suc k) some =
    let e : suc k - 1 ≡ k = omega arith in
    rw e (ap (λ n. n / 2) (pow-succ' 2 k) ∙ mul-div_cancel_left (2 ^ k) (omega arith))

shifted : (k : ℕ) → k < 32 → 1 * 2 ^ k % 4294967296 ≡ 2 ^ k
shifted k lt =
    let at_most : k ≤ 31 = omega (arith, lt) in
    let small : 2 ^ k ≤ 2 ^ 31 = pow_mono at_most in
    let below : 1 * 2 ^ k < 4294967296 = omega arith in
    mod-eq_of_lt below ∙ one_times (2 ^ k)
  where
    one_times : (x : ℕ) → 1 * x ≡ x
    one_times x = omega arith

-- a bit is set that is 0
sum-is : (n k : ℕ) → k < 32 → bit_at n k ≡ 0 → set n k ≡ n + 2 ^ k
sum-is n k lt out =
    let apart : bit_and n (2 ^ k) ≡ 0 = and_pow n k ∙ ap (λ x. x * 2 ^ k) out ∙ none (2 ^ k) in
    ap (bit_or n) (shifted k lt) ∙ or_disjoint n (2 ^ k) apart
  where
    none : (x : ℕ) → 0 * x ≡ 0
    none x = omega arith

pub set-adds : (n o : ℕ) → 0 < o → o ≤ 32 → bit_at n (o - 1) ≡ 0 → set n (o - 1) ≡ n + 2 ^ o / 2
set-adds n o some le out = sum-is n (o - 1) (omega (arith, some, le)) out ∙ ap (λ x. n + x) (sym (bit-of o some))

-- a bit that is cleared and set again
again : (n k : ℕ) → k < 32 → bit_at n k ≡ 1 → n < 4294967296 → set (clear n k) k ≡ n
again n k lt is few = same_from_bits (set (clear n k) k) n (λ i. go i (i == k) refl)
  where
    apart : (i : ℕ) → (i == k) ≡ false → i ≢ k
    apart i f = grind (arith, nat_tests)

    inside : (i : ℕ) → i ≢ k → (b : Bool) → nat_lt i 32 ≡ b → bit_at (clear n k) i ≡ bit_at n i
    inside i differ true e = let below : i < 32 = grind (arith, nat_tests) in bit_at_clear_other w32 n k lt i below differ
    inside i differ false e =
        let above : 32 ≤ i = grind (arith, nat_tests) in
        let nothing : bit_at n i ≡ 0 = bit_at_above n 32 i few above in
        bit_at_and n (bit_not w32 (1 * 2 ^ k % 4294967296)) i ∙ rw nothing (omega arith)

    go : (i : ℕ) → (b : Bool) → (i == k) ≡ b → bit_at (set (clear n k) k) i ≡ bit_at n i
    go i true f =
        let same : i ≡ k = grind (arith, nat_tests) in
        ap (bit_at (set (clear n k) k)) same ∙ bit_at_set_same w32 (clear n k) k lt ∙ sym is ∙ sym (ap (bit_at n) same)
    go i false f = bit_at_set_other w32 (clear n k) k lt i (apart i f) ∙ inside i (apart i f) (nat_lt i 32) refl

pub clear-takes : (n o : ℕ) → 0 < o → o ≤ 32 → bit_at n (o - 1) ≡ 1 → n < 4294967296 → clear n (o - 1) + 2 ^ o / 2 ≡ n
clear-takes n o some le is few =
    let lt : o - 1 < 32 = omega (arith, some, le) in
    ap (λ x. clear n (o - 1) + x) (bit-of o some) ∙ sym (sum-is (clear n (o - 1)) (o - 1) lt (bit_at_clear_same w32 n (o - 1) lt)) ∙ again n (o - 1) lt is few

-- Lists.

-- the parts of a set with a first member
record Parts (p : ℕ) (ps : List ℕ) : Type 0 where
  some : 0 < p
  within : p ≤ 32
  out : has ps p ≡ false
  others : are_members ps ≡ true

parts : (p : ℕ) (ps : List ℕ) → are_members (p ∷ ps) ≡ true → Parts p ps
unfolding are_members
parts p ps h =
    let a = and_parts _ _ h in
    let b = and_parts _ _ a.0 in
    let c = and_parts _ _ a.1 in
    let low : nat_lt 0 p ≡ true = b.0 in
    let high : nat_le p 32 ≡ true = b.1 in
    record { some = grind (arith, nat_tests, low); within = grind (arith, nat_tests, high); out = flip (has ps p) c.0; others = c.1 }
  where
    flip : (b : Bool) → not b ≡ true → b ≡ false
    flip true e = sym e
    flip false e = refl

first-in : (p : ℕ) (ps : List ℕ) → 0 < p → p ≤ 32 → has ps p ≡ false → are_members ps ≡ true → are_members (p ∷ ps) ≡ true
unfolding are_members
first-in p ps some within out others =
    let low : nat_lt 0 p ≡ true = grind (arith, nat_tests) in
    let high : nat_le p 32 ≡ true = grind (arith, nat_tests) in
    rw (low, high, out, others) refl

abbrev bit_if : Bool → ℕ
bit_if true = 1
bit_if false = 0

sum-cons : (p : ℕ) (ps : List ℕ) → bits_of_set (p ∷ ps) ≡ 2 ^ p / 2 + bits_of_set ps
sum-cons p ps = sum_by-cons (λ p. 2 ^ p / 2) p ps

-- the bit of an object says whether it is a member
pub bit-of_set : (ms : List ℕ) → are_members ms ≡ true → (p : ℕ) → 0 < p → p ≤ 32 → bit_at (bits_of_set ms) (p - 1) ≡ bit_if (has ms p)
bit-of_set [] all p some le = let zeros : 0 ≡ bits_of_set [] = refl in bit_at_above 0 0 (p - 1) (omega arith) (omega arith)
bit-of_set (q ∷ qs) all p some le =
    let h = parts q qs all in
    let lt : q - 1 < 32 = omega (arith, h.some, h.within) in
    let free : bit_at (bits_of_set qs) (q - 1) ≡ 0 = bit-of_set qs h.others q h.some h.within ∙ ap bit_if h.out in
    let is : bits_of_set (q ∷ qs) ≡ set (bits_of_set qs) (q - 1) = sum-cons q qs ∙ other_way (2 ^ q / 2) (bits_of_set qs) ∙ sym (set-adds (bits_of_set qs) q h.some h.within free) in
    ap (λ n. bit_at n (p - 1)) is ∙ go h.some lt (q == p) refl (bit-of_set qs h.others p some le)
  where
    go : 0 < q → q - 1 < 32 → (b : Bool) → (q == p) ≡ b → bit_at (bits_of_set qs) (p - 1) ≡ bit_if (has qs p)
        → bit_at (set (bits_of_set qs) (q - 1)) (p - 1) ≡ bit_if (b || has qs p)
    go at lt true e later =
        let same : q ≡ p = grind (arith, nat_tests) in
        ap (λ n. bit_at (set (bits_of_set qs) (q - 1)) (n - 1)) (sym same) ∙ bit_at_set_same w32 (bits_of_set qs) (q - 1) lt
    go at lt false e later =
        let differ : q ≢ p = grind (arith, nat_tests) in
        let apart : p - 1 ≢ q - 1 = omega (arith, at, some, differ) in
        bit_at_set_other w32 (bits_of_set qs) (q - 1) lt (p - 1) apart ∙ later

pub has-bit : (ms : List ℕ) → are_members ms ≡ true → (p : ℕ) → 0 < p → p ≤ 32 → has ms p ≡ (bit_at (bits_of_set ms) (p - 1) == 1)
has-bit ms all p some le = go (has ms p) (bit-of_set ms all p some le)
  where
    go : (b : Bool) → bit_at (bits_of_set ms) (p - 1) ≡ bit_if b → b ≡ (bit_at (bits_of_set ms) (p - 1) == 1)
    go true e = rw e refl
    go false e = rw e refl

-- an object that isn't a member
without-none : (o : ℕ) (ms : List ℕ) → has ms o ≡ false → without_all o ms ≡ ms
without-none o [] out = refl
without-none o (x ∷ xs) out = go (x == o) refl out (without-none o xs)
  where
    go : (b : Bool) → (x == o) ≡ b → (b || has xs o) ≡ false → (has xs o ≡ false → without_all o xs ≡ xs) → cond b (without_all o xs) (x ∷ without_all o xs) ≡ x ∷ xs
    go true e h later = absurd (cc)
    go false e h later = ap (λ ys. x ∷ ys) (later h)

pub set-put : (ms : List ℕ) (o : ℕ) → has ms o ≡ false → bits_of_set (o ∷ without_all o ms) ≡ bits_of_set ms + 2 ^ o / 2
set-put ms o out = sum-cons o (without_all o ms) ∙ ap (λ xs. 2 ^ o / 2 + bits_of_set xs) (without-none o ms out) ∙ other_way (2 ^ o / 2) (bits_of_set ms)

pub members-put : (ms : List ℕ) (o : ℕ) → 0 < o → o ≤ 32 → are_members ms ≡ true → has ms o ≡ false → are_members (o ∷ without_all o ms) ≡ true
members-put ms o some le all out =
    subst (λ xs. are_members (o ∷ xs) ≡ true) (sym (without-none o ms out)) (first-in o ms some le out all)

-- a member that goes
pub record Taken (ms : List ℕ) (o : ℕ) : Type 0 where
  pub bits : bits_of_set (without_all o ms) + 2 ^ o / 2 ≡ bits_of_set ms
  pub members : are_members (without_all o ms) ≡ true

has-without : (ms : List ℕ) (o p : ℕ) → has ms p ≡ false → has (without_all o ms) p ≡ false
has-without [] o p out = refl
has-without (x ∷ xs) o p out = go (x == p) refl out (has-without xs o p) (x == o)
  where
    go : (b : Bool) → (x == p) ≡ b → (b || has xs p) ≡ false → (has xs p ≡ false → has (without_all o xs) p ≡ false) → (w : Bool) → has (cond w (without_all o xs) (x ∷ without_all o xs)) p ≡ false
    go true e h later w = absurd (cc)
    go false e h later true = later h
    go false e h later false = rw e (later h)

pub set-take : (ms : List ℕ) (o : ℕ) → are_members ms ≡ true → has ms o ≡ true → Taken ms o
set-take [] o all h = absurd (cc)
set-take (x ∷ xs) o all h = go (parts x xs all) (x == o) refl h (set-take xs o)
  where
    go : Parts x xs → (b : Bool) → (x == o) ≡ b → (b || has xs o) ≡ true → (are_members xs ≡ true → has xs o ≡ true → Taken xs o) → Taken (x ∷ xs) o
    go of true e k later =
        let same : x ≡ o = grind (arith, nat_tests) in
        let gone : without_all o xs ≡ xs = without-none o xs (ap (has xs) (sym same) ∙ of.out) in
        record {
          bits = rw (e, gone, sum-cons x xs, same) (other_way (bits_of_set xs) (2 ^ o / 2));
          members = rw (e, gone) of.others;
        }
    go of false e k later =
        let t = later of.others k in
        record {
          bits = rw (e, sum-cons x (without_all o xs), sum-cons x xs) (omega (arith, t.bits));
          members = rw e (first-in x (without_all o xs) of.some of.within (has-without xs o x of.out) t.members);
        }
