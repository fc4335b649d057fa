-- How many words the numbers of a record take, by its marks.
use Rattle.std.proofs.Common.{◌≡◌, ℕ, zero, suc, ◌+◌, ◌-◌, ◌*◌, ◌^◌, ◌<◌, ◌≤◌, nat_lt, Bool, true, false, List, [], ◌∷◌, length, take, drop, refl, sym, ap, ◌∙◌, arith, length-append, length-drop}
use Rattle.std.proofs.lemmas.List.{drop_at}
use Rattle.std.proofs.lemmas.Nat.{ones_cat}
use Rattle.std.proofs.Math.Nat.{pow-suc}
use Rattle.std.proofs.Math.Seq.{take-length}
use Rattle.std.specs.Int.Count.{ones, ones_in, count_leading_zeros, leading_unique}
use Rattle.qp_packed.specs.Packing.{wide, wide_marks, spread, spread_one, words_behind}
use Rattle.qp_packed.specs.Reading.{Marked}
use Rattle.qp_packed.proofs.NumberLemmas.{narrow, broad, wide-one}
use Rattle.qp_packed.proofs.NumberReads.{behind-of}

ones-none : ones 0 ≡ 0
unfolding ones ones_in
ones-none = refl

ones-one : ones 1 ≡ 1
unfolding ones ones_in
ones-one = refl

ones-more : (w m : ℕ) → w ≤ 1 → ones (w + 2 * m) ≡ w + ones m
ones-more w m one =
    let same : w + 2 * m ≡ m * 2 ^ 1 + w = omega arith in
    ap ones same ∙ (ones_cat 1 m w (omega (arith, one)) ∙ go w one)
  where
    go : (w : ℕ) → w ≤ 1 → ones m + ones w ≡ w + ones m
    go zero one = omega (arith, ones-none)
    go (suc zero) one = omega (arith, ones-one)
    go (suc (suc w)) one = absurd (omega (arith, one))

spread-one-length : (x : ℕ) → length (spread_one x) ≡ 1 + wide x
spread-one-length x = go (nat_lt x 4294967296) refl
  where
    go : (b : Bool) → nat_lt x 4294967296 ≡ b → length (spread_one x) ≡ 1 + wide x
    go true e = rw ((narrow x e).0, (narrow x e).1) refl
    go false e = rw ((broad x e).0, (broad x e).1) refl

-- each number is a word, and each wide one another
pub spread-ones : (xs : List ℕ) → length (spread xs) + 1 ≡ length xs + ones (wide_marks xs)
unfolding wide_marks spread
spread-ones [] = omega (arith, ones-one)
spread-ones (x ∷ xs) =
    omega (arith, length-append (spread_one x) (spread xs), spread-one-length x, spread-ones xs, ones-more (wide x) (wide_marks xs) (wide-one x))

-- the 1 behind the last stands at as many bits as there are numbers
marks-high : (xs : List ℕ) → 2 ^ length xs ≤ wide_marks xs
unfolding wide_marks
marks-high [] = omega arith
marks-high (x ∷ xs) = omega (arith, marks-high xs, pow-suc 2 (length xs))

marks-low : (xs : List ℕ) → wide_marks xs < 2 * 2 ^ length xs
unfolding wide_marks
marks-low [] = omega arith
marks-low (x ∷ xs) = omega (arith, marks-low xs, wide-one x, pow-suc 2 (length xs))

pub marks-leading : (xs : List ℕ) → length xs ≤ 13 → count_leading_zeros 32 (wide_marks xs) ≡ 31 - length xs
marks-leading xs few =
    sym (leading_unique 32 (wide_marks xs) (31 - length xs) (suc (length xs)) (omega arith) (omega (arith, marks-low xs, pow-suc 2 (length xs))) (omega (arith, marks-high xs, pow-suc 2 (length xs))))

pub words-of : (mark : ℕ) (xs : List ℕ) → length xs ≤ 13 → mark ≡ wide_marks xs → (32 - count_leading_zeros 32 mark) + ones mark - 2 ≡ length (spread xs)
words-of mark xs few is = omega (arith, ap (count_leading_zeros 32) is, ap ones is, marks-leading xs few, spread-ones xs)

pub skips : (mark : ℕ) (ws : List ℕ) (n : ℕ) → (m : Marked mark ws) → n ≡ length (spread m.xs) → drop n ws ≡ words_behind 13 mark ws
skips mark ws n m is = ap (drop n) m.words ∙ (drop_at (spread m.xs) m.rest n (sym is) ∙ sym (behind-of mark ws m.xs m.rest m.marked m.words m.few))

pub within : (mark : ℕ) (ws : List ℕ) (n : ℕ) → (m : Marked mark ws) → n ≡ length (spread m.xs) → n ≤ length ws
within mark ws n m is = omega (arith, is, ap length m.words, length-append (spread m.xs) m.rest)

pub take-rest : (ws : List ℕ) (n : ℕ) → take (length ws - n) (drop n ws) ≡ drop n ws
take-rest ws n = ap (λ k. take k (drop n ws)) (sym (length-drop n ws)) ∙ take-length (drop n ws)
