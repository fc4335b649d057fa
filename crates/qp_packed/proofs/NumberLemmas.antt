-- Numbers in words, and back.
use Rattle.std.proofs.Common.{◌≡◌, ℕ, zero, suc, ◌+◌, ◌*◌, ◌/◌, ◌%◌, ◌<◌, ◌≤◌, ◌==◌, ◌≢◌, nat_lt, Bool, true, false, List, [], ◌∷◌, ◌++◌, length, drop, get_or, length-drop, refl, sym, ap, ◌∙◌, arith, append_assoc}
use Rattle.std.proofs.lemmas.List.{append-nil, drop_more}
use Rattle.std.proofs.lemmas.Bool.{le-ltb, eq-eqb, ne_eqb}
use Rattle.qp_packed.specs.Packing.{wide, wide_marks, spread_one, spread, first_packed, others, numbers_in, words_behind}

pub narrow : (x : ℕ) → nat_lt x 4294967296 ≡ true → (wide x ≡ 0) × (spread_one x ≡ x ∷ [])
narrow x e = rw e (refl, refl)

pub broad : (x : ℕ) → nat_lt x 4294967296 ≡ false → (wide x ≡ 1) × (spread_one x ≡ (x % 4294967296) ∷ (x / 4294967296) ∷ [])
broad x e = rw e (refl, refl)

pub marks-some : (xs : List ℕ) → 0 < wide_marks xs
unfolding wide_marks
marks-some [] = omega arith
marks-some (x ∷ xs) = omega (arith, marks-some xs)

pub half_even : (mark m : ℕ) → mark ≡ 2 * m → (mark % 2 ≡ 0) × (mark / 2 ≡ m)
half_even mark m e = (omega arith, omega arith)

pub half_odd : (mark m : ℕ) → mark ≡ 1 + 2 * m → (mark % 2 ≡ 1) × (mark / 2 ≡ m)
half_odd mark m e = (omega arith, omega arith)

is_even : (n : ℕ) → n ≡ 0 → (n == 0) ≡ true
is_even n e = eq-eqb n 0 e

is_odd : (n : ℕ) → n ≡ 1 → (n == 0) ≡ false
is_odd n e = ne_eqb n 0 (λ z. omega arith)

numbers-even : (k mark m : ℕ) (ws : List ℕ) → mark ≡ 2 * m → 0 < m → numbers_in (suc k) mark ws ≡ first_packed ws ∷ numbers_in k m (others ws)
unfolding numbers_in
numbers-even k mark m ws e some =
    let h = half_even mark m e in
    rw (le-ltb mark 2 (omega arith), is_even (mark % 2) h.0, h.1) refl

numbers-odd : (k mark m : ℕ) (ws : List ℕ) → mark ≡ 1 + 2 * m → 0 < m → numbers_in (suc k) mark ws ≡ (first_packed ws + 4294967296 * first_packed (others ws)) ∷ numbers_in k m (others (others ws))
unfolding numbers_in
numbers-odd k mark m ws e some =
    let h = half_odd mark m e in
    rw (le-ltb mark 2 (omega arith), is_odd (mark % 2) h.0, h.1) refl

behind-even : (k mark m : ℕ) (ws : List ℕ) → mark ≡ 2 * m → 0 < m → words_behind (suc k) mark ws ≡ words_behind k m (others ws)
unfolding words_behind
behind-even k mark m ws e some =
    let h = half_even mark m e in
    rw (le-ltb mark 2 (omega arith), is_even (mark % 2) h.0, h.1) refl

behind-odd : (k mark m : ℕ) (ws : List ℕ) → mark ≡ 1 + 2 * m → 0 < m → words_behind (suc k) mark ws ≡ words_behind k m (others (others ws))
unfolding words_behind
behind-odd k mark m ws e some =
    let h = half_odd mark m e in
    rw (le-ltb mark 2 (omega arith), is_odd (mark % 2) h.0, h.1) refl

-- a wide number is its two words
pub rejoined : (x : ℕ) → x % 4294967296 + 4294967296 * (x / 4294967296) ≡ x
rejoined x = omega arith

pub numbers-spread : (k : ℕ) (xs ys : List ℕ) → length xs ≤ k → numbers_in k (wide_marks xs) (spread xs ++ ys) ≡ xs
unfolding wide_marks spread numbers_in
numbers-spread zero [] ys few = refl
numbers-spread (suc k) [] ys few = refl
numbers-spread zero (x ∷ xs) ys few = absurd (omega arith)
numbers-spread (suc k) (x ∷ xs) ys few = go (numbers-spread k xs ys (omega arith)) (nat_lt x 4294967296) refl
  where
    go : numbers_in k (wide_marks xs) (spread xs ++ ys) ≡ xs → (b : Bool) → nat_lt x 4294967296 ≡ b → numbers_in (suc k) (wide_marks (x ∷ xs)) (spread (x ∷ xs) ++ ys) ≡ x ∷ xs
    go ih true e =
        let n = narrow x e in
        rw n.1 (numbers-even k (wide_marks (x ∷ xs)) (wide_marks xs) (x ∷ (spread xs ++ ys)) (omega (arith, n.0)) (marks-some xs)
        ∙ ap (λ (t : List ℕ). x ∷ t) ih)
    go ih false e =
        let n = broad x e in
        rw n.1 (numbers-odd k (wide_marks (x ∷ xs)) (wide_marks xs) ((x % 4294967296) ∷ (x / 4294967296) ∷ (spread xs ++ ys)) (omega (arith, n.0)) (marks-some xs)
        ∙ rw (rejoined x) (ap (λ (t : List ℕ). x ∷ t) ih))

pub behind-spread : (k : ℕ) (xs ys : List ℕ) → length xs ≤ k → words_behind k (wide_marks xs) (spread xs ++ ys) ≡ ys
unfolding wide_marks spread words_behind
behind-spread zero [] ys few = refl
behind-spread (suc k) [] ys few = refl
behind-spread zero (x ∷ xs) ys few = absurd (omega arith)
behind-spread (suc k) (x ∷ xs) ys few = go (behind-spread k xs ys (omega arith)) (nat_lt x 4294967296) refl
  where
    go : words_behind k (wide_marks xs) (spread xs ++ ys) ≡ ys → (b : Bool) → nat_lt x 4294967296 ≡ b → words_behind (suc k) (wide_marks (x ∷ xs)) (spread (x ∷ xs) ++ ys) ≡ ys
    go ih true e =
        let n = narrow x e in
        rw n.1 (behind-even k (wide_marks (x ∷ xs)) (wide_marks xs) (x ∷ (spread xs ++ ys)) (omega (arith, n.0)) (marks-some xs)
        ∙ ih)
    go ih false e =
        let n = broad x e in
        rw n.1 (behind-odd k (wide_marks (x ∷ xs)) (wide_marks xs) ((x % 4294967296) ∷ (x / 4294967296) ∷ (spread xs ++ ys)) (omega (arith, n.0)) (marks-some xs)
        ∙ ih)

-- What is known where a number is still to be read.
pub waits-some : (x : ℕ) (xs ws rest : List ℕ) → ws ≡ spread (x ∷ xs) ++ rest → 0 < length ws
unfolding spread
waits-some x xs ws rest e = go (nat_lt x 4294967296) refl
  where
    go : (b : Bool) → nat_lt x 4294967296 ≡ b → 0 < length ws
    go true t = rw (e, (narrow x t).1) omega arith
    go false t = rw (e, (broad x t).1) omega arith

-- an even mark is of a number in one word, an odd one of a number in two
pub even-narrow : (mark x : ℕ) (xs : List ℕ) → mark ≡ wide_marks (x ∷ xs) → mark % 2 ≡ 0 → nat_lt x 4294967296 ≡ true
unfolding wide_marks
even-narrow mark x xs e even = go (nat_lt x 4294967296) refl
  where
    go : (b : Bool) → nat_lt x 4294967296 ≡ b → nat_lt x 4294967296 ≡ true
    go true t = t
    go false t = absurd (let w = (broad x t).0 in omega arith)

pub odd-broad : (mark x : ℕ) (xs : List ℕ) → mark ≡ wide_marks (x ∷ xs) → mark % 2 ≢ 0 → nat_lt x 4294967296 ≡ false
unfolding wide_marks
odd-broad mark x xs e odd = go (nat_lt x 4294967296) refl
  where
    go : (b : Bool) → nat_lt x 4294967296 ≡ b → nat_lt x 4294967296 ≡ false
    go false t = t
    go true t = absurd (let w = (narrow x t).0 in omega arith)

pub half-marks : (mark x : ℕ) (xs : List ℕ) → mark ≡ wide_marks (x ∷ xs) → mark / 2 ≡ wide_marks xs
unfolding wide_marks
half-marks mark x xs e = go (nat_lt x 4294967296) refl
  where
    go : (b : Bool) → nat_lt x 4294967296 ≡ b → mark / 2 ≡ wide_marks xs
    go true t = let w = (narrow x t).0 in omega arith
    go false t = let w = (broad x t).0 in omega arith

-- the words of a narrow number and of a wide one, with what stands behind
pub narrow-words : (x : ℕ) (xs rest : List ℕ) → nat_lt x 4294967296 ≡ true → spread (x ∷ xs) ++ rest ≡ x ∷ (spread xs ++ rest)
unfolding spread
narrow-words x xs rest t = rw (narrow x t).1 refl

pub broad-words : (x : ℕ) (xs rest : List ℕ) → nat_lt x 4294967296 ≡ false → spread (x ∷ xs) ++ rest ≡ (x % 4294967296) ∷ (x / 4294967296) ∷ (spread xs ++ rest)
unfolding spread
broad-words x xs rest t = rw (broad x t).1 refl

-- how large the marks of so many numbers may be
abbrev pub cap : ℕ → ℕ
cap zero = 2
cap (suc n) = 2 * cap n

cap-some : (n : ℕ) → 2 ≤ cap n
cap-some zero = omega arith
cap-some (suc n) = omega (arith, cap-some n)

pub wide-one : (x : ℕ) → wide x ≤ 1
wide-one x = go (nat_lt x 4294967296) refl
  where
    go : (b : Bool) → nat_lt x 4294967296 ≡ b → wide x ≤ 1
    go true e = rw (narrow x e).0 omega arith
    go false e = rw (broad x e).0 omega arith

marks-cap : (n : ℕ) (xs : List ℕ) → length xs ≤ n → wide_marks xs < cap n
unfolding wide_marks
marks-cap zero [] few = omega arith
marks-cap (suc n) [] few = omega (arith, cap-some n)
marks-cap zero (x ∷ xs) few = absurd (omega arith)
marks-cap (suc n) (x ∷ xs) few = omega (arith, wide-one x, marks-cap n xs (omega arith))

pub marks-few : (xs : List ℕ) → length xs ≤ 13 → wide_marks xs < 16384
marks-few xs few = marks-cap 13 xs few

pub marks-drop : (xs : List ℕ) (i : ℕ) → i < length xs → wide_marks (drop i xs) ≡ wide (get_or xs i 0) + 2 * wide_marks (drop (i + 1) xs)
unfolding wide_marks
marks-drop xs i lt = rw (drop_more xs i 0 lt) refl

pub length-drop-few : (xs : List ℕ) (i : ℕ) → length xs ≤ 13 → length (drop i xs) ≤ 13
length-drop-few xs i few = omega (arith, length-drop i xs)

-- one number more
pub spread-snoc : (xs : List ℕ) (x : ℕ) → spread (xs ++ x ∷ []) ≡ spread xs ++ spread_one x
unfolding spread
spread-snoc [] x = append-nil (spread_one x)
spread-snoc (y ∷ xs) x = ap (λ (t : List ℕ). spread_one y ++ t) (spread-snoc xs x) ∙ sym (append_assoc (spread_one y) (spread xs) (spread_one x))
