-- Numbers read one by one.
use Rattle.std.proofs.Common.{◌≡◌, ℕ, ◌+◌, ◌*◌, ◌/◌, ◌%◌, ◌<◌, ◌≤◌, ◌≢◌, List, [], ◌∷◌, ◌++◌, length, sym, ap, ◌∙◌, arith, append_assoc, length-append}
use Rattle.std.proofs.lemmas.List.{append-nil}
use Rattle.qp_packed.specs.Packing.{wide_marks, spread, first_packed, others, numbers_in, words_behind}
use Rattle.qp_packed.specs.Reading.{Marked, HasReadNumbers, HasUnread, Reads}
use Rattle.qp_packed.proofs.NumberLemmas.{marks-some, numbers-spread, behind-spread, rejoined, even-narrow, odd-broad, half-marks, narrow-words, broad-words}

pub reading-narrow : (mark : ℕ) (ws : List ℕ) (low : ℕ) (after : List ℕ) → ws ≡ low ∷ after → mark % 2 ≡ 0 → Reads mark ws low after
reading-narrow mark ws low after e even x xs rest m w =
    let same : low ∷ after ≡ x ∷ (spread xs ++ rest) = sym e ∙ (w ∙ narrow-words x xs rest (even-narrow mark x xs m even)) in
    (ap first_packed same, ap others same, half-marks mark x xs m)

pub reading-wide : (mark : ℕ) (ws : List ℕ) (low : ℕ) (mid : List ℕ) (high : ℕ) (after : List ℕ) → ws ≡ low ∷ mid → mid ≡ high ∷ after → mark % 2 ≢ 0 → Reads mark ws (low + 4294967296 * high) after
reading-wide mark ws low mid high after e f odd x xs rest m w =
    let same : low ∷ high ∷ after ≡ (x % 4294967296) ∷ (x / 4294967296) ∷ (spread xs ++ rest)
    = ap (λ (t : List ℕ). low ∷ t) (sym f) ∙ (sym e ∙ (w ∙ broad-words x xs rest (odd-broad mark x xs m odd))) in
    let l : low ≡ x % 4294967296 = ap first_packed same in
    let h : high ≡ x / 4294967296 = ap (λ (t : List ℕ). first_packed (others t)) same in
    (rw (l, h) (rejoined x), ap (λ (t : List ℕ). others (others t)) same, half-marks mark x xs m)

-- behind the low word of a wide number stands its high one
pub wide-more : (mark : ℕ) (ws : List ℕ) (low : ℕ) (mid : List ℕ) → ws ≡ low ∷ mid → mark % 2 ≢ 0 → HasUnread mark ws → 0 < length mid
wide-more mark ws low mid e odd w =
    let same : low ∷ mid ≡ (w.x % 4294967296) ∷ (w.x / 4294967296) ∷ (spread w.xs ++ w.rest)
    = sym e ∙ (w.words ∙ broad-words w.x w.xs w.rest (odd-broad mark w.x w.xs w.marked odd)) in
    rw (ap others same) omega arith

pub numbers-of : (mark : ℕ) (ws xs rest : List ℕ) → mark ≡ wide_marks xs → ws ≡ spread xs ++ rest → length xs ≤ 13 → numbers_in 13 mark ws ≡ xs
numbers-of mark ws xs rest m w few = rw (m, w) (numbers-spread 13 xs rest few)

pub behind-of : (mark : ℕ) (ws xs rest : List ℕ) → mark ≡ wide_marks xs → ws ≡ spread xs ++ rest → length xs ≤ 13 → words_behind 13 mark ws ≡ rest
behind-of mark ws xs rest m w few = rw (m, w) (behind-spread 13 xs rest few)

pub begins : (mark : ℕ) (ws : List ℕ) → Marked mark ws → HasReadNumbers [] mark ws (numbers_in 13 mark ws) (words_behind 13 mark ws)
begins mark ws k =
    let n = numbers-of mark ws k.xs k.rest k.marked k.words k.few in
    let b = behind-of mark ws k.xs k.rest k.marked k.words k.few in
    record { left = k.xs; marked = k.marked; there = k.words ∙ ap (λ (t : List ℕ). spread k.xs ++ t) (sym b); whole = sym n; few = rw n k.few }

module _ (nums : List ℕ) (mark : ℕ) (ws all rest : List ℕ) where
  pub waits : HasReadNumbers nums mark ws all rest → 1 < mark → HasUnread mark ws
  unfolding wide_marks
  waits r some = go r.left r.marked r.there
    where
      go : (left : List ℕ) → mark ≡ wide_marks left → ws ≡ spread left ++ rest → HasUnread mark ws
      go [] m w = absurd (omega arith)
      go (x ∷ xs) m w = record { x = x; xs = xs; rest = rest; marked = m; words = w }

  pub room : HasReadNumbers nums mark ws all rest → 1 < mark → length nums < 13
  unfolding wide_marks
  room r some = go r.left r.marked r.whole r.few
    where
      go : (left : List ℕ) → mark ≡ wide_marks left → nums ++ left ≡ all → length all ≤ 13 → length nums < 13
      go [] m w few = absurd (omega arith)
      go (x ∷ xs) m w few = let l = length-append nums (x ∷ xs) in let k = ap (λ (t : List ℕ). length t) w in omega arith

  pub goes : HasReadNumbers nums mark ws all rest → 1 < mark → (n : ℕ) (after : List ℕ) → Reads mark ws n after → HasReadNumbers (nums ++ n ∷ []) (mark / 2) after all rest
  unfolding wide_marks
  goes r some n after reads = go r.left r.marked r.there r.whole
    where
      go : (left : List ℕ) → mark ≡ wide_marks left → ws ≡ spread left ++ rest → nums ++ left ≡ all → HasReadNumbers (nums ++ n ∷ []) (mark / 2) after all rest
      go [] m w whole = absurd (omega arith)
      go (x ∷ xs) m w whole =
          let k = reads x xs rest m w in
          record { left = xs; marked = k.2; there = k.1; whole = rw k.0 (append_assoc nums (x ∷ []) xs ∙ whole); few = r.few }

  pub ends : HasReadNumbers nums mark ws all rest → mark ≤ 1 → (nums ≡ all) × (ws ≡ rest)
  unfolding wide_marks spread
  ends r none = go r.left r.marked r.there r.whole
    where
      go : (left : List ℕ) → mark ≡ wide_marks left → ws ≡ spread left ++ rest → nums ++ left ≡ all → (nums ≡ all) × (ws ≡ rest)
      go [] m w whole = (sym (append-nil nums) ∙ whole, w)
      go (x ∷ xs) m w whole = absurd (let k = marks-some xs in omega arith)
