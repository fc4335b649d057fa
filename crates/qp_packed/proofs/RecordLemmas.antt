-- Records in words, and back.
use Rattle.std.proofs.Common.{◌≡◌, ℕ, ◌+◌, ◌*◌, ◌/◌, ◌%◌, ◌<◌, List, [], ◌∷◌, ◌++◌, length, refl, sym, ap, ◌∙◌, arith, append_assoc, length-append}
use Rattle.std.proofs.lemmas.List.{append-nil}
use Rattle.std.specs.List.{AllByRecursion}
use Rattle.qp_packed.specs.Packing.{PackedRecord, wide_marks, spread, head_of, packed_one, packed, records_read, FitsInWords, ArePacked}
use Rattle.qp_packed.proofs.NumberLemmas.{numbers-spread, behind-spread}

-- the parts of a head
pub head-marks : (k o m : ℕ) → k < 256 → o < 256 → (k + 256 * o + 65536 * m) / 65536 ≡ m
head-marks k o m kind of = omega arith

pub head-kind : (k o m : ℕ) → k < 256 → (k + 256 * o + 65536 * m) % 256 ≡ k
head-kind k o m kind = omega arith

pub head-of : (k o m : ℕ) → k < 256 → o < 256 → (k + 256 * o + 65536 * m) / 256 % 256 ≡ o
head-of k o m kind of = omega arith

pub packed-append : (rs : List PackedRecord) (r : PackedRecord) → packed (rs ++ r ∷ []) ≡ packed rs ++ packed_one r
unfolding packed
packed-append [] r = append-nil (packed_one r)
packed-append (x ∷ rs) r = ap (λ (t : List ℕ). packed_one x ++ t) (packed-append rs r) ∙ sym (append_assoc (packed_one x) (packed rs) (packed_one r))

-- so many records as words begin with, where they were packed
pub unpacked : (rs : List PackedRecord) → AllByRecursion FitsInWords rs → records_read (length rs) (packed rs) ≡ rs
unfolding records_read packed
unpacked [] fit = refl
unpacked (r ∷ rs) fit =
    let k = head-kind r.kind r.of (wide_marks r.numbers) fit.0.kind in
    let o = head-of r.kind r.of (wide_marks r.numbers) fit.0.kind fit.0.of in
    let m = head-marks r.kind r.of (wide_marks r.numbers) fit.0.kind fit.0.of in
    rw (k, o, m, numbers-spread 13 r.numbers (packed rs) fit.0.few, behind-spread 13 r.numbers (packed rs) fit.0.few, unpacked rs fit.1) refl

-- One record more.
pub push-packed : (n : ℕ) (ws : List ℕ) (r : PackedRecord) → ArePacked n ws → FitsInWords r → (records_read (n + 1) (ws ++ packed_one r) ≡ records_read n ws ++ r ∷ []) × ArePacked (n + 1) (ws ++ packed_one r)
push-packed n ws r p fit =
    let rs : List PackedRecord = records_read n ws in
    let all : AllByRecursion FitsInWords (rs ++ r ∷ []) = fits-snoc rs r p.fit fit in
    let count : length (rs ++ r ∷ []) ≡ n + 1 = omega (arith, length-append rs (r ∷ []), p.count) in
    let same : ws ++ packed_one r ≡ packed (rs ++ r ∷ []) = ap (λ (t : List ℕ). t ++ packed_one r) p.words ∙ sym (packed-append rs r) in
    let is : records_read (n + 1) (ws ++ packed_one r) ≡ rs ++ r ∷ [] = rw (same, ← count) (unpacked (rs ++ r ∷ []) all) in
    (is, record { words = rw is same; count = rw is count; fit = rw is all })
  where
    fits-snoc : (xs : List PackedRecord) (x : PackedRecord) → AllByRecursion FitsInWords xs → FitsInWords x → AllByRecursion FitsInWords (xs ++ x ∷ [])
    fits-snoc [] x all f = (f, tt)
    fits-snoc (y ∷ xs) x all f = (all.0, fits-snoc xs x all.1 f)

-- a head and numbers behind words are these words with a record more
pub pushed : (ws w1 w2 w3 : List ℕ) (r : PackedRecord) (h : ℕ) (nums : List ℕ) → w1 ≡ ws → w2 ≡ w1 ++ h ∷ [] → w3 ≡ w2 ++ spread nums → h ≡ head_of r → nums ≡ r.numbers → w3 ≡ ws ++ packed_one r
pushed ws w1 w2 w3 r h nums e1 e2 e3 eh en = rw (e3, e2, e1, eh, en) (append_assoc ws (head_of r ∷ []) (spread r.numbers))
