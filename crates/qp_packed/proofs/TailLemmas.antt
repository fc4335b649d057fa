-- Where records begin, and what is read from there.
use Rattle.std.proofs.Common.{◌≡◌, ℕ, zero, suc, ◌+◌, ◌-◌, ◌≤◌, List, [], ◌∷◌, ◌++◌, length, take, drop, refl, sym, ap, ◌∙◌, arith, append_assoc, length-append, length-drop}
use Rattle.std.proofs.lemmas.List.{drop_at, take-append-drop, take-append-le}
use Rattle.std.proofs.Math.Seq.{take-append_seam}
use Rattle.std.specs.List.{AllByRecursion}
use Rattle.qp_packed.specs.Packing.{PackedRecord, packed, packed_one, record_begin, records_read, FitsInWords, ArePacked}
use Rattle.qp_packed.proofs.RecordLemmas.{unpacked}

packed-two : (rs ss : List PackedRecord) → packed (rs ++ ss) ≡ packed rs ++ packed ss
unfolding packed
packed-two [] ss = refl
packed-two (r ∷ rs) ss = ap (λ (t : List ℕ). packed_one r ++ t) (packed-two rs ss) ∙ sym (append_assoc (packed_one r) (packed rs) (packed ss))

fits-drop : (k : ℕ) (rs : List PackedRecord) → AllByRecursion FitsInWords rs → AllByRecursion FitsInWords (drop k rs)
fits-drop zero rs fit = fit
fits-drop (suc k) [] fit = fit
fits-drop (suc k) (r ∷ rs) fit = fits-drop k rs fit.1

-- the words from a record's place on are the records from there on
pub tail-packed : (n k m : ℕ) (ws : List ℕ) → ArePacked n ws → m ≡ n - k → let rs : List PackedRecord = records_read n ws in
    (records_read m (drop (record_begin k rs) ws) ≡ drop k rs) × ArePacked m (drop (record_begin k rs) ws)
tail-packed n k m ws p left =
    let rs : List PackedRecord = records_read n ws in
    let whole : ws ≡ packed (take k rs) ++ packed (drop k rs) = p.words ∙ (ap packed (sym (take-append-drop k rs)) ∙ packed-two (take k rs) (drop k rs)) in
    let there : drop (record_begin k rs) ws ≡ packed (drop k rs) = ap (drop (record_begin k rs)) whole ∙ drop_at (packed (take k rs)) (packed (drop k rs)) (record_begin k rs) refl in
    let count : length (drop k rs) ≡ m = omega (arith, length-drop k rs, p.count, left) in
    let fit : AllByRecursion FitsInWords (drop k rs) = fits-drop k rs p.fit in
    let is : records_read m (drop (record_begin k rs) ws) ≡ drop k rs = rw (there, ← count) (unpacked (drop k rs) fit) in
    (is, record { words = rw is there; count = rw is count; fit = rw is fit })

pub place-within : (n k : ℕ) (ws : List ℕ) → ArePacked n ws → record_begin k (records_read n ws) ≤ length ws
place-within n k ws p =
    let rs : List PackedRecord = records_read n ws in
    let whole : ws ≡ packed (take k rs) ++ packed (drop k rs) = p.words ∙ (ap packed (sym (take-append-drop k rs)) ∙ packed-two (take k rs) (drop k rs)) in
    omega (arith, ap length whole, length-append (packed (take k rs)) (packed (drop k rs)))

-- one record more begins where the words ended, and the one before it where the last one began
pub place-new : (n : ℕ) (ws : List ℕ) (r : PackedRecord) → ArePacked n ws → length ws ≡ record_begin (n + 1 - 1) (records_read n ws ++ r ∷ [])
place-new n ws r p =
    let rs : List PackedRecord = records_read n ws in
    let all : n + 1 - 1 ≡ length rs = omega (arith, p.count) in
    let seam : take (n + 1 - 1) (rs ++ r ∷ []) ≡ rs = ap (λ k. take k (rs ++ r ∷ [])) all ∙ take-append_seam rs (r ∷ []) in
    ap length p.words ∙ ap (λ (t : List PackedRecord). length (packed t)) (sym seam)

pub place-old : (n at : ℕ) (rs : List PackedRecord) (r : PackedRecord) → length rs ≡ n → at ≡ record_begin (n - 1) rs → at ≡ record_begin (n + 1 - 2) (rs ++ r ∷ [])
place-old n at rs r count is =
    let same : n + 1 - 2 ≡ n - 1 = omega arith in
    let front : take (n + 1 - 2) (rs ++ r ∷ []) ≡ take (n - 1) rs = ap (λ k. take k (rs ++ r ∷ [])) same ∙ take-append-le (n - 1) rs (r ∷ []) (omega (arith, count)) in
    is ∙ ap (λ (t : List PackedRecord). length (packed t)) (sym front)

-- there are no more records than words
packed-length : (rs : List PackedRecord) → length rs ≤ length (packed rs)
unfolding packed
packed-length [] = omega arith
packed-length (r ∷ rs) = omega (arith, packed-length rs, length-append (packed_one r) (packed rs))

pub count-words : (n : ℕ) (ws : List ℕ) → ArePacked n ws → n ≤ length ws
count-words n ws p = omega (arith, packed-length (records_read n ws), ap length p.words, p.count)
