-- The next of some packed records.
use Rattle.std.proofs.Common.{◌≡◌, ℕ, zero, suc, ◌/◌, ◌%◌, ◌<◌, ◌≤◌, ◌≢◌, List, [], ◌∷◌, ◌++◌, length, drop, slice_get, Some, refl, ap, ◌∙◌, arith}
use Rattle.std.specs.Option.{option_map}
use Rattle.qp_packed.specs.Packing.{PackedRecord, wide_marks, spread, first_packed, others, packed, numbers_in, words_behind, records_read, ArePacked}
use Rattle.qp_packed.specs.Reading.{Marked}
use Rattle.qp_packed.proofs.RecordLemmas.{head-marks}
use Rattle.qp_packed.proofs.NumberReads.{behind-of}

pub next-some : (n : ℕ) (ws : List ℕ) → ArePacked n ws → n ≢ 0 → 0 < length ws
unfolding records_read
next-some zero ws p some = absurd (some refl)
next-some (suc n) [] p some = absurd (let c = p.count in omega arith)
next-some (suc n) (h ∷ t) p some = omega arith

-- the head's marks, and the words behind it
parts : (n h : ℕ) (t : List ℕ) → ArePacked (suc n) (h ∷ t) → let xs : List ℕ = numbers_in 13 (h / 65536) t in (h / 65536 ≡ wide_marks xs) × (t ≡ spread xs ++ packed (records_read n (words_behind 13 (h / 65536) t))) × (length xs ≤ 13)
unfolding records_read packed
parts n h t p =
    let xs : List ℕ = numbers_in 13 (h / 65536) t in
    (ap (λ (w : ℕ). w / 65536) (ap first_packed p.words) ∙ head-marks (h % 256) (h / 256 % 256) (wide_marks xs) p.fit.0.kind p.fit.0.of, ap others p.words, p.fit.0.few)

pub next-marked : (n : ℕ) (ws : List ℕ) (h : ℕ) (t : List ℕ) → ArePacked n ws → ws ≡ h ∷ t → n ≢ 0 → Marked (h / 65536) t
next-marked zero ws h t p e some = absurd (some refl)
next-marked (suc n) ws h t p e some =
    let k = parts n h t (rw e at p) in
    record { xs = numbers_in 13 (h / 65536) t; rest = packed (records_read n (words_behind 13 (h / 65536) t)); marked = k.0; words = k.1; few = k.2 }

pub next-packed : (n m : ℕ) (ws : List ℕ) (h : ℕ) (t : List ℕ) → ArePacked n ws → ws ≡ h ∷ t → n ≡ suc m → ArePacked m (words_behind 13 (h / 65536) t)
unfolding records_read
next-packed n m ws h t p e some =
    let q : ArePacked (suc m) (h ∷ t) = rw (e, some) at p in
    let k = parts m h t q in
    record {
      words = behind-of (h / 65536) t (numbers_in 13 (h / 65536) t) (packed (records_read m (words_behind 13 (h / 65536) t))) k.0 k.1 k.2;
      count = omega (arith, q.count);
      fit = q.fit.1;
    }

-- the next record, read
pub next-read : (n m : ℕ) (ws : List ℕ) (h : ℕ) (t : List ℕ) → ws ≡ h ∷ t → n ≡ suc m
    → records_read n ws ≡ record { kind = h % 256; of = h / 256 % 256; numbers = numbers_in 13 (h / 65536) t } ∷ records_read m (words_behind 13 (h / 65536) t)
unfolding records_read
next-read n m ws h t e some = rw (some, e) refl

-- what its head alone says
pub next-kind : (n m : ℕ) (ws : List ℕ) (h : ℕ) (t : List ℕ) → ws ≡ h ∷ t → n ≡ suc m → Some (h % 256) ≡ option_map (λ (r : PackedRecord). r.kind) (slice_get (records_read n ws) 0)
next-kind n m ws h t e some = rw (next-read n m ws h t e some) refl

pub next-of : (n m : ℕ) (ws : List ℕ) (h : ℕ) (t : List ℕ) → ws ≡ h ∷ t → n ≡ suc m → Some (h / 256 % 256) ≡ option_map (λ (r : PackedRecord). r.of) (slice_get (records_read n ws) 0)
next-of n m ws h t e some = rw (next-read n m ws h t e some) refl

pub next-skipped : (n m : ℕ) (ws : List ℕ) (h : ℕ) (t : List ℕ) → ws ≡ h ∷ t → n ≡ suc m → records_read m (words_behind 13 (h / 65536) t) ≡ drop 1 (records_read n ws)
next-skipped n m ws h t e some = rw (next-read n m ws h t e some) refl
