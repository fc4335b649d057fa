-- Numbers of eight bytes, as form 1 has them.
use Rattle.std.proofs.Common.{◌≡◌, ◌∙◌, ℕ, zero, suc, ◌+◌, ◌*◌, ◌^◌, ◌%◌, ◌<◌, false, true, List, [], ◌∷◌, ◌++◌, length, get_or, Result, Ok, Err, refl, sym, ap, arith}
use Rattle.std.specs.Prelude.{◌==◌, nat_lt}
use Rattle.std.specs.Int.{to_le_bytes, w64}
use Rattle.std.specs.List.{flat_map}
use Rattle.std.proofs.lemmas.Bool.{lt-ltb, ltb-true, and_from, and_parts}
use Rattle.std.proofs.lemmas.List.Folds.{list_all-append}
use Rattle.std.proofs.lemmas.Nat.{from_le_bytes-to_le_bytes_8, le_bytes_8}
use Rattle.qp_model.specs.OutputFrames.{number_bytes}
use Rattle.qp_text.specs.TextLaw.{has_64_bits}
use Rattle.qp_frames.specs.Bytes.{are_bytes}
use Rattle.qp_frames.specs.Parts.{are_numbers_whole, numbers_from, with_number_first}

-- the numbers behind one that was read
pub with_number-ok : (n : ℕ) (read : Result (List ℕ) ℕ) (nums : List ℕ) → with_number_first n read ≡ Ok nums → (more : List ℕ) × (read ≡ Ok more) × (n ∷ more ≡ nums)
with_number-ok n (Ok more) nums is = (more, refl, cc)
with_number-ok n (Err got) nums is = absurd cc

-- each byte is below its limit
bytes-at : (bytes : List ℕ) → are_bytes bytes ≡ true → (i : ℕ) → get_or bytes i 0 < 256
bytes-at [] all i = omega arith
bytes-at (b ∷ bytes) all zero = ltb-true b 256 (and_parts (nat_lt b 256) (are_bytes bytes) all).0
bytes-at (b ∷ bytes) all (suc i) = bytes-at bytes (and_parts (nat_lt b 256) (are_bytes bytes) all).1 i

-- the number of eight bytes has 64 bits
eight-small : (a b c d e f g h : ℕ) → a < 256 → b < 256 → c < 256 → d < 256 → e < 256 → f < 256 → g < 256 → h < 256
    → a + b * 256 + c * 65536 + d * 16777216 + e * 4294967296 + f * 1099511627776 + g * 281474976710656 + h * 72057594037927936 < 2 ^ 64
eight-small a b c d e f g h a' b' c' d' e' f' g' h' = omega arith

module _ (form : ℕ) (fixed : (form == 2) ≡ false) where
  -- eight bytes are read as their number
  eight : (a b c d e f g h : ℕ) (rest : List ℕ)
      → numbers_from form 0 0 (a ∷ b ∷ c ∷ d ∷ e ∷ f ∷ g ∷ h ∷ rest)
      ≡ with_number_first (a + b * 256 + c * 65536 + d * 16777216 + e * 4294967296 + f * 1099511627776 + g * 281474976710656 + h * 72057594037927936) (numbers_from form 0 0 rest)
  eight a b c d e f g h rest = rw fixed (ap (λ n. with_number_first n (numbers_from form 0 0 rest)) (omega arith))

  -- a number's bytes are read as the number
  fixed-read : (n : ℕ) (rest : List ℕ) → n < 2 ^ 64 → numbers_from form 0 0 (to_le_bytes w64 n ++ rest) ≡ with_number_first n (numbers_from form 0 0 rest)
  fixed-read n rest small =
      eight _ _ _ _ _ _ _ _ rest ∙ ap (λ m. with_number_first m (numbers_from form 0 0 rest)) (from_le_bytes-to_le_bytes_8 n small)

  pub fixed-numbers : (nums : List ℕ) → has_64_bits nums ≡ true → numbers_from form 0 0 (flat_map (number_bytes form) nums) ≡ Ok nums
  fixed-numbers [] fits = refl
  fixed-numbers (n ∷ nums) fits =
      let both = and_parts (nat_lt n (2 ^ 64)) (has_64_bits nums) fits in
      rw fixed (fixed-read n (flat_map (number_bytes form) nums) (ltb-true n (2 ^ 64) both.0) ∙ rw (fixed-numbers nums both.1) refl)

  -- no number is cut off
  eight-more : (n : ℕ) → n % 8 ≡ 0 → (8 + n) % 8 ≡ 0
  eight-more n whole = omega arith

  fixed-length : (nums : List ℕ) → length (flat_map (number_bytes form) nums) % 8 ≡ 0
  fixed-length [] = refl
  fixed-length (n ∷ nums) = rw fixed (omega (arith, fixed-length nums))

  pub fixed-whole : (nums : List ℕ) → are_numbers_whole form (flat_map (number_bytes form) nums) ≡ true
  fixed-whole nums = rw (fixed, fixed-length nums) refl

  -- eight bytes are those of their number
  eight-are : (a b c d e f g h : ℕ) → are_bytes (a ∷ b ∷ c ∷ d ∷ e ∷ f ∷ g ∷ h ∷ []) ≡ true
      → let n = a + b * 256 + c * 65536 + d * 16777216 + e * 4294967296 + f * 1099511627776 + g * 281474976710656 + h * 72057594037927936 in
      (to_le_bytes w64 n ≡ a ∷ b ∷ c ∷ d ∷ e ∷ f ∷ g ∷ h ∷ []) × (nat_lt n (2 ^ 64) ≡ true)
  eight-are a b c d e f g h all =
      let bytes = a ∷ b ∷ c ∷ d ∷ e ∷ f ∷ g ∷ h ∷ [] in
      let n = a + b * 256 + c * 65536 + d * 16777216 + e * 4294967296 + f * 1099511627776 + g * 281474976710656 + h * 72057594037927936 in
      let at = bytes-at bytes all in
      let small : n < 2 ^ 64 = eight-small a b c d e f g h (at 0) (at 1) (at 2) (at 3) (at 4) (at 5) (at 6) (at 7) in
      (le_bytes_8 bytes n refl at refl, lt-ltb n (2 ^ 64) small)

  -- a number before others
  fixed-cons : (n : ℕ) (more bytes rest : List ℕ) → to_le_bytes w64 n ≡ bytes → flat_map (number_bytes form) more ≡ rest
      → flat_map (number_bytes form) (n ∷ more) ≡ bytes ++ rest
  fixed-cons n more bytes rest here behind =
      let first : number_bytes form n ≡ bytes = rw fixed here in
      ap (λ t. t ++ flat_map (number_bytes form) more) first ∙ ap (λ t. bytes ++ t) behind

  -- bytes that are read are those of their numbers
  pub fixed-are : (bytes nums : List ℕ) → length bytes % 8 ≡ 0 → are_bytes bytes ≡ true → numbers_from form 0 0 bytes ≡ Ok nums
      → (flat_map (number_bytes form) nums ≡ bytes) × (has_64_bits nums ≡ true)
  fixed-are [] nums whole all is = let none : [] ≡ nums = cc in rw (← none) (refl, refl)
  fixed-are (a ∷ []) nums whole all is = absurd (omega arith)
  fixed-are (a ∷ b ∷ []) nums whole all is = absurd (omega arith)
  fixed-are (a ∷ b ∷ c ∷ []) nums whole all is = absurd (omega arith)
  fixed-are (a ∷ b ∷ c ∷ d ∷ []) nums whole all is = absurd (omega arith)
  fixed-are (a ∷ b ∷ c ∷ d ∷ e ∷ []) nums whole all is = absurd (omega arith)
  fixed-are (a ∷ b ∷ c ∷ d ∷ e ∷ f ∷ []) nums whole all is = absurd (omega arith)
  fixed-are (a ∷ b ∷ c ∷ d ∷ e ∷ f ∷ g ∷ []) nums whole all is = absurd (omega arith)
  fixed-are (a ∷ b ∷ c ∷ d ∷ e ∷ f ∷ g ∷ h ∷ rest) nums whole all is =
      let n = a + b * 256 + c * 65536 + d * 16777216 + e * 4294967296 + f * 1099511627776 + g * 281474976710656 + h * 72057594037927936 in
      let bytes = a ∷ b ∷ c ∷ d ∷ e ∷ f ∷ g ∷ h ∷ [] in
      let parts = and_parts (are_bytes bytes) (are_bytes rest) (sym (list_all-append (λ (x : ℕ). nat_lt x 256) bytes rest) ∙ all) in
      let read = with_number-ok n (numbers_from form 0 0 rest) nums (sym (eight a b c d e f g h rest) ∙ is) in
      let here = eight-are a b c d e f g h parts.0 in
      let behind = fixed-are rest read.0 (omega arith) parts.1 read.1 in
      rw (← read.2) (fixed-cons n read.0 bytes rest here.0 behind.0, and_from (nat_lt n (2 ^ 64)) (has_64_bits read.0) here.1 behind.1)
