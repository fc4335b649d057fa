-- Bytes are read as numbers exactly where they are the numbers' bytes.
use Rattle.std.proofs.Common.{◌≡◌, ℕ, ◌%◌, Bool, true, false, List, length, Ok, refl}
use Rattle.std.specs.Prelude.{◌==◌}
use Rattle.std.specs.List.{flat_map}
use Rattle.std.proofs.lemmas.Bool.{eqb-true}
use Rattle.qp_model.specs.OutputFrames.{number_bytes}
use Rattle.qp_text.specs.TextLaw.{has_64_bits}
use Rattle.qp_frames.specs.Bytes.{are_bytes}
use Rattle.qp_frames.specs.Parts.{are_numbers_whole, numbers_from}
use Rattle.qp_frames.proofs.FixedLaw.{fixed-are, fixed-numbers, fixed-whole}
use Rattle.qp_frames.proofs.GroupLaw.{group-are, group-numbers, group-whole}

-- the bytes of numbers are read as the numbers
pub numbers-read : (form : ℕ) (nums : List ℕ) → has_64_bits nums ≡ true → numbers_from form 0 0 (flat_map (number_bytes form) nums) ≡ Ok nums
numbers-read form nums fits = go (form == 2) refl where
  go : (is_2 : Bool) → (form == 2) ≡ is_2 → numbers_from form 0 0 (flat_map (number_bytes form) nums) ≡ Ok nums
  go true two = group-numbers form two nums fits
  go false other = fixed-numbers form other nums fits

-- none of them is cut off
pub numbers-whole : (form : ℕ) (nums : List ℕ) → has_64_bits nums ≡ true → are_numbers_whole form (flat_map (number_bytes form) nums) ≡ true
numbers-whole form nums fits = go (form == 2) refl where
  go : (is_2 : Bool) → (form == 2) ≡ is_2 → are_numbers_whole form (flat_map (number_bytes form) nums) ≡ true
  go true two = group-whole form two nums fits
  go false other = fixed-whole form other nums

-- bytes that are read as numbers are the numbers' bytes
pub numbers-are : (form : ℕ) (bytes nums : List ℕ) → are_numbers_whole form bytes ≡ true → are_bytes bytes ≡ true → numbers_from form 0 0 bytes ≡ Ok nums
    → (flat_map (number_bytes form) nums ≡ bytes) × (has_64_bits nums ≡ true)
numbers-are form bytes nums whole all is = go (form == 2) refl where
  go : (is_2 : Bool) → (form == 2) ≡ is_2 → (flat_map (number_bytes form) nums ≡ bytes) × (has_64_bits nums ≡ true)
  go true two = group-are form two bytes nums whole all is
  go false other = fixed-are form other bytes nums (eqb-true (length bytes % 8) 0 (rw other at whole)) all is
