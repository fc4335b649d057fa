-- A frame is read as an item exactly where it is the item's frame.
use Rattle.std.proofs.Common.{◌≡◌, ◌∙◌, ℕ, suc, ◌-◌, ◌≤◌, Bool, true, false, List, [], ◌∷◌, ◌++◌, length, take, Result, Ok, Err, cond, refl, sym, ap, arith, length-append}
use Rattle.std.specs.Prelude.{◌==◌, ◌||◌, not, nat_lt, slice_index}
use Rattle.std.specs.List.{flat_map}
use Rattle.std.proofs.Math.Seq.{get_or-append_seam, take-append_seam, take-suc}
use Rattle.std.proofs.lemmas.Bool.{eq-eqb, eqb-true, and_parts, or_parts, not-false}
use Rattle.std.proofs.lemmas.Bool.Decides.{nat_tests}
use Rattle.std.proofs.lemmas.List.{take_all}
use Rattle.std.proofs.lemmas.List.Folds.{list_all-append}
use Rattle.qp_model.specs.Output.{JournalItem, item, last_id}
use Rattle.qp_model.specs.OutputFrames.{checksum, frame_bytes, number_bytes}
use Rattle.qp_model.specs.Vocabulary.{has_count}
use Rattle.qp_text.specs.TextLaw.{has_64_bits}
use Rattle.qp_text.proofs.LineText.{IsItem}
use Rattle.qp_frames.specs.Bytes.{are_bytes}
use Rattle.qp_frames.specs.Parts.{are_numbers_whole, numbers_from}
use Rattle.qp_frames.specs.Stream.{item_of_body, item_of_frame, item_of_summed, with_numbers}
use Rattle.qp_frames.specs.declared.faults.FrameFault.{FrameFault}
use Rattle.qp_frames.specs.declared.faults.FrameFault.TheVariants.{At}
use Rattle.qp_frames.proofs.NumbersLaw.{numbers-are, numbers-read, numbers-whole}

-- the bytes before the last, and the last
front-last : (xs : List ℕ) (c : ℕ) → (take (length (xs ++ c ∷ []) - 1) (xs ++ c ∷ []) ≡ xs) × (slice_index (xs ++ c ∷ []) (length (xs ++ c ∷ []) - 1) ≡ c)
front-last xs c =
    let before : length (xs ++ c ∷ []) - 1 ≡ length xs = omega (arith, length-append xs (c ∷ [])) in
    (rw before (take-append_seam xs (c ∷ [])), rw before (get_or-append_seam xs c [] 0))

front-and_last : (bytes : List ℕ) → 1 ≤ length bytes → take (length bytes - 1) bytes ++ slice_index bytes (length bytes - 1) ∷ [] ≡ bytes
front-and_last bytes some =
    let n = length bytes - 1 in
    sym (take-suc bytes n 0 (omega arith)) ∙ take_all (suc n) bytes (omega arith)

-- a value that no test refused
pub no_error : {A E : Type 0} (wrong : Bool) (e : E) (x : Result A E) (y : A) → cond wrong (Err e) x ≡ Ok y → (wrong ≡ false) × (x ≡ Ok y)
no_error true e x y is = absurd cc
no_error false e x y is = (refl, is)

-- the item of numbers that were read
with_numbers-is : (start form id : ℕ) (read : Result (List ℕ) ℕ) (i : JournalItem) → with_numbers start form id read ≡ Ok i
    → (nums : List ℕ) × (read ≡ Ok nums) × (has_count id nums ≡ true) × (item id nums ≡ i)
with_numbers-is start form id (Err got) i is = absurd cc
with_numbers-is start form id (Ok nums) i is = go (has_count id nums) refl is where
  go : (has : Bool) → has_count id nums ≡ has → cond {A = Result JournalItem FrameFault} has (Ok (item id nums)) (Err (At start 6 0 3)) ≡ Ok i
      → (more : List ℕ) × (◌≡◌ {A = Result (List ℕ) ℕ} (Ok nums) (Ok more)) × (has_count id more ≡ true) × (item id more ≡ i)
  go true has is = (nums, refl, has, cc)
  go false has is = absurd cc

-- what the tests on a frame say of its item
summed-item : (form wanted sequence id : ℕ) (numbers nums : List ℕ) (i : JournalItem) → sequence ≡ wanted → (id == 0) ≡ false → nat_lt (last_id form) id ≡ false
    → has_count id nums ≡ true → item id nums ≡ i → flat_map (number_bytes form) nums ≡ numbers → has_64_bits nums ≡ true
    → (frame_bytes form wanted i ≡ sequence ∷ id ∷ numbers) × IsItem form i
summed-item form wanted sequence id numbers nums i sequence_is some known count item_is bytes fits =
    let past : id ≤ last_id form = past-by (last_id form) known in
    rw (← item_is) (
      rw (sequence_is, bytes) refl,
      record { first = grind (arith, nat_tests); past = past; count = count; fits = fits },
    ) where
      past-by : (last : ℕ) → nat_lt last id ≡ false → id ≤ last
      past-by last known = grind (arith, nat_tests)

-- the item of a frame whose checksum is right
summed-is : (start form wanted sequence id : ℕ) (numbers : List ℕ) (i : JournalItem) → are_numbers_whole form numbers ≡ true → are_bytes numbers ≡ true
    → item_of_summed start form wanted sequence id numbers ≡ Ok i → (frame_bytes form wanted i ≡ sequence ∷ id ∷ numbers) × IsItem form i
summed-is start form wanted sequence id numbers i whole all is =
    let known = no_error (not (sequence == wanted)) (At start 3 wanted sequence) _ i is in
    let numbered = no_error ((id == 0) || nat_lt (last_id form) id) (At start 5 0 id) _ i known.1 in
    let nums = with_numbers-is start form id (numbers_from form 0 0 numbers) i numbered.1 in
    let bytes = numbers-are form numbers nums.0 whole all nums.1 in
    let ids = or_parts (id == 0) (nat_lt (last_id form) id) numbered.0 in
    summed-item form wanted sequence id numbers nums.0 i (eqb-true sequence wanted (not-false (sequence == wanted) known.0)) ids.0 ids.1 nums.2 nums.3 bytes.0 bytes.1

-- the item of a frame by the bytes before its checksum
body-is : (start form wanted found : ℕ) (body : List ℕ) (i : JournalItem) → are_bytes body ≡ true → item_of_body start form wanted body found ≡ Ok i
    → (frame_bytes form wanted i ≡ body) × (found ≡ checksum body) × IsItem form i
body-is start form wanted found [] i all is = absurd cc
body-is start form wanted found (sequence ∷ []) i all is = absurd cc
body-is start form wanted found (sequence ∷ id ∷ numbers) i all is =
    let whole = no_error (not (are_numbers_whole form numbers)) (At start 4 0 0) _ i is in
    let sum = no_error (not (found == checksum (sequence ∷ id ∷ numbers))) (At start 2 (checksum (sequence ∷ id ∷ numbers)) found) _ i whole.1 in
    let bytes = (and_parts (nat_lt id 256) (are_bytes numbers) (and_parts (nat_lt sequence 256) (are_bytes (id ∷ numbers)) all).1).1 in
    let shown = summed-is start form wanted sequence id numbers i (not-false (are_numbers_whole form numbers) whole.0) bytes sum.1 in
    (shown.0, eqb-true found (checksum (sequence ∷ id ∷ numbers)) (not-false (found == checksum (sequence ∷ id ∷ numbers)) sum.0), shown.1)

-- a frame's bytes with its checksum
abbrev pub summed_bytes : ℕ → ℕ → JournalItem → List ℕ
summed_bytes form sequence i = frame_bytes form sequence i ++ checksum (frame_bytes form sequence i) ∷ []

-- a frame that is read as an item is the item's frame
pub item_of_frame-is : (start form wanted : ℕ) (bytes : List ℕ) (i : JournalItem) → are_bytes bytes ≡ true → item_of_frame start form wanted bytes ≡ Ok i
    → (summed_bytes form wanted i ≡ bytes) × IsItem form i
item_of_frame-is start form wanted [] i all is = absurd cc
item_of_frame-is start form wanted (b ∷ bytes) i all is =
    let n = length (b ∷ bytes) - 1 in
    let whole = front-and_last (b ∷ bytes) (omega arith) in
    go (take n (b ∷ bytes)) (slice_index (b ∷ bytes) n) whole (ap are_bytes whole ∙ all) is where
      go : (body : List ℕ) (found : ℕ) → body ++ found ∷ [] ≡ b ∷ bytes → are_bytes (body ++ found ∷ []) ≡ true → item_of_body start form wanted body found ≡ Ok i
          → (summed_bytes form wanted i ≡ b ∷ bytes) × IsItem form i
      go body found whole all is =
          let both = and_parts (are_bytes body) (are_bytes (found ∷ [])) (sym (list_all-append (λ (x : ℕ). nat_lt x 256) body (found ∷ [])) ∙ all) in
          let shown = body-is start form wanted found body i both.0 is in
          (ap (λ t. t ++ checksum t ∷ []) shown.0 ∙ ap (λ c. body ++ c ∷ []) (sym shown.1) ∙ whole, shown.2)

-- the frame of an item is read as the item
summed-read : (start form wanted : ℕ) (i : JournalItem) → IsItem form i → item_of_summed start form wanted wanted i.id (flat_map (number_bytes form) i.nums) ≡ Ok i
summed-read start form wanted i is =
    let some : (i.id == 0) ≡ false = let first = is.first in grind (arith, nat_tests) in
    let known : nat_lt (last_id form) i.id ≡ false = known-by (last_id form) is.past in
    rw (eq-eqb wanted wanted refl, some, known, numbers-read form i.nums is.fits, is.count) refl where
      known-by : (last : ℕ) → i.id ≤ last → nat_lt last i.id ≡ false
      known-by last past = grind (arith, nat_tests)

body-read : (start form wanted : ℕ) (i : JournalItem) → IsItem form i → item_of_body start form wanted (frame_bytes form wanted i) (checksum (frame_bytes form wanted i)) ≡ Ok i
body-read start form wanted i is =
    let sum = checksum (frame_bytes form wanted i) in
    rw (numbers-whole form i.nums is.fits, eq-eqb sum sum refl) (summed-read start form wanted i is)

pub item_of_frame-read : (start form wanted : ℕ) (i : JournalItem) → IsItem form i → item_of_frame start form wanted (summed_bytes form wanted i) ≡ Ok i
item_of_frame-read start form wanted i is =
    let body = frame_bytes form wanted i in
    let parts = front-last body (checksum body) in
    rw (parts.0, parts.1) (body-read start form wanted i is)
