-- Numbers in groups of seven bits, as form 2 has them.
use Rattle.std.proofs.Common.{◌≡◌, ◌∙◌, ℕ, zero, suc, ◌+◌, ◌-◌, ◌*◌, ◌/◌, ◌^◌, ◌%◌, ◌<◌, ◌≤◌, Bool, false, true, List, [], ◌∷◌, ◌++◌, length, Ok, refl, sym, ap, arith, inl, inr, add-one, sub-one}
use Rattle.std.specs.Prelude.{◌==◌, ◌&&◌, ◌⊎◌, nat_lt, nat_le, slice_index}
use Rattle.std.specs.List.{flat_map}
use Rattle.std.proofs.Math.Nat.{add-mul, mul_assoc, pow-succ'}
use Rattle.std.proofs.lemmas.Bool.{lt-ltb, ltb-true, eqb-true, and_from, and_parts}
use Rattle.std.proofs.lemmas.Bool.Decides.{nat_tests}
use Rattle.std.proofs.lemmas.Nat.{div-add-mod', div-mul-add, mod-mul-add}
use Rattle.qp_model.specs.OutputFrames.{groups, number_bytes}
use Rattle.qp_text.specs.TextLaw.{has_64_bits}
use Rattle.qp_frames.specs.Bytes.{are_bytes}
use Rattle.qp_frames.specs.Parts.{by_part, group_part, are_numbers_whole, numbers_from, with_number_first}
use Rattle.qp_frames.specs.declared.numbers.Part.{Part}
use Rattle.qp_frames.specs.declared.numbers.Part.TheVariants.{More, Whole, Wrong}
use Rattle.qp_frames.proofs.FixedLaw.{with_number-ok}
use Rattle.qp_frames.proofs.GroupLemmas.{groups-large, groups-last, groups-next, groups-small}
use Rattle.qp_frames.proofs.NumberLemmas.{group-below, group-fits}

-- a group and the groups behind it, as a value
groups-sum : (place value low high : ℕ) → (value + low * 128 ^ place) + high * 128 ^ (place + 1) ≡ value + (high * 128 + low) * 128 ^ place
groups-sum place value low high =
    let w = 128 ^ place in
    let weight : high * 128 ^ (place + 1) ≡ high * 128 * w = rw (add-one, pow-succ' 128 place) (sym (mul_assoc high 128 w)) in
    omega (arith, weight, add-mul (high * 128) low w)

-- what a byte at this place is, by tests
part-last : (value b : ℕ) → b ≡ 1 → group_part 9 value b ≡ Whole (value + 2 ^ 63)
part-last value b one = rw one refl

part-more : (place value b : ℕ) → place < 9 → 128 ≤ b → group_part place value b ≡ More (value + (b - 128) * 128 ^ place)
part-more place value b early high =
    let not_last : (place == 9) ≡ false = grind (arith, nat_tests) in
    let large : nat_le 128 b ≡ true = grind (arith, nat_tests) in
    rw (not_last, large) refl

part-whole : (place value b : ℕ) → place < 9 → b < 128 → (place ≡ 0) ⊎ (1 ≤ b) → group_part place value b ≡ Whole (value + b * 128 ^ place)
part-whole place value b early low canonical =
    let not_last : (place == 9) ≡ false = grind (arith, nat_tests) in
    let small : nat_le 128 b ≡ false = grind (arith, nat_tests) in
    let fine : ((b == 0) && nat_lt 0 place) ≡ false = go canonical in
    rw (not_last, small, fine) refl where
      and_false : (t : Bool) → (t && false) ≡ false
      and_false true = refl
      and_false false = refl

      go : (place ≡ 0) ⊎ (1 ≤ b) → ((b == 0) && nat_lt 0 place) ≡ false
      go (inl none) = rw none (and_false (b == 0))
      go (inr some) = let other : (b == 0) ≡ false = grind (arith, nat_tests) in rw other refl

-- a number's groups from some place on are fewer than there is room for
room-last : (m : ℕ) → m * 128 ^ 9 < 2 ^ 64 → m < 2
room-last m fits = omega arith

room-next : (place m : ℕ) → m * 128 ^ place < 2 ^ 64 → m / 128 * 128 ^ (place + 1) < 2 ^ 64
room-next place m fits =
    let whole = groups-sum place 0 (m % 128) (m / 128) in
    let same = rw (div-add-mod' m 128) at whole in
    omega (arith, same, fits)

module _ (form : ℕ) (grouped : (form == 2) ≡ true) where
  step : (place value b : ℕ) (bytes : List ℕ)
      → numbers_from form place value (b ∷ bytes)
      ≡ by_part b (group_part place value b) (λ v. numbers_from form (place + 1) v bytes) (λ n. with_number_first n (numbers_from form 0 0 bytes))
  step place value b bytes = rw grouped refl

  -- the groups of a number from this place on are read as the number
  groups-read : (left place value m : ℕ) (rest : List ℕ) → place + suc left ≡ 10 → m * 128 ^ place < 2 ^ 64 → (place ≡ 0) ⊎ (1 ≤ m)
      → numbers_from form place value (groups (suc left) m ++ rest) ≡ with_number_first (value + m * 128 ^ place) (numbers_from form 0 0 rest)
  groups-read zero place value m rest sum fits canonical =
      let last : place ≡ 9 = omega arith in
      let some : 1 ≤ m = elim canonical [ inl none ↦ absurd (omega arith) | inr some ↦ some ] in
      let one : m ≡ 1 = omega (arith, some, room-last m (rw last at fits)) in
      rw (last, one, groups-small 0 1 (omega arith), step 9 value 1 rest) (ap (λ n. with_number_first n (numbers_from form 0 0 rest)) (omega arith))
  groups-read (suc left) place value m rest sum fits canonical = go (nat_lt m 128) refl (groups-read left (place + 1)) where
    go : (small : Bool) → nat_lt m 128 ≡ small
        → ((value m : ℕ) (rest : List ℕ) → (place + 1) + suc left ≡ 10 → m * 128 ^ (place + 1) < 2 ^ 64 → (place + 1 ≡ 0) ⊎ (1 ≤ m)
        → numbers_from form (place + 1) value (groups (suc left) m ++ rest) ≡ with_number_first (value + m * 128 ^ (place + 1)) (numbers_from form 0 0 rest))
        → numbers_from form place value (groups (suc (suc left)) m ++ rest) ≡ with_number_first (value + m * 128 ^ place) (numbers_from form 0 0 rest)
    go true small later =
        let low : m < 128 = ltb-true m 128 small in
        rw (groups-small (suc left) m low, step place value m rest, part-whole place value m (omega arith) low canonical) refl
    go false large later =
        let high : 128 ≤ m = grind (arith, nat_tests) in
        let low = m % 128 in
        let b = low + 128 in
        let back : b - 128 ≡ low = omega arith in
        let next = later (value + low * 128 ^ place) (m / 128) rest (omega arith) (room-next place m fits) (inr (omega arith)) in
        let whole : (value + low * 128 ^ place) + m / 128 * 128 ^ (place + 1) ≡ value + m * 128 ^ place =
        groups-sum place value low (m / 128) ∙ ap (λ n. value + n * 128 ^ place) (div-add-mod' m 128) in
        rw (groups-large (suc left) m high, step place value b (groups (suc left) (m / 128) ++ rest), part-more place value b (omega arith) (omega arith), back, next, whole) refl

  number-groups : (n : ℕ) → number_bytes form n ≡ groups 10 n
  number-groups n = rw grouped refl

  -- numbers in groups are read
  pub group-numbers : (nums : List ℕ) → has_64_bits nums ≡ true → numbers_from form 0 0 (flat_map (number_bytes form) nums) ≡ Ok nums
  group-numbers [] fits = refl
  group-numbers (n ∷ nums) fits =
      let both = and_parts (nat_lt n (2 ^ 64)) (has_64_bits nums) fits in
      let rest = flat_map (number_bytes form) nums in
      let value : 0 + n * 128 ^ 0 ≡ n = omega arith in
      ap (λ t. numbers_from form 0 0 (t ++ rest)) (number-groups n)
      ∙ groups-read 9 0 0 n rest refl (omega (arith, ltb-true n (2 ^ 64) both.0)) (inl refl)
      ∙ rw (value, group-numbers nums both.1) refl

-- the last byte has no high bit
abbrev ends_low : List ℕ → Bool
ends_low bytes = nat_lt (slice_index bytes (length bytes - 1)) 128

ends_low-cons : (b c : ℕ) (bytes : List ℕ) → ends_low (b ∷ c ∷ bytes) ≡ ends_low (c ∷ bytes)
ends_low-cons b c bytes = simp sub-one

ends_low-one : (b : ℕ) (bytes : List ℕ) → b < 128 → ends_low bytes ≡ true → ends_low (b ∷ bytes) ≡ true
ends_low-one b [] low ends = lt-ltb b 128 low
ends_low-one b (c ∷ bytes) low ends = ends_low-cons b c bytes ∙ ends

groups-some : (left n : ℕ) → (b : ℕ) × (bytes : List ℕ) × (groups (suc left) n ≡ b ∷ bytes)
groups-some left n = go (nat_lt n 128) refl where
  go : (small : Bool) → nat_lt n 128 ≡ small → (b : ℕ) × (bytes : List ℕ) × (groups (suc left) n ≡ b ∷ bytes)
  go true small = (n, [], groups-small left n (ltb-true n 128 small))
  go false large = let high : 128 ≤ n = grind (arith, nat_tests) in (n % 128 + 128, groups left (n / 128), groups-large left n high)

-- a number's groups end so
groups-end : (left place m : ℕ) (rest : List ℕ) → place + suc left ≡ 10 → m * 128 ^ place < 2 ^ 64 → ends_low rest ≡ true → ends_low (groups (suc left) m ++ rest) ≡ true
groups-end zero place m rest sum fits ends =
    let last : place ≡ 9 = omega arith in
    let small : m < 128 = omega (arith, room-last m (rw last at fits)) in
    rw (groups-small 0 m small) (ends_low-one m rest small ends)
groups-end (suc left) place m rest sum fits ends = go (nat_lt m 128) refl (groups-end left (place + 1) (m / 128) rest (omega arith) (room-next place m fits) ends) where
  go : (small : Bool) → nat_lt m 128 ≡ small → ends_low (groups (suc left) (m / 128) ++ rest) ≡ true → ends_low (groups (suc (suc left)) m ++ rest) ≡ true
  go true small later = let low = ltb-true m 128 small in rw (groups-small (suc left) m low) (ends_low-one m rest low ends)
  go false large later =
      let high : 128 ≤ m = grind (arith, nat_tests) in
      let some = groups-some left (m / 128) in
      rw (groups-large (suc left) m high, some.2) (ends_low-cons (m % 128 + 128) some.0 (some.1 ++ rest) ∙ rw some.2 at later)

-- what a byte at this place is
data PartCase (place value b : ℕ) (part : Part) : Type 0 where
  more : place < 9 → 128 ≤ b → part ≡ More (value + (b - 128) * 128 ^ place) → PartCase place value b part
  whole : b < 128 → (place ≡ 0) ⊎ (1 ≤ b) → value + b * 128 ^ place < 2 ^ 64 → part ≡ Whole (value + b * 128 ^ place) → PartCase place value b part
  wrong : part ≡ Wrong → PartCase place value b part

part-case_last : (value b : ℕ) → value < 128 ^ 9 → PartCase 9 value b (group_part 9 value b)
part-case_last value b small = go (b == 1) refl where
  go : (one : Bool) → (b == 1) ≡ one → PartCase 9 value b (group_part 9 value b)
  go true one =
      let is = eqb-true b 1 one in
      whole (omega arith) (inr (omega arith)) (rw is (omega arith)) (part-last value b is ∙ rw is (ap Whole (omega arith)))
  go false other = wrong (rw other refl)

part-case_early : (place value b : ℕ) → place < 9 → value < 128 ^ place → PartCase place value b (group_part place value b)
part-case_early place value b early small = go (nat_le 128 b) refl (b == 0) refl (nat_lt 0 place) refl where
  go : (large : Bool) → nat_le 128 b ≡ large → (zero_byte : Bool) → (b == 0) ≡ zero_byte → (later : Bool) → nat_lt 0 place ≡ later
      → PartCase place value b (group_part place value b)
  go true large zero_byte none later behind = let high : 128 ≤ b = grind (arith, nat_tests) in more early high (part-more place value b early high)
  go false large true none true behind =
      let not_last : (place == 9) ≡ false = grind (arith, nat_tests) in
      wrong (rw (not_last, large, none, behind) refl)
  go false large true none false behind =
      let low : b < 128 = grind (arith, nat_tests) in
      let first : place ≡ 0 = grind (arith, nat_tests) in
      let fits = group-fits place value b (omega arith) small low in
      whole low (inl first) fits (part-whole place value b early low (inl first))
  go false large false some later behind =
      let low : b < 128 = grind (arith, nat_tests) in
      let canonical : 1 ≤ b = grind (arith, nat_tests) in
      let fits = group-fits place value b (omega arith) small low in
      whole low (inr canonical) fits (part-whole place value b early low (inr canonical))

part-case : (place value b : ℕ) → place ≤ 9 → value < 128 ^ place → PartCase place value b (group_part place value b)
part-case place value b early small = go (place == 9) refl where
  go : (last : Bool) → (place == 9) ≡ last → PartCase place value b (group_part place value b)
  go true last = let is = eqb-true place 9 last in rw is (part-case_last value b (rw is at small))
  go false other = part-case_early place value b (grind (arith, nat_tests)) small

-- bytes that are read as numbers, the first of which has this place and value
record Groups (form place value : ℕ) (bytes nums : List ℕ) : Type 0 where
  m : ℕ
  behind : List ℕ
  nums_are : (value + m * 128 ^ place) ∷ behind ≡ nums
  bytes_are : groups (10 - place) m ++ flat_map (number_bytes form) behind ≡ bytes
  some : (place ≡ 0) ⊎ (1 ≤ m)
  fits : value + m * 128 ^ place < 2 ^ 64
  behind_fit : has_64_bits behind ≡ true

module _ (form : ℕ) (grouped : (form == 2) ≡ true) where
  groups-all : (bytes nums : List ℕ) → Groups form 0 0 bytes nums → (flat_map (number_bytes form) nums ≡ bytes) × (has_64_bits nums ≡ true)
  groups-all bytes nums are =
      let value : 0 + are.m * 128 ^ 0 ≡ are.m = omega arith in
      let first : number_bytes form (0 + are.m * 128 ^ 0) ≡ groups 10 are.m = ap (number_bytes form) value ∙ number-groups form grouped are.m in
      rw (← are.nums_are) (
        ap (λ t. t ++ flat_map (number_bytes form) are.behind) first ∙ are.bytes_are,
        and_from (nat_lt (0 + are.m * 128 ^ 0) (2 ^ 64)) (has_64_bits are.behind) (lt-ltb (0 + are.m * 128 ^ 0) (2 ^ 64) are.fits) are.behind_fit,
      )

  -- the last byte of a number, and the numbers behind it
  groups-whole : (place value b : ℕ) (bytes behind nums : List ℕ) → place ≤ 9 → b < 128 → (place ≡ 0) ⊎ (1 ≤ b) → value + b * 128 ^ place < 2 ^ 64
      → (value + b * 128 ^ place) ∷ behind ≡ nums → flat_map (number_bytes form) behind ≡ bytes → has_64_bits behind ≡ true → Groups form place value (b ∷ bytes) nums
  groups-whole place value b bytes behind nums early low some fits nums_are bytes_are behind_fit = record {
    m = b;
    behind = behind;
    nums_are = nums_are;
    bytes_are = rw (groups-last place b (omega arith) low, bytes_are) refl;
    some = some;
    fits = fits;
    behind_fit = behind_fit;
  }

  -- a byte of a number that goes on
  groups-more : (place value b : ℕ) (bytes nums : List ℕ) → place < 9 → 128 ≤ b → b < 256 → Groups form (place + 1) (value + (b - 128) * 128 ^ place) bytes nums
      → Groups form place value (b ∷ bytes) nums
  groups-more place value b bytes nums early high small are =
      let low = b - 128 in
      let m = are.m * 128 + low in
      let sum : (value + low * 128 ^ place) + are.m * 128 ^ (place + 1) ≡ value + m * 128 ^ place = groups-sum place value low are.m in
      let some : 1 ≤ are.m = elim are.some [ inl none ↦ absurd (omega arith) | inr some ↦ some ] in
      let low_is : m % 128 ≡ low = mod-mul-add are.m 128 low (omega arith) in
      let high_is : m / 128 ≡ are.m = div-mul-add are.m 128 low (omega arith) in
      let back : low + 128 ≡ b = omega arith in
      record {
        m = m;
        behind = are.behind;
        nums_are = ap (λ n. n ∷ are.behind) (sym sum) ∙ are.nums_are;
        bytes_are = rw (groups-next place m (omega arith) (omega arith), low_is, high_is, back) (ap (λ t. b ∷ t) are.bytes_are);
        some = inr (omega arith);
        fits = rw (← sum) are.fits;
        behind_fit = are.behind_fit;
      }

  -- bytes that are read are those of their numbers
  parts-are : (bytes nums : List ℕ) (place value b : ℕ) → place ≤ 9 → value < 128 ^ place → are_bytes (b ∷ bytes) ≡ true → ends_low (b ∷ bytes) ≡ true
      → numbers_from form place value (b ∷ bytes) ≡ Ok nums → Groups form place value (b ∷ bytes) nums
  parts-are [] nums place value b early small all ends is = go (part-case place value b early small) where
    go : PartCase place value b (group_part place value b) → Groups form place value (b ∷ []) nums
    go (more before high part) = absurd (omega (arith, ltb-true b 128 ends))
    go (wrong part) = let read = sym (step form grouped place value b []) ∙ is in let no = rw part at read in absurd cc
    go (whole low some fits part) =
        let read = rw part at (sym (step form grouped place value b []) ∙ is) in
        let nums_are = with_number-ok (value + b * 128 ^ place) (Ok []) nums read in
        let none : [] ≡ nums_are.0 = let same = nums_are.1 in cc in
        groups-whole place value b [] nums_are.0 nums early low some fits nums_are.2 (rw (← none) refl) (rw (← none) refl)
  parts-are (c ∷ bytes) nums place value b early small all ends is =
      let both = and_parts (nat_lt b 256) (are_bytes (c ∷ bytes)) all in
      go (part-case place value b early small) (ltb-true b 256 both.0)
      (λ nums place value early small. parts-are bytes nums place value c early small both.1 (sym (ends_low-cons b c bytes) ∙ ends)) where
        go : PartCase place value b (group_part place value b) → b < 256
            → ((nums : List ℕ) (place value : ℕ) → place ≤ 9 → value < 128 ^ place → numbers_from form place value (c ∷ bytes) ≡ Ok nums → Groups form place value (c ∷ bytes) nums)
            → Groups form place value (b ∷ c ∷ bytes) nums
        go (wrong part) byte later = let read = sym (step form grouped place value b (c ∷ bytes)) ∙ is in let no = rw part at read in absurd cc
        go (more before high part) byte later =
            let read = rw part at (sym (step form grouped place value b (c ∷ bytes)) ∙ is) in
            let next = later nums (place + 1) (value + (b - 128) * 128 ^ place) (omega arith) (group-below place value (b - 128) small (omega arith)) read in
            groups-more place value b (c ∷ bytes) nums before high byte next
        go (whole low some fits part) byte later =
            let read = rw part at (sym (step form grouped place value b (c ∷ bytes)) ∙ is) in
            let nums_are = with_number-ok (value + b * 128 ^ place) (numbers_from form 0 0 (c ∷ bytes)) nums read in
            let behind = groups-all (c ∷ bytes) nums_are.0 (later nums_are.0 0 0 (omega arith) (omega arith) nums_are.1) in
            groups-whole place value b (c ∷ bytes) nums_are.0 nums early low some fits nums_are.2 behind.0 behind.1

  pub group-are : (bytes nums : List ℕ) → are_numbers_whole form bytes ≡ true → are_bytes bytes ≡ true → numbers_from form 0 0 bytes ≡ Ok nums
      → (flat_map (number_bytes form) nums ≡ bytes) × (has_64_bits nums ≡ true)
  group-are [] nums uncut all is = let none : [] ≡ nums = cc in rw (← none) (refl, refl)
  group-are (b ∷ bytes) nums uncut all is =
      groups-all (b ∷ bytes) nums (parts-are bytes nums 0 0 b (omega arith) (omega arith) all (rw grouped at uncut) is)

  -- no number is cut off
  groups-low : (nums : List ℕ) → has_64_bits nums ≡ true → ends_low (flat_map (number_bytes form) nums) ≡ true
  groups-low [] fits = refl
  groups-low (n ∷ nums) fits =
      let both = and_parts (nat_lt n (2 ^ 64)) (has_64_bits nums) fits in
      let rest = flat_map (number_bytes form) nums in
      ap (λ t. ends_low (t ++ rest)) (number-groups form grouped n)
      ∙ groups-end 9 0 n rest refl (omega (arith, ltb-true n (2 ^ 64) both.0)) (groups-low nums both.1)

  pub group-whole : (nums : List ℕ) → has_64_bits nums ≡ true → are_numbers_whole form (flat_map (number_bytes form) nums) ≡ true
  group-whole nums fits = let low = groups-low nums fits in by (flat_map (number_bytes form) nums) low where
    by : (bytes : List ℕ) → ends_low bytes ≡ true → are_numbers_whole form bytes ≡ true
    by bytes low = rw grouped low
