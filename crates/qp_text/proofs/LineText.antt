-- The line of an item is read as the item.
use Rattle.std.proofs.Common.{◌≡◌, ◌∙◌, ℕ, ◌+◌, ◌-◌, ◌^◌, ◌<◌, ◌≤◌, Bool, true, false, List, [], ◌∷◌, ◌++◌, length, Some, Ok, cond, refl, sym, ap, append-nil, arith}
use Rattle.std.specs.Prelude.{decimal, ◌==◌, ◌&&◌, not, nat_lt, nat_le}
use Rattle.std.specs.Fmt.{signed_decimal}
use Rattle.std.specs.Int.{cast_signed, w64}
use Rattle.std.specs.List.{list_all}
use Rattle.std.specs.Str.Parse.{AllDigits}
use Rattle.std.proofs.lemmas.Bool.{le-leb, ltb-true, and_from, and_parts}
use Rattle.std.proofs.lemmas.Bool.Decides.{nat_tests}
use Rattle.std.proofs.lemmas.Fmt.{decimal_is_IsNumeral, decimal_nonempty}
use Rattle.std.proofs.lemmas.Str.Parse.{digit_from_value}
use Rattle.std.proofs.lemmas.List.Folds.{list_all-append}
use Rattle.qp_model.specs.Vocabulary.{word_text, has_count}
use Rattle.qp_model.specs.Output.{JournalItem, last_id}
use Rattle.qp_model.specs.OutputText.{after_spaces, number_texts}
use Rattle.qp_text.specs.Numbers.{and_then, bits_of_negative, bits_of_positive, number_at, number_of_decimal, numbers_at, signed_of}
use Rattle.qp_text.specs.Parts.{split}
use Rattle.qp_text.specs.TextLaw.{has_64_bits}
use Rattle.qp_text.specs.LineItem.{has_signs, item_of_line}
use Rattle.qp_text.proofs.ItemLaw.{text_of, texts_at, texts_at-are}
use Rattle.qp_text.proofs.LineLemmas.{item_of_line-known}
use Rattle.qp_text.proofs.NumberLaw.{number_of-decimal, number_of-is, positive, negative}
use Rattle.qp_text.proofs.SplitLemmas.{is_free, split-first, split-free}
use Rattle.qp_text.proofs.WordLaw.{id_of-word, word-no_space, word-no_newline}

-- what stands before the digits in the code of bytes is none of them
digits-free : (sep : ℕ) (digits : List ℕ) → sep < 48 → AllDigits 10 digits → is_free sep digits ≡ true
digits-free sep [] low all = refl
digits-free sep (c ∷ digits) low all =
    let digit = digit_from_value c all.0 in
    let other : (c == sep) ≡ false = grind (arith, nat_tests) in
    and_from (not (c == sep)) (is_free sep digits) (rw other refl) (digits-free sep digits low all.1)

pub decimal-free : (sep n : ℕ) → sep < 48 → n < 2 ^ 64 → is_free sep (decimal n) ≡ true
decimal-free sep n low small = digits-free sep (decimal n) low (decimal_is_IsNumeral n small).0.1

-- digits without a minus are read as a number without one
signed-plain : (digits : List ℕ) (n : ℕ) → is_free 45 digits ≡ true → number_of_decimal digits ≡ Some n → n < 2 ^ 63 → signed_of digits ≡ Some n
signed-plain [] n free read low =
    let shown = number_of-is [] n read in
    absurd (omega (arith, decimal_nonempty n shown.1, ap length shown.0))
signed-plain (b ∷ digits) n free read low =
    let first = (and_parts (not (b == 45)) (is_free 45 digits) free).0 in
    let fits : nat_lt n (2 ^ 63) ≡ true = grind (arith, nat_tests) in
    go (b == 45) refl first fits where
      go : (minus : Bool) → (b == 45) ≡ minus → not (b == 45) ≡ true → nat_lt n (2 ^ 63) ≡ true
          → cond minus (and_then (number_of_decimal digits) bits_of_negative) (and_then (number_of_decimal (b ∷ digits)) bits_of_positive) ≡ Some n
      go true minus first fits = let no = rw minus at first in absurd cc
      go false minus first fits = rw (read, fits) refl

-- the decimal with the sign is read as the bits
signed-read : (n : ℕ) → n < 2 ^ 64 → signed_of (signed_decimal (cast_signed w64 n)) ≡ Some n
signed-read n small = go (nat_lt n (2 ^ 63)) refl where
  go : (low : Bool) → nat_lt n (2 ^ 63) ≡ low → signed_of (signed_decimal (cast_signed w64 n)) ≡ Some n
  go true low =
      let below = ltb-true n (2 ^ 63) low in
      rw (positive n below) (signed-plain (decimal n) n (decimal-free 45 n (omega arith) small) (number_of-decimal n small) below)
  go false low =
      let high : 2 ^ 63 ≤ n = grind (arith, nat_tests) in
      let m = 2 ^ 64 - n in
      let back : 2 ^ 64 - m ≡ n = omega arith in
      let shown : signed_decimal (cast_signed w64 n) ≡ 45 ∷ decimal m = ap (λ k. signed_decimal (cast_signed w64 k)) (sym back) ∙ negative m (omega arith) (omega arith) in
      let first : nat_le 1 m ≡ true = le-leb 1 m (omega arith) in
      let last : nat_le m (2 ^ 63) ≡ true = le-leb m (2 ^ 63) (omega arith) in
      rw (shown, number_of-decimal m (omega arith), first, last, back) refl

signed-free : (sep n : ℕ) → sep < 45 → n < 2 ^ 64 → is_free sep (signed_decimal (cast_signed w64 n)) ≡ true
signed-free sep n before small = go (nat_lt n (2 ^ 63)) refl where
  go : (low : Bool) → nat_lt n (2 ^ 63) ≡ low → is_free sep (signed_decimal (cast_signed w64 n)) ≡ true
  go true low = rw (positive n (ltb-true n (2 ^ 63) low)) (decimal-free sep n (omega arith) small)
  go false low =
      let high : 2 ^ 63 ≤ n = grind (arith, nat_tests) in
      let m = 2 ^ 64 - n in
      let back : 2 ^ 64 - m ≡ n = omega arith in
      let shown : signed_decimal (cast_signed w64 n) ≡ 45 ∷ decimal m = ap (λ k. signed_decimal (cast_signed w64 k)) (sym back) ∙ negative m (omega arith) (omega arith) in
      let other : (45 == sep) ≡ false = grind (arith, nat_tests) in
      rw (shown, other) (decimal-free sep m (omega arith) (omega arith))

text_of-free : (sep : ℕ) (is_signed : Bool) (n : ℕ) → sep < 45 → n < 2 ^ 64 → is_free sep (text_of is_signed n) ≡ true
text_of-free sep true n before small = signed-free sep n before small
text_of-free sep false n before small = decimal-free sep n (omega arith) small

-- no text of a number has a space or a newline in it
texts-free : (sep : ℕ) (signs : Bool) (place : ℕ) (nums : List ℕ) → sep < 45 → has_64_bits nums ≡ true
    → list_all (is_free sep) (texts_at signs place nums) ≡ true
texts-free sep signs place [] before fits = refl
texts-free sep signs place (n ∷ nums) before fits =
    let both = and_parts (nat_lt n (2 ^ 64)) (has_64_bits nums) fits in
    and_from (is_free sep (text_of (signs && (place == 1)) n)) (list_all (is_free sep) (texts_at signs (place + 1) nums))
    (text_of-free sep (signs && (place == 1)) n before (ltb-true n (2 ^ 64) both.0)) (texts-free sep signs (place + 1) nums before both.1)

-- the text of a number is read as the number
number-read : (is_signed : Bool) (n : ℕ) → n < 2 ^ 64 → cond is_signed (signed_of (text_of is_signed n)) (number_of_decimal (text_of is_signed n)) ≡ Some n
number-read true n small = signed-read n small
number-read false n small = number_of-decimal n small

-- and so are those of several
numbers-read : (signs : Bool) (place : ℕ) (nums : List ℕ) → has_64_bits nums ≡ true → numbers_at signs place (texts_at signs place nums) ≡ Some nums
numbers-read signs place [] fits = refl
numbers-read signs place (n ∷ nums) fits =
    let both = and_parts (nat_lt n (2 ^ 64)) (has_64_bits nums) fits in
    let first : number_at signs place (text_of (signs && (place == 1)) n) ≡ Some n = number-read (signs && (place == 1)) n (ltb-true n (2 ^ 64) both.0) in
    rw (first, numbers-read signs (place + 1) nums both.1) refl

-- the word and the texts are the parts of the line
parts-line : (word : List ℕ) (texts : List (List ℕ)) → is_free 32 word ≡ true → list_all (is_free 32) texts ≡ true
    → split 32 (word ++ after_spaces texts) ≡ word ∷ texts
parts-line word [] free all = rw (append-nil word) (split-free 32 word free)
parts-line word (t ∷ texts) free all =
    let both = and_parts (is_free 32 t) (list_all (is_free 32) texts) all in
    split-first 32 word (t ++ after_spaces texts) free ∙ ap (λ parts. word ∷ parts) (parts-line t texts both.0 both.1)

-- texts without newlines make a line without one
spaces-free : (texts : List (List ℕ)) → list_all (is_free 10) texts ≡ true → is_free 10 (after_spaces texts) ≡ true
spaces-free [] all = refl
spaces-free (t ∷ texts) all =
    let both = and_parts (is_free 10 t) (list_all (is_free 10) texts) all in
    list_all-append (λ (b : ℕ). not (b == 10)) t (after_spaces texts) ∙ and_from (is_free 10 t) (is_free 10 (after_spaces texts)) both.0 (spaces-free texts both.1)

-- the last id of each form
last_id-46 : (form : ℕ) → last_id form ≤ 46
last_id-46 form = go (form == 2) where
  go : (is_2 : Bool) → cond is_2 46 45 ≤ 46
  go true = omega arith
  go false = omega arith

-- a line without its newline
abbrev pub bare_line : ℕ → JournalItem → List ℕ
bare_line form i = word_text i.id ++ after_spaces (number_texts form i.id i.nums)

-- an item of a form, with numbers of 64 bits
pub record IsItem (form : ℕ) (i : JournalItem) : Type 0 where
  pub first : 1 ≤ i.id
  pub past : i.id ≤ last_id form
  pub count : has_count i.id i.nums ≡ true
  pub fits : has_64_bits i.nums ≡ true

module _ (form : ℕ) (i : JournalItem) (is : IsItem form i) where
  pub small : i.id ≤ 46
  small = omega (arith, is.past, last_id-46 form)

  -- the parts of the line are the word and the texts of the numbers
  pub line-parts : split 32 (bare_line form i) ≡ word_text i.id ∷ texts_at (has_signs form i.id) 0 i.nums
  line-parts =
      rw (← texts_at-are form i.id i.nums)
      (parts-line (word_text i.id) (texts_at (has_signs form i.id) 0 i.nums) (word-no_space i.id small)
      (texts-free 32 (has_signs form i.id) 0 i.nums (omega arith) is.fits))

  -- the line is read as the item
  pub line-read : item_of_line form (bare_line form i) ≡ Ok i
  line-read =
      item_of_line-known form (bare_line form i) (word_text i.id) (texts_at (has_signs form i.id) 0 i.nums) i.id line-parts (sym (id_of-word form i.id is.first is.past))
      ∙ rw (numbers-read (has_signs form i.id) 0 i.nums is.fits, is.count) refl

  -- it has no newline in it
  pub line-free : is_free 10 (bare_line form i) ≡ true
  line-free =
      let texts = texts-free 10 (has_signs form i.id) 0 i.nums (omega arith) is.fits in
      let shown : list_all (is_free 10) (number_texts form i.id i.nums) ≡ true = ap (list_all (is_free 10)) (sym (texts_at-are form i.id i.nums)) ∙ texts in
      list_all-append (λ (b : ℕ). not (b == 10)) (word_text i.id) (after_spaces (number_texts form i.id i.nums))
      ∙ and_from (is_free 10 (word_text i.id)) (is_free 10 (after_spaces (number_texts form i.id i.nums))) (word-no_newline i.id small)
      (spaces-free (number_texts form i.id i.nums) shown)
