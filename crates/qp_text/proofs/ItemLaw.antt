-- A line that is read as an item is the item's line.
use Rattle.std.proofs.Common.{◌≡◌, ◌∙◌, ℕ, ◌+◌, ◌^◌, ◌<◌, ◌≤◌, Bool, true, false, List, [], ◌∷◌, ◌++◌, map, Option, Some, None, Result, Ok, Err, cond, refl, sym, ap, append-nil, arith}
use Rattle.std.specs.Prelude.{decimal, ◌==◌, ◌&&◌, nat_lt}
use Rattle.std.specs.Fmt.{signed_decimal}
use Rattle.std.specs.Int.{cast_signed, w64}
use Rattle.std.specs.Option.{option_map}
use Rattle.std.proofs.lemmas.Bool.{and_from}
use Rattle.std.proofs.lemmas.Bool.Decides.{nat_tests}
use Rattle.qp_model.specs.Kinds.{SAY}
use Rattle.qp_model.specs.Vocabulary.{word_text, has_count}
use Rattle.qp_model.specs.Output.{JournalItem, item, last_id}
use Rattle.qp_model.specs.OutputText.{after_spaces, number_texts, say_texts, line_text}
use Rattle.qp_text.specs.Numbers.{number_at, number_of_decimal, numbers_at, signed_of}
use Rattle.qp_text.specs.LineItem.{item_of_numbers, has_signs, id_of, item_of_line, item_numbered}
use Rattle.qp_text.specs.TextLaw.{has_64_bits}
use Rattle.qp_text.proofs.OptionLemmas.{and_then-some}
use Rattle.qp_text.proofs.NumberLaw.{number_of-is, signed_of-is}
use Rattle.qp_text.proofs.ReadLemmas.{split-cons}
use Rattle.qp_text.proofs.SplitLemmas.{joined, joined-split}
use Rattle.qp_text.proofs.WordLaw.{id_from-is}
use Rattle.qp_model.proofs.ListLemmas.{mapped}

-- the text of a number, with its sign if it has one
abbrev pub text_of : Bool → ℕ → List ℕ
text_of is_signed n = cond is_signed (signed_decimal (cast_signed w64 n)) (decimal n)

-- the texts of numbers from this place on
abbrev pub texts_at : Bool → ℕ → List ℕ → List (List ℕ)
texts_at signs place [] = []
texts_at signs place (n ∷ nums) = text_of (signs && (place == 1)) n ∷ texts_at signs (place + 1) nums

-- without signs they are the decimals
texts_at-plain : (place : ℕ) (nums : List ℕ) → texts_at false place nums ≡ map decimal nums
texts_at-plain place [] = refl
texts_at-plain place (n ∷ nums) = ap (λ t. decimal n ∷ t) (texts_at-plain (place + 1) nums)

-- behind the second number no value has a sign
texts_at-behind : (place : ℕ) (nums : List ℕ) → 2 ≤ place → texts_at true place nums ≡ map decimal nums
texts_at-behind place [] far = refl
texts_at-behind place (n ∷ nums) far =
    let other : (place == 1) ≡ false = grind (arith, nat_tests) in
    rw other (ap (λ t. decimal n ∷ t) (texts_at-behind (place + 1) nums (omega arith)))

texts_at-by : (signs : Bool) (nums : List ℕ) → texts_at signs 0 nums ≡ cond signs (say_texts nums) (map decimal nums)
texts_at-by false nums = texts_at-plain 0 nums
texts_at-by true [] = refl
texts_at-by true (o ∷ []) = refl
texts_at-by true (o ∷ value ∷ nums) = ap (λ t. decimal o ∷ signed_decimal (cast_signed w64 value) ∷ t) (texts_at-behind 2 nums (omega arith))

-- they are the texts of an item's numbers
pub texts_at-are : (form id : ℕ) (nums : List ℕ) → texts_at (has_signs form id) 0 nums ≡ number_texts form id nums
texts_at-are form id nums = texts_at-by ((form == 2) && (id == SAY)) nums

-- a text that is read as a number is the number's
number-is : (is_signed : Bool) (t : List ℕ) (n : ℕ) → cond is_signed (signed_of t) (number_of_decimal t) ≡ Some n → text_of is_signed n ≡ t
number-is true t n is = (signed_of-is t n is).0
number-is false t n is = (number_of-is t n is).0

-- numbers that are read have these texts
pub numbers_at-are : (signs : Bool) (place : ℕ) (texts : List (List ℕ)) (nums : List ℕ) → numbers_at signs place texts ≡ Some nums → texts_at signs place nums ≡ texts
numbers_at-are signs place [] [] is = refl
numbers_at-are signs place [] (n ∷ nums) is = cc
numbers_at-are signs place (t ∷ texts) nums is =
    let first = and_then-some (number_at signs place t) (λ n. option_map (λ rest. n ∷ rest) (numbers_at signs (place + 1) texts)) nums is in
    let rest = mapped (λ rest. first.0 ∷ rest) (numbers_at signs (place + 1) texts) nums first.2 in
    rw (← rest.2, number-is (signs && (place == 1)) t first.0 first.1, numbers_at-are signs (place + 1) texts rest.0 rest.1) refl

-- numbers that are read have 64 bits
number-fits : (is_signed : Bool) (t : List ℕ) (n : ℕ) → cond is_signed (signed_of t) (number_of_decimal t) ≡ Some n → n < 2 ^ 64
number-fits true t n is = (signed_of-is t n is).1
number-fits false t n is = (number_of-is t n is).1

numbers_at-fit : (signs : Bool) (place : ℕ) (texts : List (List ℕ)) (nums : List ℕ) → numbers_at signs place texts ≡ Some nums → has_64_bits nums ≡ true
numbers_at-fit signs place [] [] is = refl
numbers_at-fit signs place [] (n ∷ nums) is = cc
numbers_at-fit signs place (t ∷ texts) nums is =
    let first = and_then-some (number_at signs place t) (λ n. option_map (λ rest. n ∷ rest) (numbers_at signs (place + 1) texts)) nums is in
    let rest = mapped (λ rest. first.0 ∷ rest) (numbers_at signs (place + 1) texts) nums first.2 in
    let small = number-fits (signs && (place == 1)) t first.0 first.1 in
    let fits : nat_lt first.0 (2 ^ 64) ≡ true = grind (arith, nat_tests) in
    rw (← rest.2) (and_from (nat_lt first.0 (2 ^ 64)) (has_64_bits rest.0) fits (numbers_at-fit signs (place + 1) texts rest.0 rest.1))

-- the parts of a line with spaces between them
pub joined-spaces : (word : List ℕ) (texts : List (List ℕ)) → joined 32 (word ∷ texts) ≡ word ++ after_spaces texts
joined-spaces word [] = sym (append-nil word)
joined-spaces word (t ∷ texts) = ap (λ rest. word ++ (32 ∷ rest)) (joined-spaces t texts)

-- what holds of a line that is read as an item
pub record IsLine (form : ℕ) (line : List ℕ) (i : JournalItem) : Type 0 where
  pub text : line_text form i ≡ line ++ 10 ∷ []
  pub count : has_count i.id i.nums ≡ true
  pub first : 1 ≤ i.id
  pub past : i.id ≤ last_id form
  pub fits : has_64_bits i.nums ≡ true

counted-is : (form : ℕ) (line word : List ℕ) (texts : List (List ℕ)) (id : ℕ) (i : JournalItem) (nums : Option (List ℕ))
    → line ≡ word ++ after_spaces texts → (word_text id ≡ word) × (1 ≤ id) × (id < 1 + last_id form)
    → numbers_at (has_signs form id) 0 texts ≡ nums → item_of_numbers id nums ≡ Ok i → IsLine form line i
counted-is form line word texts id i None whole known read is = absurd cc
counted-is form line word texts id i (Some nums) whole known read is = go (has_count id nums) refl is where
  go : (has : Bool) → has_count id nums ≡ has → cond {A = Result JournalItem ℕ} has (Ok (item id nums)) (Err 3) ≡ Ok i → IsLine form line i
  go false has is = absurd cc
  go true has is =
      let this : item id nums ≡ i = cc in
      let shown : number_texts form id nums ≡ texts = sym (texts_at-are form id nums) ∙ numbers_at-are (has_signs form id) 0 texts nums read in
      rw (← this) record {
        text = rw (known.0, shown, whole) refl;
        count = has;
        first = known.1;
        past = omega (arith, known.2);
        fits = numbers_at-fit (has_signs form id) 0 texts nums read;
      }

numbered-is : (form : ℕ) (line word : List ℕ) (texts : List (List ℕ)) (i : JournalItem) (id : Option ℕ)
    → line ≡ word ++ after_spaces texts → id_of form word ≡ id → item_numbered form texts id ≡ Ok i → IsLine form line i
numbered-is form line word texts i None whole known is = absurd cc
numbered-is form line word texts i (Some id) whole known is =
    counted-is form line word texts id i (numbers_at (has_signs form id) 0 texts) whole (id_from-is (last_id form) 1 id word known) refl is

-- a line that is read as an item is the item's line
pub item_of_line-is : (form : ℕ) (line : List ℕ) (i : JournalItem) → item_of_line form line ≡ Ok i → IsLine form line i
item_of_line-is form line i is =
    let parts = split-cons 32 line in
    let whole : line ≡ parts.0 ++ after_spaces parts.1 = sym (joined-split 32 line) ∙ ap (joined 32) parts.2 ∙ joined-spaces parts.0 parts.1 in
    numbered-is form line parts.0 parts.1 i (id_of form parts.0) whole refl (rw parts.2 at is)
