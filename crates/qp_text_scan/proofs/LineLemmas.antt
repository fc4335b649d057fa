-- Lines in front of a text.
use Rattle.std.proofs.Common.{◌≡◌, ◌≢◌, ◌∙◌, ◌^◌, ◌<◌, ℕ, suc, Bool, true, false, List, [], ◌∷◌, ◌++◌, map, cond, refl, sym, ap, append_assoc, append-nil}
use Rattle.std.specs.Prelude.{decimal, ◌==◌, ◌&&◌, nat_lt, slice_index}
use Rattle.std.proofs.lemmas.Bool.{and_from, eqb-true, lt-ltb}
use Rattle.std.specs.Fmt.{signed_decimal}
use Rattle.std.specs.Int.{cast_signed, w64}
use Rattle.qp_model.specs.Kinds.{SAY}
use Rattle.qp_model.specs.Vocabulary.{word_text}
use Rattle.qp_model.specs.Output.{item}
use Rattle.qp_model.specs.OutputText.{after_spaces, line_text, number_texts, say_texts}
use Rattle.qp_text.specs.LineItem.{has_signs}
use Rattle.qp_text.specs.TextLaw.{has_64_bits}

-- without a value that is said the numbers are decimals
number_texts-plain : (form id : ℕ) (nums : List ℕ) → has_signs form id ≡ false → number_texts form id nums ≡ map decimal nums
number_texts-plain form id nums other = rw other refl

-- and with one only its sign differs
number_texts-said : (form id : ℕ) (nums : List ℕ) → has_signs form id ≡ true → number_texts form id nums ≡ say_texts nums
number_texts-said form id nums said = rw said refl

pub number_texts-other : (form id : ℕ) (nums : List ℕ) → id ≢ SAY → number_texts form id nums ≡ map decimal nums
number_texts-other form id nums other = go (form == 2) (id == SAY) refl where
  go : (is_2 is_say : Bool) → (id == SAY) ≡ is_say → cond (is_2 && is_say) (say_texts nums) (map decimal nums) ≡ map decimal nums
  go true true is = absurd (other (eqb-true id SAY is))
  go true false is = refl
  go false is_say is = refl

-- a word and then its numbers are a line
pub line-front : (form id : ℕ) (nums text behind rest : List ℕ) → text ≡ word_text id ++ behind
    → behind ≡ after_spaces (number_texts form id nums) ++ 10 ∷ rest → text ≡ line_text form (item id nums) ++ rest
line-front form id nums text behind rest word numbers =
    let texts = after_spaces (number_texts form id nums) in
    word ∙ ap (λ t. word_text id ++ t) numbers
    ∙ sym (append_assoc (word_text id ++ texts) (10 ∷ []) rest ∙ append_assoc (word_text id) texts (10 ∷ rest))

-- a word, its first number, and then the others
pub record-front : (form id of : ℕ) (nums text behind others rest : List ℕ) → text ≡ word_text id ++ behind → behind ≡ 32 ∷ decimal of ++ others
    → 32 ∷ decimal of ++ others ≡ after_spaces (number_texts form id (of ∷ nums)) ++ 10 ∷ rest
    → text ≡ line_text form (item id (of ∷ nums)) ++ rest
record-front form id of nums text behind others rest word first later =
    line-front form id (of ∷ nums) text behind rest word (first ∙ later)

-- a word with one number
pub one-front : (form id n : ℕ) (text behind end rest : List ℕ) → id ≢ SAY → text ≡ word_text id ++ behind → behind ≡ 32 ∷ decimal n ++ end
    → end ≡ 10 ∷ rest → text ≡ line_text form (item id (n ∷ [])) ++ rest
one-front form id n text behind end rest other word number newline =
    line-front form id (n ∷ []) text behind rest word
    (number ∙ ap (λ t. 32 ∷ decimal n ++ t) newline
    ∙ ap (λ t. 32 ∷ t ++ 10 ∷ rest) (sym (append-nil (decimal n)))
    ∙ ap (λ texts. after_spaces texts ++ 10 ∷ rest) (sym (number_texts-other form id (n ∷ []) other)))

-- one number more behind those that were read
pub numbers-more : (nums : List ℕ) (n : ℕ) (all rest behind : List ℕ) → all ≡ after_spaces (map decimal nums) ++ rest → rest ≡ 32 ∷ decimal n ++ behind
    → all ≡ after_spaces (map decimal (nums ++ n ∷ [])) ++ behind
numbers-more nums n all rest behind so_far next =
    let before = after_spaces (map decimal nums) in
    so_far ∙ ap (λ t. before ++ t) next ∙ sym (append_assoc before (32 ∷ decimal n) behind) ∙ ap (λ t. t ++ behind) (sym (spaces nums)) where
      spaces : (xs : List ℕ) → after_spaces (map decimal (xs ++ n ∷ [])) ≡ after_spaces (map decimal xs) ++ (32 ∷ decimal n)
      spaces [] = ap (λ t. 32 ∷ t) (append-nil (decimal n))
      spaces (x ∷ xs) =
          ap (λ t. (32 ∷ decimal x) ++ t) (spaces xs) ∙ sym (append_assoc (32 ∷ decimal x) (after_spaces (map decimal xs)) (32 ∷ decimal n))

-- numbers behind the first
pub others-front : (form id first : ℕ) (none nums text rest : List ℕ) → has_signs form id ≡ false → none ≡ []
    → after_spaces (map decimal none) ++ text ≡ after_spaces (map decimal nums) ++ 10 ∷ rest
    → 32 ∷ decimal first ++ text ≡ after_spaces (number_texts form id (first ∷ nums)) ++ 10 ∷ rest
others-front form id first none nums text rest other empty read =
    let one = 32 ∷ decimal first in
    ap (λ t. one ++ t) (rw empty at read) ∙ sym (append_assoc one (after_spaces (map decimal nums)) (10 ∷ rest))
    ∙ ap (λ texts. after_spaces texts ++ 10 ∷ rest) (sym (number_texts-plain form id (first ∷ nums) other))

-- a value that is said, behind the first number
pub said-front : (first value : ℕ) (none nums text digits end rest : List ℕ) → none ≡ [] → nums ≡ none ++ value ∷ [] → text ≡ 32 ∷ digits
    → digits ≡ signed_decimal (cast_signed w64 value) ++ end → end ≡ 10 ∷ rest
    → 32 ∷ decimal first ++ text ≡ after_spaces (say_texts (first ∷ nums)) ++ 10 ∷ rest
said-front first value none nums text digits end rest empty more space signed newline =
    let one = 32 ∷ decimal first in
    let said = signed_decimal (cast_signed w64 value) in
    let this : nums ≡ value ∷ [] = rw empty at more in
    ap (λ t. one ++ t) (space ∙ ap (λ t. 32 ∷ t) (signed ∙ ap (λ t. said ++ t) newline))
    ∙ sym (append_assoc one ((32 ∷ said) ++ []) (10 ∷ rest) ∙ ap (λ t. one ++ (t ++ 10 ∷ rest)) (append-nil (32 ∷ said)))
    ∙ ap (λ ns. after_spaces (say_texts (first ∷ ns)) ++ 10 ∷ rest) (sym this)

-- the same where the item has a sign
pub signs-front : (form id first : ℕ) (nums bytes rest : List ℕ) → has_signs form id ≡ true
    → bytes ≡ after_spaces (say_texts (first ∷ nums)) ++ 10 ∷ rest → bytes ≡ after_spaces (number_texts form id (first ∷ nums)) ++ 10 ∷ rest
signs-front form id first nums bytes rest said read =
    read ∙ ap (λ texts. after_spaces texts ++ 10 ∷ rest) (sym (number_texts-said form id (first ∷ nums) said))

-- numbers that fit have 64 bits
pub numbers-fit : (nums : List ℕ) → ((i : ℕ) → slice_index nums i < 2 ^ 64) → has_64_bits nums ≡ true
numbers-fit [] fit = refl
numbers-fit (n ∷ nums) fit = and_from (nat_lt n (2 ^ 64)) (has_64_bits nums) (lt-ltb n (2 ^ 64) (fit 0)) (numbers-fit nums (λ i. fit (suc i)))
