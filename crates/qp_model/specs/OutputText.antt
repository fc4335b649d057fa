-- The text of a journal.
use Rattle.std.specs.Prelude.{ℕ, ◌==◌, ◌&&◌, List, [], ◌∷◌, ◌++◌, map, if◌then◌else◌, decimal}
use Rattle.std.specs.Fmt.{signed_decimal}
use Rattle.std.specs.Int.{cast_signed, w64}
use Rattle.std.specs.List.{flat_map}
use Rattle.qp_model.specs.Kinds.{SAY}
use Rattle.qp_model.specs.declared.journals.Journal.{Journal}
use Rattle.qp_model.specs.Vocabulary.{word_text}
use Rattle.qp_model.specs.Output.{JournalItem, items_of}

-- a value whose 64 bits are given is written with its sign
abbrev pub say_texts : List ℕ → List (List ℕ)
say_texts (o ∷ value ∷ nums) = decimal o ∷ signed_decimal (cast_signed w64 value) ∷ map decimal nums
say_texts nums = map decimal nums

-- each number in decimal; only the value of `say` in form 2 has a sign
abbrev pub number_texts : ℕ → ℕ → List ℕ → List (List ℕ)
number_texts form id nums = if (form == 2) && (id == SAY) then say_texts nums else map decimal nums

-- each text after a space
abbrev pub after_spaces : List (List ℕ) → List ℕ
after_spaces texts = flat_map (λ digits. 32 ∷ digits) texts

-- one line: the word, each number after a space, and a newline
abbrev pub line_text : ℕ → JournalItem → List ℕ
line_text form i = word_text i.id ++ after_spaces (number_texts form i.id i.nums) ++ 10 ∷ []

-- the lines of items
abbrev pub lines_text : ℕ → List JournalItem → List ℕ
lines_text form items = flat_map (line_text form) items

-- the text of a journal in a form
abbrev pub text : ℕ → Journal → List ℕ
text form j = lines_text form (items_of form j)
