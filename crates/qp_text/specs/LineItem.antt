-- The item of a line, or the code of what is wrong with the line by itself: its word, a number, or their count.
use Rattle.std.specs.Prelude.{ℕ, zero, suc, ◌+◌, ◌==◌, Bool, ◌&&◌, List, [], ◌∷◌, if◌then◌else◌, Option, Some, None, Result, Ok, Err, codes}
use Rattle.std.specs.Str.{bytes_eq}
use Rattle.qp_model.specs.Kinds.{SAY}
use Rattle.qp_model.specs.Vocabulary.{word_text, has_count}
use Rattle.qp_model.specs.Output.{JournalItem, item, last_id}
use Rattle.qp_text.specs.Codes.{WORD, NUMBER, COUNT}
use Rattle.qp_text.specs.Parts.{split}
use Rattle.qp_text.specs.Numbers.{numbers_at}

-- the first of so many ids from this one on that has this word
abbrev pub id_from : ℕ → ℕ → List ℕ → Option ℕ
id_from zero id word = None
id_from (suc left) id word = if bytes_eq (word_text id) word then Some id else id_from left (id + 1) word

-- the id of a word, in a form
abbrev pub id_of : ℕ → List ℕ → Option ℕ
id_of form word = id_from (last_id form) 1 word

-- the values of `say` have signs in form 2
abbrev pub has_signs : ℕ → ℕ → Bool
has_signs form id = (form == 2) && (id == SAY)

-- with these numbers
abbrev pub item_of_numbers : ℕ → Option (List ℕ) → Result JournalItem ℕ
item_of_numbers id None = Err NUMBER
item_of_numbers id (Some nums) = if has_count id nums then Ok (item id nums) else Err COUNT

-- with the word of this id
abbrev pub item_numbered : ℕ → List (List ℕ) → Option ℕ → Result JournalItem ℕ
item_numbered form texts None = Err WORD
item_numbered form texts (Some id) = item_of_numbers id (numbers_at (has_signs form id) 0 texts)

-- by the parts of a line
abbrev pub item_of_parts : ℕ → List (List ℕ) → Result JournalItem ℕ
item_of_parts form [] = Err WORD
item_of_parts form (word ∷ texts) = item_numbered form texts (id_of form word)

-- the item of a line in a form
abbrev pub item_of_line : ℕ → List ℕ → Result JournalItem ℕ
item_of_line form line = item_of_parts form (split 32 line)

-- the form that a first line states: 2 where it begins with `qp 2`, and else 1
abbrev pub form_of_parts : List (List ℕ) → ℕ
form_of_parts (word ∷ form ∷ texts) = if bytes_eq word (codes "qp") && bytes_eq form (codes "2") then 2 else 1
form_of_parts _ = 1

abbrev pub form_of_line : List ℕ → ℕ
form_of_line line = form_of_parts (split 32 line)
