-- The codes of a line of a journal's text.
use Rattle.std.specs.Prelude.{ℕ, List, [], ◌∷◌}

-- the first token isn't a word of the table, or the line has no newline
abbrev pub WORD : ℕ
WORD = 1

-- a token after it isn't a canonical decimal of at most 64 bits, or spaces aren't single
abbrev pub NUMBER : ℕ
NUMBER = 2

-- the word has another count of numbers
abbrev pub COUNT : ℕ
COUNT = 3

-- the item isn't allowed here
abbrev pub PLACE : ℕ
PLACE = 4

-- the text ends without an `end` line
abbrev pub NO_END : ℕ
NO_END = 5

-- a number is out of range
abbrev pub OUT_OF_RANGE : ℕ
OUT_OF_RANGE = 6

-- all codes, in their order
abbrev pub text_codes : List ℕ
text_codes = WORD ∷ NUMBER ∷ COUNT ∷ PLACE ∷ NO_END ∷ OUT_OF_RANGE ∷ []
