-- The codes of a stream of frames.
use Rattle.std.specs.Prelude.{ℕ, List, [], ◌∷◌}

-- 0x7D stands before another byte than 0x5E or 0x5D
abbrev pub BAD_ESCAPE : ℕ
BAD_ESCAPE = 1

-- the checksum differs
abbrev pub CHECKSUM : ℕ
CHECKSUM = 2

-- the sequence byte differs
abbrev pub SEQUENCE : ℕ
SEQUENCE = 3

-- a frame is too short, a number is cut short, or the input ends within a frame
abbrev pub LENGTH : ℕ
LENGTH = 4

-- the id isn't one of the form's
abbrev pub ID : ℕ
ID = 5

-- the item has a code of its line as text, or the input ends without `end`
abbrev pub ITEM : ℕ
ITEM = 6

-- form 2: a number isn't canonical
abbrev pub NOT_CANONICAL : ℕ
NOT_CANONICAL = 7

-- all codes, in their order
abbrev pub frame_codes : List ℕ
frame_codes = BAD_ESCAPE ∷ CHECKSUM ∷ SEQUENCE ∷ LENGTH ∷ ID ∷ ITEM ∷ NOT_CANONICAL ∷ []
