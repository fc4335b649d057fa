-- The codes of a line of stimuli.
use Rattle.std.specs.Prelude.{ℕ}

-- the line isn't in the grammar
abbrev pub GRAMMAR : ℕ
GRAMMAR = 1

-- an object or a signal isn't declared
abbrev pub UNDECLARED : ℕ
UNDECLARED = 2

-- a number is out of range, or a static signal has a `reserve`
abbrev pub RANGE : ℕ
RANGE = 3

-- a source isn't the next, exceeds 16 or is missing
abbrev pub SOURCE : ℕ
SOURCE = 4

-- the event has another number of parameters than its signal
abbrev pub EVENT_ARITY : ℕ
EVENT_ARITY = 5
