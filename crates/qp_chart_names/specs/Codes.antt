-- The codes of faults of a system's file.
use Rattle.std.specs.Prelude.{ℕ, List, [], ◌∷◌}

-- the bytes are no TOML
abbrev pub NOT_TOML : ℕ
NOT_TOML = 1

-- a value isn't of its key's kind
abbrev pub WRONG_KIND : ℕ
WRONG_KIND = 2

-- a key without default is missing
abbrev pub MISSING : ℕ
MISSING = 3

-- a table has a key that isn't listed
abbrev pub UNKNOWN : ℕ
UNKNOWN = 4

-- a number, a name or the length of a text is out of range
abbrev pub RANGE : ℕ
RANGE = 5

-- a name stands twice among the things of one kind, or a priority stands twice
abbrev pub DOUBLE : ℕ
DOUBLE = 6

-- a name isn't declared
abbrev pub NO_SUCH_NAME : ℕ
NO_SUCH_NAME = 7

-- an action or a guard isn't in the grammar
abbrev pub BAD_TEXT : ℕ
BAD_TEXT = 8

-- an event has another number of parameters than its signal, or its parameters are out of reach
abbrev pub WRONG_ARITY : ℕ
WRONG_ARITY = 9

-- a state is among its own ancestors
abbrev pub PARENT_LOOP : ℕ
PARENT_LOOP = 10

-- a state has too many ancestors
abbrev pub TOO_DEEP : ℕ
TOO_DEEP = 11

-- an initial target isn't properly below its state
abbrev pub INIT_NOT_BELOW : ℕ
INIT_NOT_BELOW = 12

-- an earlier row of the state has the same signal and no guard
abbrev pub TWO_ROWS : ℕ
TWO_ROWS = 13

-- a list or table has too many members, or none where one is needed
abbrev pub TOO_MANY : ℕ
TOO_MANY = 14

-- no pool has blocks for the parameters of a signal
abbrev pub NO_POOL : ℕ
NO_POOL = 15

-- all codes, in their order
abbrev pub chart_codes : List ℕ
chart_codes =
    NOT_TOML ∷ WRONG_KIND ∷ MISSING ∷ UNKNOWN ∷ RANGE ∷ DOUBLE ∷ NO_SUCH_NAME ∷ BAD_TEXT
    ∷ WRONG_ARITY ∷ PARENT_LOOP ∷ TOO_DEEP ∷ INIT_NOT_BELOW ∷ TWO_ROWS ∷ TOO_MANY ∷ NO_POOL ∷ []
