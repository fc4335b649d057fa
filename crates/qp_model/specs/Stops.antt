-- The codes with which a lane stops.
use Rattle.std.specs.Prelude.{ℕ}

-- the five assertions: a queue is too full
abbrev pub no_entry : ℕ
no_entry = 1

-- a pool has no block
abbrev pub no_block : ℕ
no_block = 2

-- a time event is armed already
abbrev pub armed : ℕ
armed = 3

-- a time event's values are out of range
abbrev pub bad_ticks : ℕ
bad_ticks = 4

-- a last-in post finds no room
abbrev pub no_lifo : ℕ
no_lifo = 5

-- an object has taken its budget, or the lane is full
abbrev pub spent_or_full : ℕ
spent_or_full = 6

-- memory was refused
abbrev pub memory : ℕ
memory = 7
