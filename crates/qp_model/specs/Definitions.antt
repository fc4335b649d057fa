-- The definitions of a lawful journal, by the numbers that a verdict names.
use Rattle.std.specs.Prelude.{ℕ, List, [], ◌∷◌}

-- an object's records follow its chart
abbrev pub COURSE : ℕ
COURSE = 7

-- the numbers drawn on a word are 0, 1 and so on, and in no lane do its marks fall
abbrev pub DRAWN_NUMBERS : ℕ
DRAWN_NUMBERS = 9

-- a block is given out only while it is free
abbrev pub FREE_BLOCKS : ℕ
FREE_BLOCKS = 10

-- a reference is dropped only while it stands
abbrev pub REFERENCES : ℕ
REFERENCES = 11

-- a block has its references within its lives
abbrev pub LIVES : ℕ
LIVES = 12

-- a queue gives what was posted to it, in its order, and holds no more than it has room for
abbrev pub LINE : ℕ
LINE = 13

-- what is shown of a word is what its operations left
abbrev pub SHOWN_NUMBERS : ℕ
SHOWN_NUMBERS = 14

-- an object's records are those of calls, starts and steps
abbrev pub SHAPES : ℕ
SHAPES = 15

-- a signal's subscribers are those that subscribed
abbrev pub SUBSCRIBERS : ℕ
SUBSCRIBERS = 16

-- an object's deferred list gives what was deferred, in its order
abbrev pub DEFERRAL : ℕ
DEFERRAL = 17

-- a time event counts down as its ticks say
abbrev pub TIME_EVENTS : ℕ
TIME_EVENTS = 18

-- lane 0 is that of its kernel
abbrev pub KERNEL_LANE : ℕ
KERNEL_LANE = 19

-- each source's lane is its stimuli, there are no lanes more, and a run with one thread has one order
abbrev pub SOURCES : ℕ
SOURCES = 20

-- the end that is stated is that of the lanes
abbrev pub END_HOLDS : ℕ
END_HOLDS = 21

-- all numbers, in their order
abbrev pub definitions : List ℕ
definitions =
    COURSE ∷ DRAWN_NUMBERS ∷ FREE_BLOCKS ∷ REFERENCES ∷ LIVES ∷ LINE ∷ SHOWN_NUMBERS
    ∷ SHAPES ∷ SUBSCRIBERS ∷ DEFERRAL ∷ TIME_EVENTS ∷ KERNEL_LANE ∷ SOURCES ∷ END_HOLDS ∷ []
