-- The keys of a system's file: the number of each, by which a path holds it, and its word. A key has one number in every table, given by
-- its first appearance in the description of the file.
use Rattle.std.specs.Prelude.{ℕ, List, [], ◌∷◌, map, codes}

abbrev pub QP : ℕ
QP = 1

abbrev pub POOL : ℕ
POOL = 2

abbrev pub SIGNAL : ℕ
SIGNAL = 3

abbrev pub CHART : ℕ
CHART = 4

abbrev pub OBJECT : ℕ
OBJECT = 5

abbrev pub SIZE : ℕ
SIZE = 6

abbrev pub BLOCKS : ℕ
BLOCKS = 7

abbrev pub NAME : ℕ
NAME = 8

abbrev pub PARAMS : ℕ
PARAMS = 9

abbrev pub STATIC : ℕ
STATIC = 10

abbrev pub INIT : ℕ
INIT = 11

abbrev pub INIT_DO : ℕ
INIT_DO = 12

abbrev pub VARS : ℕ
VARS = 13

abbrev pub TIMER : ℕ
TIMER = 14

abbrev pub STATE : ℕ
STATE = 15

abbrev pub RATE : ℕ
RATE = 16

abbrev pub PARENT : ℕ
PARENT = 17

abbrev pub ENTRY : ℕ
ENTRY = 18

abbrev pub EXIT : ℕ
EXIT = 19

abbrev pub ROW : ℕ
ROW = 20

abbrev pub ON : ℕ
ON = 21

abbrev pub WHEN : ℕ
WHEN = 22

abbrev pub DO : ℕ
DO = 23

abbrev pub TO : ℕ
TO = 24

abbrev pub PRIORITY : ℕ
PRIORITY = 25

abbrev pub QUEUE : ℕ
QUEUE = 26

abbrev pub DEFER : ℕ
DEFER = 27

abbrev pub THRESHOLD : ℕ
THRESHOLD = 28

-- the numbers with their words
abbrev pub keys : List (ℕ × List ℕ)
keys =
    (QP, codes "qp") ∷ (POOL, codes "pool") ∷ (SIGNAL, codes "signal") ∷ (CHART, codes "chart")
    ∷ (OBJECT, codes "object") ∷ (SIZE, codes "size") ∷ (BLOCKS, codes "blocks") ∷ (NAME, codes "name")
    ∷ (PARAMS, codes "params") ∷ (STATIC, codes "static") ∷ (INIT, codes "init") ∷ (INIT_DO, codes "init_do")
    ∷ (VARS, codes "vars") ∷ (TIMER, codes "timer") ∷ (STATE, codes "state") ∷ (RATE, codes "rate")
    ∷ (PARENT, codes "parent") ∷ (ENTRY, codes "entry") ∷ (EXIT, codes "exit") ∷ (ROW, codes "row")
    ∷ (ON, codes "on") ∷ (WHEN, codes "when") ∷ (DO, codes "do") ∷ (TO, codes "to")
    ∷ (PRIORITY, codes "priority") ∷ (QUEUE, codes "queue") ∷ (DEFER, codes "defer") ∷ (THRESHOLD, codes "threshold")
    ∷ []

-- the words in the order of the numbers; no key has number 0
abbrev pub key_words : List (List ℕ)
key_words = [] ∷ map (λ key. key.1) keys
