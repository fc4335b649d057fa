-- The kinds of journal items: the number of each, which is its id in frames, its word and its sort.
use Rattle.std.specs.Prelude.{ℕ, List, [], ◌∷◌, map, codes}

abbrev pub QP : ℕ
QP = 1

abbrev pub LANE : ℕ
LANE = 2

abbrev pub END_LINE : ℕ
END_LINE = 3

abbrev pub BEGIN : ℕ
BEGIN = 4

abbrev pub TOOK : ℕ
TOOK = 5

abbrev pub NIL : ℕ
NIL = 6

abbrev pub SEEN : ℕ
SEEN = 7

abbrev pub RUN : ℕ
RUN = 8

abbrev pub NONE : ℕ
NONE = 9

abbrev pub EXIT : ℕ
EXIT = 10

abbrev pub ENTER : ℕ
ENTER = 11

abbrev pub INIT : ℕ
INIT = 12

abbrev pub SAY : ℕ
SAY = 13

abbrev pub DONE : ℕ
DONE = 14

abbrev pub NEW : ℕ
NEW = 15

abbrev pub SHORT : ℕ
SHORT = 16

abbrev pub INC : ℕ
INC = 17

abbrev pub DEC : ℕ
DEC = 18

abbrev pub BACK : ℕ
BACK = 19

abbrev pub POST : ℕ
POST = 20

abbrev pub LIFO : ℕ
LIFO = 21

abbrev pub FULL : ℕ
FULL = 22

abbrev pub PUB : ℕ
PUB = 23

abbrev pub LOCK : ℕ
LOCK = 24

abbrev pub UNLOCK : ℕ
UNLOCK = 25

abbrev pub DEFER : ℕ
DEFER = 26

abbrev pub NODEFER : ℕ
NODEFER = 27

abbrev pub RECALL : ℕ
RECALL = 28

abbrev pub NORECALL : ℕ
NORECALL = 29

abbrev pub FLUSH : ℕ
FLUSH = 30

abbrev pub SUB : ℕ
SUB = 31

abbrev pub UNSUB : ℕ
UNSUB = 32

abbrev pub SAME : ℕ
SAME = 33

abbrev pub ARM : ℕ
ARM = 34

abbrev pub DISARM : ℕ
DISARM = 35

abbrev pub REARM : ℕ
REARM = 36

abbrev pub IDLE : ℕ
IDLE = 37

abbrev pub TICK : ℕ
TICK = 38

abbrev pub FIRE : ℕ
FIRE = 39

abbrev pub STIM : ℕ
STIM = 40

abbrev pub SETTLE : ℕ
SETTLE = 41

abbrev pub ASSERT : ℕ
ASSERT = 42

abbrev pub SPENT : ℕ
SPENT = 43

abbrev pub SPILL : ℕ
SPILL = 44

abbrev pub LOOK : ℕ
LOOK = 45

abbrev pub REST : ℕ
REST = 46

-- what an item is: a head or the end of a journal or a lane, a note, or a record of a call; `assert` is one of them by its code
pub data Sort : Type 0 where
  Head : Sort
  Note : Sort
  Call : Sort
  ByCode : Sort

-- a kind by its number, its word and its sort
pub record Kind : Type 0 where
  pub id : ℕ
  pub word : List ℕ
  pub sort : Sort

abbrev pub kind : ℕ → List ℕ → Sort → Kind
kind id word sort = record { id = id; word = word; sort = sort }

-- all kinds, by their numbers from 1 on
abbrev pub kinds : List Kind
kinds =
    kind QP (codes "qp") Head
    ∷ kind LANE (codes "lane") Head
    ∷ kind END_LINE (codes "end") Head
    ∷ kind BEGIN (codes "begin") Note
    ∷ kind TOOK (codes "took") Call
    ∷ kind NIL (codes "nil") Call
    ∷ kind SEEN (codes "seen") Call
    ∷ kind RUN (codes "run") Note
    ∷ kind NONE (codes "none") Note
    ∷ kind EXIT (codes "exit") Note
    ∷ kind ENTER (codes "enter") Note
    ∷ kind INIT (codes "init") Note
    ∷ kind SAY (codes "say") Note
    ∷ kind DONE (codes "done") Note
    ∷ kind NEW (codes "new") Call
    ∷ kind SHORT (codes "short") Call
    ∷ kind INC (codes "inc") Call
    ∷ kind DEC (codes "dec") Call
    ∷ kind BACK (codes "back") Call
    ∷ kind POST (codes "post") Call
    ∷ kind LIFO (codes "lifo") Call
    ∷ kind FULL (codes "full") Call
    ∷ kind PUB (codes "pub") Call
    ∷ kind LOCK (codes "lock") Note
    ∷ kind UNLOCK (codes "unlock") Note
    ∷ kind DEFER (codes "defer") Note
    ∷ kind NODEFER (codes "nodefer") Note
    ∷ kind RECALL (codes "recall") Note
    ∷ kind NORECALL (codes "norecall") Note
    ∷ kind FLUSH (codes "flush") Note
    ∷ kind SUB (codes "sub") Call
    ∷ kind UNSUB (codes "unsub") Call
    ∷ kind SAME (codes "same") Call
    ∷ kind ARM (codes "arm") Call
    ∷ kind DISARM (codes "disarm") Call
    ∷ kind REARM (codes "rearm") Call
    ∷ kind IDLE (codes "idle") Call
    ∷ kind TICK (codes "tick") Call
    ∷ kind FIRE (codes "fire") Call
    ∷ kind STIM (codes "stim") Note
    ∷ kind SETTLE (codes "settle") Note
    ∷ kind ASSERT (codes "assert") ByCode
    ∷ kind SPENT (codes "spent") Note
    ∷ kind SPILL (codes "spill") Note
    ∷ kind LOOK (codes "look") Note
    ∷ kind REST (codes "rest") Note
    ∷ []

-- the words and the sorts by number, from 0 on, which is none
abbrev pub kind_words : List (List ℕ)
kind_words = [] ∷ map (λ k. k.word) kinds

abbrev pub sorts : List Sort
sorts = Head ∷ map (λ k. k.sort) kinds
