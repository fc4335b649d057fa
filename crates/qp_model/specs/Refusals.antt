-- What a refusal shows, in the words of the subject.
use Rattle.std.specs.Prelude.{◌≡◌, ℕ, ◌+◌, ◌<◌, ◌≤◌, List, [], ◌∷◌, ◌++◌, length, take, IsTrue}
use Rattle.qp_model.specs.declared.record.Rec.{Rec}
use Rattle.qp_model.specs.declared.systems.System.{System}
use Rattle.qp_model.specs.declared.words.Word.TheVariants as word
use Rattle.qp_model.specs.declared.bodies.Body.{Body}
use Rattle.qp_model.specs.declared.bodies.Body.TheVariants.{Nil, Full, NoEntry, NoLifo, Short, NoBlock, Armed, Idle}
use Rattle.qp_model.specs.Record.{Item}
use Rattle.qp_model.specs.History.{all_items}
use Rattle.qp_model.specs.Machine.{after}
use Rattle.qp_model.specs.FreeBlocks.{Pool, free_blocks}
use Rattle.qp_model.specs.Line.{Line, line}
use Rattle.qp_model.specs.TimeEvents.{Clock, time_event}
use Rattle.qp_model.specs.Sites.{ring_of, blocks_of}
use Rattle.qp_model.specs.WordLaw.{Words, is_pool, is_object, is_timer}
use Rattle.qp_model.specs.Promises.{operations}

-- one of the lanes has the record of object o
abbrev pub IsRecorded : List (List Rec) → ℕ → Body → Type 0
IsRecorded lanes o b = (earlier : List Item) × (later : List Item) × (all_items lanes ≡ earlier ++ record { of = o; body = b } ∷ later)

-- the queue of a after so many operations
unfoldable pub line_at : System → List (List Rec) → ℕ → ℕ → Line
unfolding after operations ring_of
line_at sys lanes a n = after (line (ring_of sys a)) (take n (operations (word.Queue a) lanes))

-- the pool after so many operations
unfoldable pub pool_after : System → List (List Rec) → ℕ → ℕ → Pool
unfolding after operations
pool_after sys lanes p n = after (free_blocks (blocks_of sys p)) (take n (operations (word.Pool p) lanes))

-- the time event after so many operations
unfoldable pub clock_at : List (List Rec) → ℕ → ℕ → Clock
unfolding after operations
clock_at lanes t n = after time_event (take n (operations (word.Timer t) lanes))

-- the line has had these first-in posts, last-in posts and takes
pub record HasCounts (f l m : ℕ) (s : Line) : Type 0 where
  pub first_in : s.f ≡ f
  pub last_in : s.l ≡ l
  pub takes : s.m ≡ m

-- the free entries of a queue with a ring of this length are at most the margin
abbrev pub HasAtMost : ℕ → ℕ → Line → Type 0
HasAtMost ring margin s = ring + 1 ≤ length s.entries + margin

-- a `full` states the counts of its queue, which then had at most the margin free
abbrev pub FullShows : Type 0
FullShows =
    (sys : System) (lanes : List (List Rec)) → Words sys lanes → (a : ℕ) → IsTrue (is_object sys a) → (o f l m margin : ℕ) → IsRecorded lanes o (Full a f l m margin)
    → HasCounts f l m (line_at sys lanes a (f + l + m)) × HasAtMost (ring_of sys a) margin (line_at sys lanes a (f + l + m))

-- assertions 1 and 5 state the counts of a queue that then was full
abbrev pub NoEntryShows : Type 0
NoEntryShows =
    (sys : System) (lanes : List (List Rec)) → Words sys lanes → (a : ℕ) → IsTrue (is_object sys a) → (o f l m : ℕ) → IsRecorded lanes o (NoEntry a f l m)
    → HasCounts f l m (line_at sys lanes a (f + l + m)) × (length (line_at sys lanes a (f + l + m)).entries ≡ ring_of sys a + 1)

abbrev pub NoLifoShows : Type 0
NoLifoShows =
    (sys : System) (lanes : List (List Rec)) → Words sys lanes → (a : ℕ) → IsTrue (is_object sys a) → (o f l m : ℕ) → IsRecorded lanes o (NoLifo a f l m)
    → HasCounts f l m (line_at sys lanes a (f + l + m)) × (length (line_at sys lanes a (f + l + m)).entries ≡ ring_of sys a + 1)

-- a `nil` states the counts of a queue that then was empty
abbrev pub NilShows : Type 0
NilShows =
    (sys : System) (lanes : List (List Rec)) → Words sys lanes → (a : ℕ) → IsTrue (is_object sys a) → (f l m : ℕ) → IsRecorded lanes a (Nil f l m)
    → HasCounts f l m (line_at sys lanes a (f + l + m)) × ((line_at sys lanes a (f + l + m)).entries ≡ [])

-- a `short` stands at a place of its pool's history, and states the blocks that were free there, which are at most its reserve
abbrev pub ShortShows : Type 0
ShortShows =
    (sys : System) (lanes : List (List Rec)) → Words sys lanes → (p : ℕ) → IsTrue (is_pool sys p) → (o n free reserve : ℕ) → IsRecorded lanes o (Short p n free reserve)
    → (n ≤ length (operations (word.Pool p) lanes)) × (length (pool_after sys lanes p n).free ≡ free) × (free ≤ reserve)

-- assertion 2 stands at a place of its pool's history where no block was free, and states that number
abbrev pub NoBlockShows : Type 0
NoBlockShows =
    (sys : System) (lanes : List (List Rec)) → Words sys lanes → (p : ℕ) → IsTrue (is_pool sys p) → (o n free : ℕ) → IsRecorded lanes o (NoBlock p n free)
    → (n ≤ length (operations (word.Pool p) lanes)) × ((pool_after sys lanes p n).free ≡ []) × (free ≡ 0)

-- assertion 3 states the counter of a time event that was armed at a place of its history, and `idle` stands where it wasn't
abbrev pub ArmedShows : Type 0
ArmedShows =
    (sys : System) (lanes : List (List Rec)) → Words sys lanes → (t : ℕ) → IsTrue (is_timer sys t) → (o n counter : ℕ) → IsRecorded lanes o (Armed t n counter)
    → (n ≤ length (operations (word.Timer t) lanes)) × ((clock_at lanes t n).counter ≡ counter) × (0 < counter)

abbrev pub IdleShows : Type 0
IdleShows =
    (sys : System) (lanes : List (List Rec)) → Words sys lanes → (t : ℕ) → IsTrue (is_timer sys t) → (o n : ℕ) → IsRecorded lanes o (Idle t n)
    → (n ≤ length (operations (word.Timer t) lanes)) × ((clock_at lanes t n).counter ≡ 0)
