-- What the words of a system hold by the records of all lanes.
use Rattle.std.specs.Prelude.{ℕ, ◌==◌, List, [], ◌∷◌, if◌then◌else◌, Some, None}
use Rattle.std.specs.declared.option.Option.{Option}
use Rattle.qp_model.specs.declared.record.Rec.{Rec}
use Rattle.qp_model.specs.declared.words.Word.TheVariants as word
use Rattle.qp_model.specs.declared.systems.System.{System}
use Rattle.qp_model.specs.declared.bodies.Body.{Body}
use Rattle.qp_model.specs.declared.bodies.Body.TheVariants.{New, Back}
use Rattle.qp_model.specs.Record.{Item}
use Rattle.qp_model.specs.Told.{Event}
use Rattle.qp_model.specs.History.{hist, all_items}
use Rattle.qp_model.specs.Machine.{after}
use Rattle.qp_model.specs.FreeBlocks.{Pool, free_blocks}
use Rattle.qp_model.specs.References.{Refs, references}
use Rattle.qp_model.specs.Line.{Line, line}
use Rattle.qp_model.specs.Subscribers.{Subscribers, subscribers}
use Rattle.qp_model.specs.TimeEvents.{Clock, time_event}
use Rattle.qp_model.specs.Lives.{Life, life_of}
use Rattle.qp_model.specs.Sites.{ring_of, blocks_of}

-- the free blocks of a pool
unfoldable pub pool_in : System → List (List Rec) → ℕ → Pool
unfolding after hist all_items
pool_in sys lanes p = after (free_blocks (blocks_of sys p)) (hist (word.Pool p) (all_items lanes))

-- whether a block is given out
unfoldable pub life_in : List (List Rec) → ℕ → ℕ → Life
unfolding after hist all_items
life_in lanes p b = after (life_of b) (hist (word.Pool p) (all_items lanes))

-- the references to a block
unfoldable pub refs_in : List (List Rec) → ℕ → ℕ → Refs
unfolding after hist all_items
refs_in lanes p b = after references (hist (word.Block p b) (all_items lanes))

-- the line of a queue
unfoldable pub line_in : System → List (List Rec) → ℕ → Line
unfolding after hist all_items ring_of
line_in sys lanes a = after (line (ring_of sys a)) (hist (word.Queue a) (all_items lanes))

-- the subscribers of a signal
unfoldable pub set_in : List (List Rec) → ℕ → Subscribers
unfolding after hist all_items
set_in lanes sig = after subscribers (hist (word.Signal sig) (all_items lanes))

-- a time event
unfoldable pub clock_in : List (List Rec) → ℕ → Clock
unfolding after hist all_items
clock_in lanes t = after time_event (hist (word.Timer t) (all_items lanes))

-- The event in a block: that with which it was given out, until it comes back.
abbrev pub cell_next : ℕ → Option Event → Body → Option Event
cell_next b e (New p n c from sig pars) = if c == b then Some (record { sig = sig; pars = pars }) else e
cell_next b e (Back p n c to) = if c == b then None else e
cell_next b e _ = e

unfoldable pub cell_after : ℕ → Option Event → List Item → Option Event
cell_after b e [] = e
cell_after b e (i ∷ is) = cell_after b (cell_next b e i.body) is

unfoldable pub cell_in : List (List Rec) → ℕ → ℕ → Option Event
unfolding cell_after hist all_items
cell_in lanes p b = cell_after b None (hist (word.Pool p) (all_items lanes))
