-- What the tables of a world hold of its words.
use Rattle.std.specs.Prelude.{◌≡◌, ℕ, ◌+◌, ◌-◌, ◌*◌, ◌<◌, ◌≤◌, true, List, [], length, get_or, slice_get, IsTrue, Some}
use Rattle.std.specs.declared.option.Option.{Option}
use Rattle.std.specs.Option.{option_map}
use Rattle.qp_base.specs.declared.event.Ev.{Ev}
use Rattle.qp_model.specs.declared.record.Rec.{Rec}
use Rattle.qp_model.specs.declared.systems.System.{System}
use Rattle.qp_model.specs.FreeBlocks.{Pool}
use Rattle.qp_model.specs.TimeEvents.{Clock}
use Rattle.qp_model.specs.Subscribers.{Subscribers, bits_of_set}
use Rattle.qp_model.specs.Sites.{ring_of}
use Rattle.qp_model.specs.Told.{Event}
use Rattle.qp_model.specs.WordLaw.{is_pool, is_block, is_object, is_signal, is_timer}
use Rattle.qp_calls.specs.Clauses.{event_of}
use Rattle.qp_plain_words.specs.declared.block.BlockWord.{BlockWord}
use Rattle.qp_plain_words.specs.declared.signal.SignalWord.{SignalWord}
use Rattle.qp_plain_words.specs.Queue.{Queue, empty_line}
use Rattle.qp_plain_words.specs.Sets.{are_members}
use Rattle.qp_plain_sound.specs.WordStates.{pool_in, refs_in, line_in, set_in, clock_in, cell_in}

-- what stands outside of a table
abbrev pub no_pool : Pool
no_pool = record { count = 0; free = [] }

abbrev pub free_block : BlockWord
free_block = record { ops = 0; refs = 0 }

abbrev pub no_queue : Queue
no_queue = record { line = empty_line; ring = 0 }

abbrev pub no_signal : SignalWord
no_signal = record { ops = 0; set = 0 }

abbrev pub no_clock : Clock
no_clock = record { count = 0; counter = 0; interval = 0 }

-- the place of a block in the tables of blocks and events
abbrev pub block_place : ℕ → ℕ → ℕ
block_place p b = (p - 1) * 32 + b

-- a pool in the place of its number less 1
pub record PoolsHold (sys : System) (lanes : List (List Rec)) (table : List Pool) : Type 0 where
  pub long : length table ≡ length sys.pools
  pub pool : (p : ℕ) → IsTrue (is_pool sys p) → get_or table (p - 1) no_pool ≡ pool_in sys lanes p

pub record BlocksHold (sys : System) (lanes : List (List Rec)) (table : List BlockWord) : Type 0 where
  pub long : length table ≡ 480
  pub ops : (p b : ℕ) → IsTrue (is_block sys p b) → (get_or table (block_place p b) free_block).ops ≡ (refs_in lanes p b).count
  pub refs : (p b : ℕ) → IsTrue (is_block sys p b) → (get_or table (block_place p b) free_block).refs ≡ length (refs_in lanes p b).names

-- the event of each block that is given out
abbrev pub event_at : List Ev → ℕ → Option Event
event_at table k = option_map event_of (slice_get table k)

pub record CellsHold (sys : System) (lanes : List (List Rec)) (table : List Ev) : Type 0 where
  pub long : length table ≡ 480
  pub event : (p b : ℕ) → IsTrue (is_block sys p b) → (ev : Event) → cell_in lanes p b ≡ Some ev → event_at table (block_place p b) ≡ Some ev

-- a queue in the place of its object's priority
pub record QueuesHold (sys : System) (lanes : List (List Rec)) (table : List Queue) : Type 0 where
  pub long : length table ≡ 33
  pub queue : (a : ℕ) → IsTrue (is_object sys a) → get_or table a no_queue ≡ record { line = line_in sys lanes a; ring = ring_of sys a }

-- the word of a signal as its machine has it
pub record SignalIs (w : SignalWord) (s : Subscribers) : Type 0 where
  pub ops : w.ops ≡ s.count
  pub set : w.set ≡ bits_of_set s.members
  pub members : are_members s.members ≡ true

-- a signal in the place of its number less 4
pub record SignalsHold (sys : System) (lanes : List (List Rec)) (table : List SignalWord) : Type 0 where
  pub long : length table ≡ length sys.signals
  pub signal : (sig : ℕ) → IsTrue (is_signal sys sig) → SignalIs (get_or table (sig - 4) no_signal) (set_in lanes sig)

-- a time event in the place of its number less 1
pub record TimersHold (sys : System) (lanes : List (List Rec)) (table : List Clock) : Type 0 where
  pub long : length table ≡ length sys.timers
  pub timer : (t : ℕ) → IsTrue (is_timer sys t) → get_or table (t - 1) no_clock ≡ clock_in lanes t

-- the limits of a system that its words need
pub record Limits (sys : System) : Type 0 where
  pub pools : length sys.pools ≤ 15
  pub blocks : (p b : ℕ) → IsTrue (is_block sys p b) → b < 32
  pub objects : (a : ℕ) → IsTrue (is_object sys a) → (0 < a) × (a ≤ 32)
