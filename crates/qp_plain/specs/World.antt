-- What is true of a world: its words beside its records.
use Rattle.std.specs.Prelude.{◌≡◌, ℕ, ◌≤◌, ◌==◌, Bool, true, false, ◌&&◌, ◌||◌, List, [], ◌∷◌, if◌then◌else◌, Some, None}
use Rattle.std.specs.declared.option.Option.{Option}
use Rattle.std.specs.List.{list_all, list_any}
use Rattle.qp_base.specs.declared.event.Ev.{Ev}
use Rattle.qp_model.specs.declared.record.Rec.{Rec}
use Rattle.qp_model.specs.declared.systems.System.{System}
use Rattle.qp_model.specs.FreeBlocks.{Pool}
use Rattle.qp_model.specs.TimeEvents.{Clock}
use Rattle.qp_calls.specs.LaneView.{codes_in}
use Rattle.qp_plain_words.specs.declared.block.BlockWord.{BlockWord}
use Rattle.qp_plain_words.specs.declared.signal.SignalWord.{SignalWord}
use Rattle.qp_plain_words.specs.Queue.{Queue}
use Rattle.qp_plain_sound.specs.Sound.{SoundWorld}
use Rattle.qp_calls_log.specs.declared.log.Log.{Log}
use Rattle.qp_plain.specs.Tables.{PoolsHold, BlocksHold, CellsHold, QueuesHold, SignalsHold, TimersHold, Limits}

pub record WorldHolds (sys : System) (lanes : List (List Rec)) (order : List ℕ) (pools : List Pool) (blocks : List BlockWord) (cells : List Ev)
    (queues : List Queue) (signals : List SignalWord) (timers : List Clock) : Type 0 where
  pub world : SoundWorld sys lanes order
  pub limits : Limits sys
  pub pools_hold : PoolsHold sys lanes pools
  pub blocks_hold : BlocksHold sys lanes blocks
  pub cells_hold : CellsHold sys lanes cells
  pub queues_hold : QueuesHold sys lanes queues
  pub signals_hold : SignalsHold sys lanes signals
  pub timers_hold : TimersHold sys lanes timers

-- The stop word: 0 where no lane handed in a code or found one; else a code that a lane handed in, and all that any lane found.
abbrev pub no_codes : List ℕ → Bool
no_codes [] = true
no_codes (c ∷ cs) = false

abbrev pub fits_stop : ℕ → Log → Bool
fits_stop code g = if code == 0 then no_codes g.stops.list && no_codes (codes_in g.answered.list) else list_all (λ c. c == code) (codes_in g.answered.list)

abbrev pub was_handed : ℕ → Log → Bool
was_handed code g = list_any (λ c. c == code) g.stops.list

-- what a question finds, by the word
abbrev pub code_found : ℕ → Option ℕ
code_found n = if n == 0 then None else Some n

-- the word after a code is handed in: a code once set stays
abbrev pub word_after : ℕ → ℕ → ℕ
word_after code word = if word == 0 then code else word

pub record StopIs (code : ℕ) (logs : List Log) : Type 0 where
  pub few : code ≤ 7
  pub fits : list_all (fits_stop code) logs ≡ true
  pub handed : ((code == 0) || list_any (was_handed code) logs) ≡ true
