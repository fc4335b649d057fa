-- The records of a lane stand on two tables: those of pools, blocks and queues, and those of signals and timers.
use Rattle.std.specs.Prelude.{◌≡◌, ℕ, Bool, true, false, List, [], ◌∷◌, IsTrue}
use Rattle.std.specs.List.{filter}
use Rattle.qp_model.specs.declared.record.Rec.{Rec}
use Rattle.qp_model.specs.declared.systems.System.{System}
use Rattle.qp_model.specs.declared.words.Word.TheVariants as word
use Rattle.qp_model.specs.Record.{Item}
use Rattle.qp_model.specs.History.{touch, Touch, Draws, Shows, lane_items}
use Rattle.qp_model.specs.Subscribers.{Subscribers, subscribers}
use Rattle.qp_model.specs.TimeEvents.{Clock, time_event}
use Rattle.qp_model.specs.WordLaw.{Keeps, Words, is_signal, is_timer}

-- the records of the event table, and those of the side table
abbrev pub on_table : Touch → Bool
on_table (Draws (word.Pool p) n) = true
on_table (Draws (word.Block p b) n) = true
on_table (Draws (word.Queue a) n) = true
on_table (Shows (word.Pool p) n) = true
on_table (Shows (word.Block p b) n) = true
on_table (Shows (word.Queue a) n) = true
on_table _ = false

abbrev pub on_side : Touch → Bool
on_side (Draws (word.Signal s) n) = true
on_side (Draws (word.Timer t) n) = true
on_side (Shows (word.Signal s) n) = true
on_side (Shows (word.Timer t) n) = true
on_side _ = false

-- each lane is another's records that pass the test
abbrev pub Thins : (Item → Bool) → List (List Rec) → List (List Rec) → Type 0
Thins t [] [] = Unit {0}
Thins t [] (x ∷ xs) = ⊥
Thins t (y ∷ ys) [] = ⊥
Thins t (y ∷ ys) (x ∷ xs) = (filter t (lane_items y) ≡ lane_items x) × Thins t ys xs

-- what the side table keep
pub record SideWords (sys : System) (lanes : List (List Rec)) : Type 0 where
  pub signals : (s : ℕ) → IsTrue (is_signal sys s) → Keeps Subscribers subscribers (word.Signal s) lanes
  pub timers : (t : ℕ) → IsTrue (is_timer sys t) → Keeps Clock time_event (word.Timer t) lanes

-- Whole lanes are lawful where their records of the event table are, and those of the side table; notes may stand between
abbrev pub WholeLanesAreLawful : Type 0
WholeLanesAreLawful = (sys : System) (lanes table side : List (List Rec)) → Thins (λ i. on_table (touch i)) lanes table → Thins (λ i. on_side (touch i)) lanes side → Words sys table → SideWords sys side → Words sys lanes
