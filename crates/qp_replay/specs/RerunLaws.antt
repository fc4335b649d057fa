-- A lawful journal's records, made once more in the world of one thread.
use Rattle.std.specs.Prelude.{◌≡◌, ℕ, false, IsTrue, ⊤, length, List, [], ◌∷◌, ◌++◌, slice_get, Some, None}
use Rattle.std.specs.declared.option.Option.{Option}
use Rattle.std.specs.List.{filter_map}
use Rattle.std.specs.Option.{option_and_then, option_map}
use Rattle.qp_model.specs.declared.record.Rec.{Rec}
use Rattle.qp_model.specs.declared.stimulus.Stim.{Stim}
use Rattle.qp_model.specs.declared.systems.System.{System}
use Rattle.qp_model.specs.declared.journals.Journal.{Journal}
use Rattle.qp_model.specs.declared.bodies.Body.{Body}
use Rattle.qp_model.specs.declared.bodies.Body.TheVariants.{Arm, Rearm}
use Rattle.qp_model.specs.Record.{item_of}
use Rattle.qp_model.specs.Shapes.{ticks_fit}
use Rattle.qp_model.specs.Ends.{spills_in}
use Rattle.qp_model.specs.History.{lane_items}
use Rattle.qp_model.specs.OneOrder.{Placed}
use Rattle.qp_model.specs.Places.{IsSerial, RecordPlace}
use Rattle.qp_model.specs.Sound.{IsSound}
use Rattle.qp_model.specs.Lawful.{Lawful}
use Rattle.qp_stim.specs.Rules.{StimuliFit}
use Rattle.qp_plain_sound.specs.Log.{empty_lanes, lane_recs, log_of, with_record}
use Rattle.qp_plain_sound.specs.May.{May}
use Rattle.qp_plain_sound.specs.Sound.{SoundWorld, hands_in}

-- the record at a place
abbrev pub record_at : List (List Rec) → RecordPlace → Option Rec
record_at lanes x = option_and_then (λ lane. slice_get lane x.at) (slice_get lanes x.lane)

-- a world of one thread: its lanes, and the lane of each record in the order of the calls
pub record World : Type 0 where
  pub lanes : List (List Rec)
  pub order : List ℕ

abbrev pub with_next : World → ℕ → Option Rec → World
with_next w a None = w
with_next w a (Some r) = record { lanes = with_record w.lanes a r; order = w.order ++ a ∷ [] }

-- the world after the records at these places, each at the end of its lane
unfoldable pub made_on : List (List Rec) → World → List RecordPlace → World
made_on lanes w [] = w
made_on lanes w (x ∷ xs) = made_on lanes (with_next w x.lane (record_at lanes x)) xs

-- the same from a new world with as many lanes
unfoldable pub made : List (List Rec) → List RecordPlace → World
unfolding made_on
made lanes order = made_on lanes (record { lanes = empty_lanes (length lanes); order = [] }) order

-- the records at these places, with their lanes
unfoldable pub placed_at : List (List Rec) → List RecordPlace → List Placed
placed_at lanes order = filter_map (λ x. option_map (λ r. record { lane = x.lane; item = item_of r }) (record_at lanes x)) order

-- the ticks and the interval are those of a timer
abbrev pub TicksFit : Body → Type 0
TicksFit (Arm t n ticks interval) = IsTrue (ticks_fit ticks interval)
TicksFit (Rearm t n former ticks) = IsTrue (ticks_fit ticks 0)
TicksFit b = ⊤

-- The record may come next at the end of lane a: its word holds what it says, its tokens stand in the hands, its numbers are those of a
-- call, and the lane hasn't ended with a `spill`.
pub record ComesNext (sys : System) (w : World) (a : ℕ) (r : Rec) : Type 0 where
  pub may : May sys w.lanes (hands_in sys w.lanes w.order) (item_of r).of (item_of r).body
  pub ticks : TicksFit (item_of r).body
  pub goes_on : spills_in (lane_items (lane_recs w.lanes a)) ≡ false

-- Where the world stands behind some records of the order: it is sound, its one list of records are those, and the next record may come.
pub record RerunGoesOn (sys : System) (lanes : List (List Rec)) (front behind : List RecordPlace) : Type 0 where
  pub sound : SoundWorld sys (made lanes front).lanes (made lanes front).order
  pub log : log_of (made lanes front).lanes (made lanes front).order ≡ placed_at lanes front
  pub next : (x : RecordPlace) (others : List RecordPlace) (r : Rec) → behind ≡ x ∷ others → record_at lanes x ≡ Some r → ComesNext sys (made lanes front) x.lane r

-- Along a serial order of a lawful journal one thread can make each record in its turn, and in the end its lanes are the journal's.
abbrev pub OneThreadMakesIt : Type 0
OneThreadMakesIt =
    (sys : System) (stimuli : List (List Stim)) (j : Journal) (order : List RecordPlace) → IsSound sys → StimuliFit sys stimuli → Lawful sys stimuli j → IsSerial j.lanes order
    → ((front behind : List RecordPlace) → order ≡ front ++ behind → RerunGoesOn sys j.lanes front behind) × ((made j.lanes order).lanes ≡ j.lanes)
