-- What a stimulus comes to.
use Rattle.std.specs.Prelude.{◌≡◌, ◌≢◌, ◌⊎◌, ℕ, ◌≤◌, Bool, true, false, List, [], ◌∷◌, ◌++◌}
use Rattle.qp_model.specs.declared.stimulus.Stim.{Stim}
use Rattle.qp_model.specs.declared.stimulus.Stim.TheVariants as stim
use Rattle.qp_model.specs.declared.systems.System.{System}
use Rattle.qp_model.specs.declared.bodies.Body.TheVariants as body
use Rattle.qp_model.specs.Told.{Told, plain}
use Rattle.qp_model.specs.Sources.{SeesEntry, StimFits, priorities}
use Rattle.qp_calls.specs.LaneView.{LaneView, Grows}
use Rattle.qp_calls.specs.Clauses.{Stops}
use Rattle.qp_calls.specs.Halting.{HaltsDry, HaltsFull}
use Rattle.qp_calls.specs.Notes.{last_code}
use Rattle.qp_calls_stimulus.specs.declared.doing.Stimulated.{Stimulated}
use Rattle.qp_calls_stimulus.specs.declared.doing.Stimulated.TheVariants as stimulated
use Rattle.qp_calls_stimulus.specs.Settling.{HasEntry}

-- the records of a stimulus, from its `stim` on
abbrev pub begun_records : ℕ → ℕ → List Told → List Told
begun_records place look one = plain (body.Stim place look) ∷ one

-- a full lane told its `spill`, and one without memory did not; either has stopped
abbrev pub StimulusHalts : LaneView → LaneView → Stimulated → Type 0
StimulusHalts v w stimulated.Stopped = HaltsFull v w
StimulusHalts v w stimulated.Memory = HaltsDry v w
StimulusHalts v w _ = ⊥

-- all records came, and the hands are as they were
pub record StimulusHappens (sys : System) (s : Stim) (place look : ℕ) (v w : LaneView) : Type 0 where
  pub one : List Told
  pub grows : Grows (begun_records place look one) v w
  pub fits : (kernel : ℕ) → StimFits sys kernel s false one
  pub hands : w.hands ≡ v.hands

-- a `settle` saw an entry
pub record StimulusTries (sys : System) (s : Stim) (place look : ℕ) (v w : LaneView) : Type 0 where
  pub settle : s ≡ stim.Settle
  pub one : List Told
  pub grows : Grows (begun_records place look (plain body.Settle ∷ one)) v w
  pub fits : SeesEntry (priorities sys) one
  pub hands : w.hands ≡ v.hands
  pub found : HasEntry sys v w

-- an assertion ended it, and the lane stopped with its code, which is that of the last record
pub record StimulusAsserts (sys : System) (s : Stim) (place look : ℕ) (v w : LaneView) : Type 0 where
  pub one : List Told
  pub mid : LaneView
  pub code : ℕ
  pub grows : Grows (begun_records place look one) v mid
  pub fits : (kernel : ℕ) → StimFits sys kernel s true one
  pub some : 1 ≤ code
  pub few : code ≤ 5
  pub last : last_code mid.told ≡ code
  pub stops : Stops code mid w

-- the lane had no room within it, spilled and stopped; with what is missing the stimulus would be whole
pub record Spills (sys : System) (s : Stim) (place look : ℕ) (v w : LaneView) : Type 0 where
  pub one : List Told
  pub back : List Told
  pub asserted : Bool
  pub mid : LaneView
  pub grows : Grows (begun_records place look one) v mid
  pub fits : (kernel : ℕ) → StimFits sys kernel s asserted (one ++ back)
  pub some : back ≢ []
  pub halts : HaltsFull mid w

-- memory was refused to a lane that isn't full, and it stopped
pub record Exhausts (v w : LaneView) : Type 0 where
  pub g : List Told
  pub mid : LaneView
  pub grows : Grows g v mid
  pub own : (a : ℕ) → mid.own a ≡ v.own a
  pub dry : HaltsDry mid w

-- the lane knows as many last-in posts and takes of each queue as before
abbrev pub KeepsOwn : LaneView → LaneView → Type 0
KeepsOwn v w = (a : ℕ) → w.own a ≡ v.own a

-- a lane that stopped had no room before the `stim`, or else stopped within the stimulus
abbrev pub Stimulates : System → Stim → ℕ → ℕ → LaneView → LaneView → Stimulated → Type 0
Stimulates sys s place look v w stimulated.Done = StimulusHappens sys s place look v w
Stimulates sys s place look v w stimulated.Tried = StimulusTries sys s place look v w
Stimulates sys s place look v w stimulated.Stopped = StimulusAsserts sys s place look v w ⊎ Spills sys s place look v w ⊎ HaltsFull v w
Stimulates sys s place look v w stimulated.Memory = Exhausts v w

-- The gate was told of the stimulus, unless the lane gave up before its `stim`.
abbrev pub StimulusTells : ℕ → LaneView → LaneView → List ℕ → List ℕ → Stimulated → Type 0
StimulusTells place v w old new stimulated.Done = new ≡ place ∷ old
StimulusTells place v w old new stimulated.Tried = new ≡ place ∷ old
StimulusTells place v w old new stimulated.Stopped = (new ≡ place ∷ old) ⊎ ((new ≡ old) × HaltsFull v w)
StimulusTells place v w old new stimulated.Memory = (new ≡ place ∷ old) ⊎ ((new ≡ old) × HaltsDry v w)
