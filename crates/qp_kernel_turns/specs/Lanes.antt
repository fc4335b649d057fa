-- The kernel's lane through the parts of a turn: it stays the same one, its records come one behind another, and a code is handed in only where the
-- run stops.
use Rattle.std.specs.Prelude.{◌≤◌, ◌≡◌, ℕ, ◌<◌, ◌⊎◌, Bool, false, List, ◌∷◌, ◌++◌, length, Ok, Err}
use Rattle.std.specs.declared.result.Result.{Result}
use Rattle.qp_calls.specs.LaneView.{Advances, Happening, LaneView}
use Rattle.qp_calls.specs.Notes.{last_code}
use Rattle.qp_dispatch.specs.declared.objects.Turn.{Turn}
use Rattle.qp_dispatch.specs.declared.objects.Turn.TheVariants as turn
use Rattle.qp_dispatch.specs.declared.steps.Step.{Step}
use Rattle.qp_dispatch.specs.declared.steps.Step.TheVariants as step
use Rattle.qp_kernel_turns.specs.declared.halting.Halt.{Halt}
use Rattle.qp_kernel_turns.specs.declared.halting.Halt.TheVariants as halt
use Rattle.qp_model.specs.Stops as stop

-- It is the same lane of the same world, for the same system and stimuli, which went on from what it knew. A lane that was given to code over any
-- lanes comes back as this, whatever the answer was.
pub record SameLane (v w : LaneView) : Type 0 where
  pub sys : w.sys ≡ v.sys
  pub lane : w.lane ≡ v.lane
  pub world : w.world ≡ v.world
  pub plan : w.plan ≡ v.plan
  pub happened : w.happened ≡ v.happened
  pub serves : (o : ℕ) → w.serves o ≡ v.serves o
  pub advances : Advances v w

-- a list with what came behind it
abbrev pub IsFrontOf : {A : Type 0} → List A → List A → Type 0
IsFrontOf {A} xs ys = (more : List A) × (ys ≡ xs ++ more)

-- the lane, where this has happened
abbrev pub where_happened : List Happening → LaneView → LaneView
where_happened hs v = record v { happened = hs }

-- The lane is the same one, but for what happened in its looks where its world has sources that act in them (`acts`). The former records are a front
-- of the later ones, and those of the log too.
pub record KeepsLane (acts : Bool) (v w : LaneView) : Type 0 where
  pub same : SameLane (where_happened w.happened v) w
  pub still : acts ≡ false → w.happened ≡ v.happened
  pub asks : acts ≡ false → v.asked ≤ w.asked
  pub told : IsFrontOf v.told w.told
  pub log : IsFrontOf v.log w.log

-- the lane handed in the code of its last record
pub record HandsCode (v w : LaneView) : Type 0 where
  pub some : 0 < last_code w.told
  pub stops : w.stops ≡ last_code w.told ∷ v.stops

-- it found the stop word set, and handed in none
pub record HasFound (v w : LaneView) : Type 0 where
  pub found : length v.answered < length w.answered
  pub stops : w.stops ≡ v.stops

-- for want of memory, and only for that, the lane hands in 7
abbrev pub HandsIn : LaneView → LaneView → Halt → Type 0
HandsIn v w halt.Stopped = HandsCode v w ⊎ HasFound v w
HandsIn v w halt.Memory = w.stops ≡ stop.memory ∷ v.stops

-- the run goes on: no code was handed in, and none was found
pub record LaneGoes (acts : Bool) (v w : LaneView) : Type 0 where
  pub keeps : KeepsLane acts v w
  pub stops : w.stops ≡ v.stops
  pub answered : w.answered ≡ v.answered

-- it doesn't
pub record LaneHalts (acts : Bool) (v w : LaneView) (h : Halt) : Type 0 where
  pub keeps : KeepsLane acts v w
  pub handed : HandsIn v w h

abbrev pub LaneTo : {A : Type 0} → Bool → LaneView → LaneView → Result A Halt → Type 0
LaneTo acts v w (Ok x) = LaneGoes acts v w
LaneTo acts v w (Err h) = LaneHalts acts v w h

-- the same of a whole turn
abbrev pub LaneTurns : Bool → LaneView → LaneView → Turn → Type 0
LaneTurns acts v w turn.Idle = LaneGoes acts v w
LaneTurns acts v w turn.Stopped = LaneHalts acts v w halt.Stopped
LaneTurns acts v w turn.Memory = LaneHalts acts v w halt.Memory

-- and of starts, in which nothing happens
abbrev pub LaneStarts : LaneView → LaneView → Step → Type 0
LaneStarts v w step.Point = ⊥
LaneStarts v w step.Done = LaneGoes false v w
LaneStarts v w step.Stopped = LaneHalts false v w halt.Stopped
LaneStarts v w step.Memory = LaneHalts false v w halt.Memory
