-- Lanes and workers of a run with threads, before their start.
use Rattle.std.specs.Prelude.{◌≡◌, ℕ, false, List, ◌+◌, [], ◌∷◌, ⊤, ◌++◌, map}
use Rattle.qp_model.specs.declared.systems.System.{System}
use Rattle.qp_dispatch.specs.declared.objects.Turn.{Turn}
use Rattle.qp_dispatch.specs.declared.objects.Turn.TheVariants as turn
use Rattle.qp_model.specs.declared.stimulus.Stim.{Stim}
use Rattle.qp_port_lanes.specs.declared.cursor.Cursor.{Cursor}
use Rattle.qp_calls.specs.LaneView.{IsNew, LaneView}
use Rattle.qp_kernel_turns.specs.Lanes.{SameLane}

-- a worker of this run, which hasn't started
pub record IsFreshWorker (sys : System) (budget : ℕ) (s : System) (b : ℕ) (t : Turn) : Type 0 where
  pub sys_is : s ≡ sys
  pub budget_is : b ≡ budget
  pub idle : t ≡ turn.Idle

-- a cursor at the beginning of the source with this number
pub record IsAtBegin (stimuli : List (List Stim)) (source : ℕ) (x : Cursor) : Type 0 where
  pub stim : x.stim.now ≡ stimuli
  pub source_is : x.source ≡ source
  pub begun : x.begun ≡ 0
  pub settling : x.settling ≡ false

-- one for each of these sources, the first of which has this number
abbrev pub SourcesMade : {T : Type 0} → (ℕ → T → Type 0) → ℕ → List (List Stim) → List T → Type 0
SourcesMade Made k [] [] = ⊤
SourcesMade Made k (ss ∷ more) (w ∷ ws) = Made k w × SourcesMade Made (k + 1) more ws
SourcesMade Made k [] (w ∷ ws) = ⊥
SourcesMade Made k (ss ∷ more) [] = ⊥

-- these came
pub record AddsAll {T L : Type 0} (lane : T → L) (Made : List T → Type 0) (lanes : List L) (workers : List T) (rest : List L) (now : List T) : Type 0 where
  pub all : List T
  pub made : Made all
  pub now_are : now ≡ workers ++ all
  pub lanes_are : lanes ≡ map lane all ++ rest

-- a new lane for this system, in the table of this name
pub record IsNewOf (sys : System) (world : List ℕ) (v : LaneView) : Type 0 where
  pub new : IsNew v
  pub of : v.sys ≡ sys
  pub world_is : v.world ≡ world

-- each is the same lane as before
abbrev pub AreSameLanes : List LaneView → List LaneView → Type 0
AreSameLanes [] [] = ⊤
AreSameLanes (v ∷ vs) (w ∷ ws) = SameLane v w × AreSameLanes vs ws
AreSameLanes [] (w ∷ ws) = ⊥
AreSameLanes (v ∷ vs) [] = ⊥
