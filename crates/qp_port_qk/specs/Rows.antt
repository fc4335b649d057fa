-- Rows of lanes and workers: the kernel's, then one for each source.
use Rattle.std.specs.Prelude.{◌≡◌, ℕ, true, List, [], ◌∷◌, ⊤, Some}
use Rattle.qp_model.specs.declared.stimulus.Stim.{Stim}
use Rattle.qp_model.specs.declared.systems.System.{System}
use Rattle.qp_model.specs.declared.systems.ObjectDef.{ObjectDef}
use Rattle.qp_model.specs.Sites.{object_at}
use Rattle.qp_calls.specs.LaneView.{LaneView}
use Rattle.qp_port_lanes.specs.CursorAt.{mine}
use Rattle.qp_port_qk.specs.declared.job.QkJob.{QkJob}
use Rattle.qp_port_qk.specs.declared.job.QkJob.TheVariants as job
use Rattle.qp_port_lanes.specs.Workers.{IsNewOf}

abbrev pub AreNewSources : System → List ℕ → List (List Stim) → List LaneView → Type 0
AreNewSources sys world [] [] = ⊤
AreNewSources sys world (ss ∷ more) (v ∷ vs) = IsNewOf sys world v × AreNewSources sys world more vs
AreNewSources sys world [] (v ∷ vs) = ⊥
AreNewSources sys world (ss ∷ more) [] = ⊥

-- All lanes of a table, before their run. The first serves all objects, and no stimuli stand in its plan.
abbrev pub AreNewQkLanes : System → List (List Stim) → List LaneView → Type 0
AreNewQkLanes sys stimuli [] = ⊥
AreNewQkLanes sys stimuli (v ∷ vs) =
    IsNewOf sys v.world v × ((d : ObjectDef) → object_at sys d.priority ≡ Some d → v.serves d.priority ≡ true) × (v.plan ≡ []) × AreNewSources sys v.world stimuli vs

abbrev pub IsKernel : QkJob → Type 0
IsKernel (job.Kernel xs k) = ⊤
IsKernel (job.Source x) = ⊥

abbrev pub IsQkSourceOf : List Stim → QkJob → Type 0
IsQkSourceOf ss (job.Source x) = mine x ≡ ss
IsQkSourceOf ss (job.Kernel xs k) = ⊥

-- a worker for each of these sources
abbrev pub AreSources : {T : Type 0} → (T → QkJob) → List (List Stim) → List T → Type 0
AreSources work [] [] = ⊤
AreSources work (ss ∷ more) (w ∷ ws) = IsQkSourceOf ss (work w) × AreSources work more ws
AreSources work [] (w ∷ ws) = ⊥
AreSources work (ss ∷ more) [] = ⊥

-- the first has the kernel
abbrev pub IsQkRow : {T : Type 0} → (T → QkJob) → List (List Stim) → List T → Type 0
IsQkRow work more [] = ⊥
IsQkRow work more (w ∷ ws) = IsKernel (work w) × AreSources work more ws
