-- Rows of lanes: the first, one for each object, one for each source.
use Rattle.std.specs.Prelude.{◌≡◌, ℕ, true, List, [], ◌∷◌, ⊤}
use Rattle.qp_model.specs.declared.stimulus.Stim.{Stim}
use Rattle.qp_model.specs.declared.systems.System.{System}
use Rattle.qp_model.specs.declared.systems.ObjectDef.{ObjectDef}
use Rattle.qp_calls.specs.LaneView.{LaneView}
use Rattle.qp_port_lanes.specs.CursorAt.{mine}
use Rattle.qp_port.specs.declared.job.Job.{Job}
use Rattle.qp_port.specs.declared.job.Job.TheVariants as job
use Rattle.qp_port_lanes.specs.Workers.{IsNewOf}

-- the next of these lanes serves the next of these objects, the others are for the sources
abbrev pub AreNew : System → List ℕ → List ObjectDef → List (List Stim) → List LaneView → Type 0
AreNew sys world (d ∷ ds) more (v ∷ vs) = IsNewOf sys world v × (v.serves d.priority ≡ true) × AreNew sys world ds more vs
AreNew sys world [] (ss ∷ more) (v ∷ vs) = IsNewOf sys world v × AreNew sys world [] more vs
AreNew sys world [] [] [] = ⊤
AreNew sys world [] [] (v ∷ vs) = ⊥
AreNew sys world (d ∷ ds) more [] = ⊥
AreNew sys world [] (ss ∷ more) [] = ⊥

-- All lanes of a table, before their run. The first has no object.
abbrev pub AreNewLanes : System → List (List Stim) → List LaneView → Type 0
AreNewLanes sys stimuli [] = ⊥
AreNewLanes sys stimuli (v ∷ vs) = IsNewOf sys v.world v × AreNew sys v.world sys.objects stimuli vs

abbrev pub IsHomeJobOf : ObjectDef → Job → Type 0
IsHomeJobOf d (job.Home x) = x.me ≡ d.priority
IsHomeJobOf d job.Nothing = ⊥
IsHomeJobOf d (job.Source x) = ⊥

abbrev pub IsSourceOf : List Stim → Job → Type 0
IsSourceOf ss (job.Source x) = mine x ≡ ss
IsSourceOf ss job.Nothing = ⊥
IsSourceOf ss (job.Home x) = ⊥

abbrev pub IsNothing : Job → Type 0
IsNothing job.Nothing = ⊤
IsNothing (job.Home x) = ⊥
IsNothing (job.Source x) = ⊥

-- a worker for each of these objects, then one for each of these sources
abbrev pub AreWorkers : {T : Type 0} → (T → Job) → List ObjectDef → List (List Stim) → List T → Type 0
AreWorkers work (d ∷ ds) more (w ∷ ws) = IsHomeJobOf d (work w) × AreWorkers work ds more ws
AreWorkers work [] (ss ∷ more) (w ∷ ws) = IsSourceOf ss (work w) × AreWorkers work [] more ws
AreWorkers work [] [] [] = ⊤
AreWorkers work [] [] (w ∷ ws) = ⊥
AreWorkers work (d ∷ ds) more [] = ⊥
AreWorkers work [] (ss ∷ more) [] = ⊥

-- the first has nothing to do
abbrev pub IsRow : {T : Type 0} → (T → Job) → List ObjectDef → List (List Stim) → List T → Type 0
IsRow work ds more [] = ⊥
IsRow work ds more (w ∷ ws) = IsNothing (work w) × AreWorkers work ds more ws
