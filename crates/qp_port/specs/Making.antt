-- Workers before their start, each with the next of the lanes.
use Rattle.std.specs.Prelude.{◌≡◌, ℕ, ◌+◌, List, [], ◌∷◌, ◌++◌, map, ⊤}
use Rattle.qp_model.specs.declared.stimulus.Stim.{Stim}
use Rattle.qp_model.specs.declared.systems.System.{System}
use Rattle.qp_model.specs.declared.systems.ObjectDef.{ObjectDef}
use Rattle.qp_dispatch.specs.declared.objects.Turn.{Turn}
use Rattle.qp_port_lanes.specs.At.{IsUnstartedHome}
use Rattle.qp_port.specs.declared.job.Job.{Job}
use Rattle.qp_port.specs.declared.job.Job.TheVariants as job
use Rattle.qp_port.specs.Rows.{IsNothing}
use Rattle.qp_port_lanes.specs.Workers.{IsFreshWorker, IsAtBegin, SourcesMade}

-- it is this job
abbrev pub IsThis : Job → Job → Type 0
IsThis x y = y ≡ x

-- it is of this object
abbrev pub IsHomeMade : System → ObjectDef → Job → Type 0
IsHomeMade sys d (job.Home x) = IsUnstartedHome sys d.priority x
IsHomeMade sys d job.Nothing = ⊥
IsHomeMade sys d (job.Source x) = ⊥

abbrev pub IsSourceMade : List (List Stim) → ℕ → Job → Type 0
IsSourceMade stimuli k (job.Source x) = IsAtBegin stimuli k x
IsSourceMade stimuli k job.Nothing = ⊥
IsSourceMade stimuli k (job.Home x) = ⊥

pub record MadesNothing (sys : System) (budget : ℕ) (s : System) (b : ℕ) (t : Turn) (x : Job) : Type 0 where
  pub fresh : IsFreshWorker sys budget s b t
  pub its : IsNothing x

pub record MadesHome (sys : System) (budget : ℕ) (d : ObjectDef) (s : System) (b : ℕ) (t : Turn) (x : Job) : Type 0 where
  pub fresh : IsFreshWorker sys budget s b t
  pub its : IsHomeMade sys d x

pub record IsFreshSource (sys : System) (budget : ℕ) (stimuli : List (List Stim)) (k : ℕ) (s : System) (b : ℕ) (t : Turn) (x : Job) : Type 0 where
  pub fresh : IsFreshWorker sys budget s b t
  pub its : IsSourceMade stimuli k x

-- one for each of these objects
abbrev pub HomesMade : {T : Type 0} → (ObjectDef → T → Type 0) → List ObjectDef → List T → Type 0
HomesMade Made [] [] = ⊤
HomesMade Made (d ∷ ds) (w ∷ ws) = Made d w × HomesMade Made ds ws
HomesMade Made [] (w ∷ ws) = ⊥
HomesMade Made (d ∷ ds) [] = ⊥

-- a worker came, with the first of these lanes
pub record AddsOne {T L : Type 0} (lane : T → L) (Made : T → Type 0) (lanes : List L) (workers : List T) (rest : List L) (now : List T) : Type 0 where
  pub one : T
  pub made : Made one
  pub now_are : now ≡ workers ++ one ∷ []
  pub lanes_are : lanes ≡ lane one ∷ rest

-- the first has nothing, then come the objects and the sources, and no lane is left over
pub record AreAllMade {T L : Type 0} (lane : T → L) (Nothing : T → Type 0) (Home : ObjectDef → T → Type 0) (Source : ℕ → T → Type 0) (ds : List ObjectDef) (stimuli : List (List Stim)) (lanes : List L) (workers : List T) : Type 0 where
  pub first : T
  pub homes : List T
  pub sources : List T
  pub workers_are : workers ≡ first ∷ homes ++ sources
  pub lanes_are : lanes ≡ map lane workers
  pub nothing : Nothing first
  pub homes_made : HomesMade Home ds homes
  pub sources_made : SourcesMade Source 1 stimuli sources
