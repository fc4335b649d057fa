-- Workers before their start, each with the next of the lanes.
use Rattle.std.specs.Prelude.{◌≡◌, ℕ, List, [], ◌∷◌, map}
use Rattle.qp_model.specs.declared.stimulus.Stim.{Stim}
use Rattle.qp_model.specs.declared.systems.System.{System}
use Rattle.qp_dispatch.specs.declared.objects.Turn.{Turn}
use Rattle.qp_kernel_turns.specs.Objects.{AreMade}
use Rattle.qp_port_qk.specs.declared.job.QkJob.{QkJob}
use Rattle.qp_port_qk.specs.declared.job.QkJob.TheVariants as job
use Rattle.qp_port_lanes.specs.Workers.{IsFreshWorker, IsAtBegin, SourcesMade}

-- it has all objects and a kernel, of which nothing has happened
abbrev pub IsKernelMade : System → QkJob → Type 0
IsKernelMade sys (job.Kernel xs k) = AreMade sys xs × (k.looks ≡ 0) × (k.stack.items ≡ []) × (k.steps ≡ 0)
IsKernelMade sys (job.Source x) = ⊥

abbrev pub IsQkSourceMade : List (List Stim) → ℕ → QkJob → Type 0
IsQkSourceMade stimuli k (job.Source x) = IsAtBegin stimuli k x
IsQkSourceMade stimuli k (job.Kernel xs l) = ⊥

pub record MadesKernel (sys : System) (budget : ℕ) (s : System) (b : ℕ) (t : Turn) (x : QkJob) : Type 0 where
  pub fresh : IsFreshWorker sys budget s b t
  pub its : IsKernelMade sys x

pub record IsFreshQkSource (sys : System) (budget : ℕ) (stimuli : List (List Stim)) (k : ℕ) (s : System) (b : ℕ) (t : Turn) (x : QkJob) : Type 0 where
  pub fresh : IsFreshWorker sys budget s b t
  pub its : IsQkSourceMade stimuli k x

-- the first has the kernel, then come the sources, and no lane is left over
pub record AreAllQkMade {T L : Type 0} (lane : T → L) (Kernel : T → Type 0) (Source : ℕ → T → Type 0) (stimuli : List (List Stim)) (lanes : List L) (workers : List T) : Type 0 where
  pub first : T
  pub sources : List T
  pub workers_are : workers ≡ first ∷ sources
  pub lanes_are : lanes ≡ map lane workers
  pub kernel : Kernel first
  pub sources_made : SourcesMade Source 1 stimuli sources
