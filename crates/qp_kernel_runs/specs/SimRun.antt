-- What runs on one thread leave.
use Rattle.std.specs.Prelude.{◌≡◌, ℕ, true, false, List}
use Rattle.qp_model.specs.declared.stimulus.Stim.{Stim}
use Rattle.qp_model.specs.declared.systems.System.{System}
use Rattle.qp_model.specs.declared.journals.Journal.{Journal}
use Rattle.qp_model.specs.History.{lane_items}
use Rattle.qp_model.specs.Home.{lane_at}
use Rattle.qp_model.specs.KernelLaws.{RestsWhereAllAreEmpty, StepsStandAlone}
use Rattle.qp_model.specs.Lawful.{Lawful}
use Rattle.qp_kernel.specs.Turning.{Terms, kernel_in, under}

-- a lawful journal of the system and the stimuli, with this kernel and this budget; its end is that of its records, as the law book says
pub record IsRunOf (sys : System) (stimuli : List (List Stim)) (terms : Terms) (j : Journal) : Type 0 where
  pub kernel : j.kernel ≡ kernel_in terms
  pub budget_is : j.budget ≡ terms.budget
  pub lawful : Lawful sys stimuli j

-- under `sim`
abbrev pub IsSimRun : System → List (List Stim) → ℕ → Journal → Type 0
IsSimRun sys stimuli budget j = IsRunOf sys stimuli (under false budget) j

-- under `qv`: no step begins within another, and the kernel rests only right after a look that saw every queue empty
pub record IsQvRun (sys : System) (stimuli : List (List Stim)) (budget : ℕ) (j : Journal) : Type 0 where
  pub run : IsRunOf sys stimuli (under true budget) j
  pub steps : StepsStandAlone (lane_items (lane_at j 0))
  pub rests : RestsWhereAllAreEmpty sys (lane_items (lane_at j 0))
