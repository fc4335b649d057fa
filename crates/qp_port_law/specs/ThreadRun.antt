-- What a run with threads leaves.
use Rattle.std.specs.Prelude.{◌≡◌, ℕ, List}
use Rattle.qp_model.specs.declared.stimulus.Stim.{Stim}
use Rattle.qp_model.specs.declared.systems.System.{System}
use Rattle.qp_model.specs.declared.journals.Journal.{Journal}
use Rattle.qp_model.specs.Lawful.{Lawful}
use Rattle.qp_port_law.specs.StartsFirst.{StartsFirst}

-- A lawful journal of the system and the stimuli, with this kernel and this budget, of a run with threads. Its starts come first, which `Lawful` doesn't ask for
-- where lanes have threads of their own.
pub record IsThreadRun (kernel : ℕ) (sys : System) (stimuli : List (List Stim)) (budget : ℕ) (j : Journal) : Type 0 where
  pub kernel_is : j.kernel ≡ kernel
  pub budget_is : j.budget ≡ budget
  pub lawful : Lawful sys stimuli j
  pub first : StartsFirst sys j
