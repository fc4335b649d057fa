-- Where objects show that they rest.
use Rattle.std.specs.Prelude.{◌≡◌, ℕ, false, List, [], ◌∷◌, Some, None}
use Rattle.std.specs.declared.option.Option.{Option}
use Rattle.std.specs.List.{AllByRecursion}
use Rattle.qp_chart.specs.StateTree.{has}
use Rattle.qp_kernel_end.specs.declared.rest.Rest.{Rest}
use Rattle.qp_kernel_turns.specs.declared.objects.Objects.{Objects}
use Rattle.qp_kernel_turns.specs.Objects.{leaf_in, vars_in}
use Rattle.qp_port_phases.specs.declared.phases.PhasesEnd.{PhasesEnd}
use Rattle.qp_port_qk.specs.declared.job.QkJob.{QkJob}
use Rattle.qp_port_qk.specs.declared.job.QkJob.TheVariants as job

-- what an object shows whose step isn't under way
pub record KernelShowsOne (xs : Objects) (stack : List ℕ) (x : Rest) : Type 0 where
  pub free : has stack x.priority ≡ false
  pub leaf : leaf_in xs.slots.items x.priority ≡ Some x.leaf
  pub vars : x.vars.items ≡ vars_in xs.slots.items x.priority

abbrev pub KernelShows : Objects → List ℕ → List Rest → Type 0
KernelShows xs stack rests = AllByRecursion (KernelShowsOne xs stack) rests

-- the objects of the kernel show them
abbrev pub AreShownBy : QkJob → List Rest → Type 0
AreShownBy (job.Kernel xs k) rests = KernelShows xs k.stack.items rests
AreShownBy (job.Source x) rests = rests ≡ []

-- those of the first worker do
abbrev pub AreShownFirst : {T : Type 0} → (T → QkJob) → List T → List Rest → Type 0
AreShownFirst work [] rests = rests ≡ []
AreShownFirst work (w ∷ ws) rests = AreShownBy (work w) rests

-- where the start came to its end; else there are none
abbrev pub AreLeft : {T : Type 0} → (T → QkJob) → Option PhasesEnd → List T → List Rest → Type 0
AreLeft work None ws rests = rests ≡ []
AreLeft work (Some how) ws rests = AreShownFirst work ws rests
