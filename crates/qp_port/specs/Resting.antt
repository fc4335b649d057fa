-- Where objects show that they rest.
use Rattle.std.specs.Prelude.{◌≡◌, ◌⊎◌, true, false, List, [], ◌∷◌}
use Rattle.std.specs.List.{AllByRecursion}
use Rattle.qp_kernel_end.specs.declared.rest.Rest.{Rest}
use Rattle.qp_port_lanes.specs.declared.home.Home.{Home}
use Rattle.qp_port.specs.declared.job.Job.{Job}
use Rattle.qp_port.specs.declared.job.Job.TheVariants as job

-- what an object at rest shows
pub record IsShownAt (x : Home) (r : Rest) : Type 0 where
  pub started : x.object.started ≡ true
  pub calm : x.busy ≡ false
  pub priority : r.priority ≡ x.me
  pub leaf : r.leaf ≡ x.object.lasting.leaf
  pub vars : r.vars.items ≡ x.object.lasting.vars

abbrev pub IsShownBy : Job → Rest → Type 0
IsShownBy (job.Home x) r = IsShownAt x r
IsShownBy job.Nothing r = ⊥
IsShownBy (job.Source x) r = ⊥

-- one of these shows it
abbrev pub IsShownIn : {T : Type 0} → (T → Job) → List T → Rest → Type 0
IsShownIn work [] r = ⊥
IsShownIn work (w ∷ ws) r = IsShownBy (work w) r ⊎ IsShownIn work ws r

abbrev pub AreShown : {T : Type 0} → (T → Job) → List T → List Rest → Type 0
AreShown work ws rests = AllByRecursion (IsShownIn work ws) rests
