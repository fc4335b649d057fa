-- What a kernel knows between two calls, and what goes on from there.
use Rattle.std.specs.Prelude.{◌≡◌, ℕ, ◌<◌, ◌==◌, ◌⊎◌, Bool, true, false, List, [], ◌∷◌, if◌then◌else◌, Some, ⊤}
use Rattle.qp_chart.specs.declared.checked.Chart.{Chart}
use Rattle.qp_model.specs.declared.systems.System.{System}
use Rattle.qp_model.specs.declared.systems.ObjectDef.{ObjectDef}
use Rattle.qp_model.specs.declared.bodies.Entry.{Entry}
use Rattle.qp_model.specs.declared.bodies.Body.TheVariants as body
use Rattle.qp_model.specs.Told.{ToldItem, Event, for_object, plain}
use Rattle.qp_model.specs.Acts.{Config}
use Rattle.qp_model.specs.Able.{chart_able}
use Rattle.qp_model.specs.Step.{Remainder}
use Rattle.qp_model.specs.Sites.{object_at}
use Rattle.qp_model.specs.Course.{chart_at}
use Rattle.qp_model.specs.Kernels.{sim, qk, qv}
use Rattle.qp_model.specs.KernelLane.{Reading, Upcoming, Inside, Ended, Again, Over}
use Rattle.qp_kernel.specs.Stages as stage
use Rattle.qp_kernel.specs.Stages.{Stage}
use Rattle.qp_kernel.specs.LaneZero.{LaneZero}

-- what a run goes by: whether its steps never interrupt one another, whether its sources have threads of their own, and how many entries an
-- object may take up
pub record Terms : Type 0 where
  pub cooperative : Bool
  pub threaded : Bool
  pub budget : ℕ

-- a run of one thread
abbrev pub under : Bool → ℕ → Terms
under cooperative budget = record { cooperative = cooperative; threaded = false; budget = budget }

-- a run under `qk`
abbrev pub under_qk : ℕ → Terms
under_qk budget = record { cooperative = false; threaded = true; budget = budget }

-- its kernel
abbrev pub kernel_in : Terms → ℕ
kernel_in terms = if terms.threaded then qk else (if terms.cooperative then qv else sim)

-- objects are numbered from 1
abbrev pub AreNumbered : System → Type 0
AreNumbered sys = (d : ObjectDef) → object_at sys d.priority ≡ Some d → 0 < d.priority

-- the charts have what their actions ask for
abbrev pub AreAble : System → Type 0
AreAble sys = (d : ObjectDef) (chart : Chart) → object_at sys d.priority ≡ Some d → chart_at sys d.chart ≡ Some chart → chart_able sys chart ≡ true

-- p is this object, with its chart
pub record IsObject (sys : System) (p : ℕ) (d : ObjectDef) (chart : Chart) : Type 0 where
  pub priority : d.priority ≡ p
  pub found : object_at sys d.priority ≡ Some d
  pub its : chart_at sys d.chart ≡ Some chart

-- what is known of lane 0: its records, its stimuli, how far it reads, who owes a point, and each object's stage and entries
pub record KernelState : Type 0 where
  pub told : List ToldItem
  pub now : ℕ → Bool
  pub upto : ℕ
  pub reading : Reading
  pub owed : ℕ
  pub stages : ℕ → Stage
  pub entries : ℕ → List Entry

abbrev pub Stands : System → Terms → KernelState → Type 0
Stands sys terms s = LaneZero sys (kernel_in terms) terms.budget s.told s.now s.upto s.reading s.owed s.stages s.entries

-- an object within a step, whether or not it stands at a point
abbrev pub IsWithinStep : Stage → Event → Entry → Remainder → Config → Type 0
IsWithinStep s ev e left c = (s ≡ stage.Begun ev e left c) ⊎ (s ≡ stage.Paused ev e left c)

-- the lane reads within a step of p
pub record IsInStep (k : Reading) (p : ℕ) (outer : List ℕ) : Type 0 where
  pub started : k.unstarted ≡ []
  pub running : k.running ≡ p ∷ outer
  pub inside : k.place ≡ Inside

-- a look may stand here: at the base, at a scheduling point of the running object, or behind a step of the row; under `qk` behind a row that
-- is over too
abbrev pub IsLookPlace : ℕ → Upcoming → List ℕ → Type 0
IsLookPlace kernel Inside [] = ⊤
IsLookPlace kernel Inside (p ∷ outer) = 0 < p
IsLookPlace kernel (Ended p) running = ⊤
IsLookPlace kernel Again running = ⊤
IsLookPlace kernel Over running = kernel ≡ qk
IsLookPlace kernel _ running = ⊥

-- the stages with that of p changed, and the entries with those of p
abbrev pub moved : (ℕ → Stage) → ℕ → Stage → ℕ → Stage
moved stages p there o = if p == o then there else stages o

abbrev pub having : (ℕ → List Entry) → ℕ → List Entry → ℕ → List Entry
having entries p es o = if p == o then es else entries o

abbrev pub look_told : ℕ → ℕ → ToldItem
look_told n floor = for_object 0 (plain (body.Look n floor))

abbrev pub seen_told : ℕ → ℕ → ℕ → ℕ → ToldItem
seen_told p f l m = for_object 0 (plain (body.Seen p f l m))

abbrev pub rest_told : ℕ → ToldItem
rest_told n = for_object 0 (plain (body.Rest n))

abbrev pub spill_told : ℕ → ToldItem
spill_told n = for_object 0 (plain (body.Spill n))
