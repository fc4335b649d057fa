-- What contracts see of an object, and what its calls do.
use Rattle.std.specs.Prelude.{◌≡◌, ℕ, ◌+◌, ◌≤◌, Bool, true, false, [], length, if◌then◌else◌, Some, None}
use Rattle.std.specs.declared.option.Option.{Option}
use Rattle.qp_chart.specs.declared.checked.Chart.{Chart}
use Rattle.qp_model.specs.declared.systems.System.{System}
use Rattle.qp_model.specs.declared.systems.ObjectDef.{ObjectDef}
use Rattle.qp_model.specs.Course.{chart_at, first_config}
use Rattle.qp_model.specs.Sites.{object_at}
use Rattle.qp_calls.specs.declared.tokens.HeldEntry.{HeldEntry}
use Rattle.qp_calls.specs.LaneView.{LaneView}
use Rattle.qp_calls.specs.Deferring.{StandAll, kept_in}
use Rattle.qp_chart_compiled.specs.Compiled.{IsCompiled}
use Rattle.qp_dispatch.specs.declared.objects.Object.{Object}
use Rattle.qp_dispatch.specs.declared.lasting.Lasting.{Lasting}
use Rattle.qp_dispatch.specs.declared.steps.Position.TheVariants as stage
use Rattle.qp_dispatch.specs.declared.steps.Step.{Step}
use Rattle.qp_dispatch.specs.declared.steps.Step.TheVariants as step
use Rattle.qp_dispatch.specs.Lasts.{config_of}
use Rattle.qp_dispatch.specs.Runs.{ObjectSetting}
use Rattle.qp_dispatch.specs.Resume.{IsLaneOf, CanTakeSteps, IsUnderWay, Resumes}
use Rattle.qp_dispatch.specs.Starting.{StartsTo}

abbrev pub setting_for : System → Chart → Object → ObjectSetting
setting_for sys chart x = record { sys = sys; chart = chart; compiled = x.compiled; me = x.me }

-- the lane, while it works for this object
abbrev pub works_for : ℕ → LaneView → LaneView
works_for o v = record v { by = o }

-- an object of the system, with its chart, compiled; and the lane serves it
pub record IsServedObject (sys : System) (ceiling : ℕ) (x : Object) (v : LaneView) : Type 0 where
  pub chart : Chart
  pub is : chart_at sys x.chart ≡ Some chart
  pub ready : CanTakeSteps sys x.me chart
  pub compiled : IsCompiled chart x.compiled
  pub lane : IsLaneOf (setting_for sys chart x) ceiling v

-- an object that has not started
pub record MayStart (sys : System) (ceiling : ℕ) (x : Object) (v : LaneView) : Type 0 where
  pub at : IsServedObject sys ceiling x v
  pub unstarted : x.started ≡ false
  pub few : length (kept_in x.lasting.list) ≤ x.lasting.list.entries.capacity
  pub stand : StandAll x.lasting.list.entries.items v

-- an object with a step under way
pub record MayResume (sys : System) (ceiling : ℕ) (x : Object) (v : LaneView) : Type 0 where
  pub at : IsServedObject sys ceiling x v
  pub under_way : IsUnderWay (setting_for sys at.chart x) x.lasting x.stage v

abbrev pub is_step_over : Step → Bool
is_step_over step.Done = true
is_step_over _ = false

-- the start of an object with this chart
abbrev pub StartsAs : Option Chart → System → ℕ → Object → Object → LaneView → LaneView → Step → Type 0
StartsAs None sys later x y v w answer = ⊥
StartsAs (Some chart) sys later x y v w answer =
    (y ≡ record x { lasting = y.lasting; started = is_step_over answer }) × StartsTo (setting_for sys chart x) later x.lasting y.lasting v w answer

-- the same, while the lane works for the object, and then again for whom it did before
abbrev pub ObjectStarts : System → ℕ → Object → Object → LaneView → LaneView → Step → Type 0
ObjectStarts sys later x y v w answer =
    (mid : LaneView) × StartsAs (chart_at sys x.chart) sys later x y (works_for x.me v) mid answer × (w ≡ works_for v.by mid)

-- a step of an object with this chart goes on
abbrev pub ResumesAs : Option Chart → System → ℕ → ℕ → Object → Object → LaneView → LaneView → Step → Type 0
ResumesAs None sys ceiling later x y v w answer = ⊥
ResumesAs (Some chart) sys ceiling later x y v w answer =
    (y ≡ record x { lasting = y.lasting; stage = y.stage }) × Resumes (setting_for sys chart x) ceiling later x.lasting x.stage y.lasting y.stage v w answer

-- the same, while the lane works for the object, and then again for whom it did before
abbrev pub ObjectResumes : System → ℕ → ℕ → Object → Object → LaneView → LaneView → Step → Type 0
ObjectResumes sys ceiling later x y v w answer =
    (mid : LaneView) × ResumesAs (chart_at sys x.chart) sys ceiling later x y (works_for x.me v) mid answer × (w ≡ works_for v.by mid)

-- an entry is taken up
abbrev pub BeginsStep : HeldEntry → Object → Object → Type 0
BeginsStep e x y = y ≡ record x { stage = stage.Taken e; taken = x.taken + 1 }

abbrev pub leaf_shown : Object → Option ℕ
leaf_shown x = if x.started then Some x.lasting.leaf else None

-- an object begins with its first variables, `ok` 0 and an empty deferred list with its room
pub record HasFirst (d : ObjectDef) (k : Lasting) : Type 0 where
  pub config : config_of k ≡ first_config d
  pub empty : k.list.entries.items ≡ []
  pub room : k.list.entries.capacity ≡ d.defer

-- an object before its start, with this chart
pub record IsObjectMade (d : ObjectDef) (chart : Chart) (x : Object) : Type 0 where
  pub me : x.me ≡ d.priority
  pub of : x.chart ≡ d.chart
  pub compiled : IsCompiled chart x.compiled
  pub first : HasFirst d x.lasting
  pub between : x.stage ≡ stage.Between
  pub unstarted : x.started ≡ false
  pub taken : x.taken ≡ 0

-- the object of this priority before its start
pub record IsNewObject (sys : System) (priority : ℕ) (x : Object) : Type 0 where
  pub object : ObjectDef
  pub of : object_at sys priority ≡ Some object
  pub chart : Chart
  pub has : chart_at sys object.chart ≡ Some chart
  pub made : IsObjectMade object chart x
