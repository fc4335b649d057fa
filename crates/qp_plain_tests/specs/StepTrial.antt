-- What a trial may go on with.
use Rattle.std.specs.Prelude.{◌≡◌, ℕ, ◌≤◌, true, false, [], length, Some, None, IsTrue, ⊤}
use Rattle.std.specs.declared.option.Option.{Option}
use Rattle.qp_chart.specs.declared.checked.Chart.{Chart}
use Rattle.qp_model.specs.declared.systems.System.{System}
use Rattle.qp_model.specs.Course.{chart_at}
use Rattle.qp_model.specs.Sound.{IsSound}
use Rattle.qp_model.specs.WordLaw.{is_object}
use Rattle.qp_calls.specs.LaneView.{LaneView, ceiling_in}
use Rattle.qp_calls.specs.Notes.{spills_told}
use Rattle.qp_calls.specs.Deferring.{StandAll, kept_in}
use Rattle.qp_chart_compiled.specs.Compiled.{IsCompiled}
use Rattle.qp_dispatch.specs.declared.steps.Position.TheVariants as standing
use Rattle.qp_dispatch.specs.declared.steps.Step.{Step}
use Rattle.qp_dispatch.specs.declared.steps.Step.TheVariants as step
use Rattle.qp_dispatch.specs.Objects.{setting_for}
use Rattle.qp_dispatch.specs.Resume.{CanTakeSteps, IsUnderWay}
use Rattle.qp_plain_tests.specs.declared.actor.Actor.{Actor}
use Rattle.qp_plain_tests.specs.declared.actor.End.{End}

-- the lane is of this sound system, serves all objects, and has this ceiling and no `spill`
pub record IsBase (sys : System) (ceiling : ℕ) (v : LaneView) : Type 0 where
  pub sound : IsSound sys
  pub of : v.sys ≡ sys
  pub serves : (o : ℕ) → v.serves o ≡ true
  pub told : ceiling ≡ ceiling_in 0 v.told
  pub spills : spills_told v.told ≡ false

-- an object of the system with its chart
pub record IsKnownActor (sys : System) (a : Actor) : Type 0 where
  pub me : a.object.me ≡ a.me
  pub object : IsTrue (is_object sys a.me)
  pub chart : Chart
  pub is : chart_at sys a.object.chart ≡ Some chart
  pub ready : CanTakeSteps sys a.object.me chart
  pub compiled : IsCompiled chart a.object.compiled

-- it has not started
pub record IsUnstarted (sys : System) (a : Actor) : Type 0 where
  pub known : IsKnownActor sys a
  pub unstarted : a.object.started ≡ false
  pub between : a.object.stage ≡ standing.Between
  pub empty : a.object.lasting.list.entries.items ≡ []

-- it stands between two steps
pub record IsResting (sys : System) (a : Actor) (v : LaneView) : Type 0 where
  pub base : IsBase sys a.ceiling v
  pub known : IsKnownActor sys a
  pub started : a.object.started ≡ true
  pub between : a.object.stage ≡ standing.Between
  pub few : length (kept_in a.object.lasting.list) ≤ a.object.lasting.list.entries.capacity
  pub stand : StandAll a.object.lasting.list.entries.items v

-- it stands within a step
pub record IsOnItsWay (sys : System) (a : Actor) (v : LaneView) : Type 0 where
  pub base : IsBase sys a.ceiling v
  pub known : IsKnownActor sys a
  pub started : a.object.started ≡ true
  pub under_way : IsUnderWay (setting_for sys known.chart a.object) a.object.lasting a.object.stage v

abbrev pub AfterStart : System → Actor → LaneView → Step → Type 0
AfterStart sys a v step.Done = IsResting sys a v
AfterStart sys a v _ = ⊤

abbrev pub AfterTake : System → Actor → LaneView → Option End → Type 0
AfterTake sys a v None = IsOnItsWay sys a v
AfterTake sys a v (Some end) = ⊤

abbrev pub AfterPart : System → Actor → LaneView → Step → Type 0
AfterPart sys a v step.Point = IsOnItsWay sys a v
AfterPart sys a v step.Done = IsResting sys a v
AfterPart sys a v _ = ⊤

abbrev pub AfterStep : System → Actor → LaneView → Option End → Type 0
AfterStep sys a v None = IsResting sys a v
AfterStep sys a v (Some end) = ⊤
