-- What the start and the turn of an object come to.
use Rattle.std.specs.Prelude.{◌≡◌, ℕ, ◌+◌, ◌<◌, nat_lt, true, false, Bool, List, [], ◌++◌, Some, Ok, Err}
use Rattle.std.specs.declared.result.Result.{Result}
use Rattle.std.specs.List.{list_all}
use Rattle.qp_chart.specs.declared.checked.Chart.{Chart}
use Rattle.qp_model.specs.declared.systems.System.{System}
use Rattle.qp_model.specs.declared.systems.ObjectDef.{ObjectDef}
use Rattle.qp_model.specs.Ends.{may_cut}
use Rattle.qp_model.specs.Course.{chart_at}
use Rattle.qp_model.specs.OutputSummary.{CourseLeaves}
use Rattle.qp_model.specs.Sites.{object_at}
use Rattle.qp_model.specs.Told.{ToldItem}
use Rattle.qp_model.specs.declared.words.Word.TheVariants as word
use Rattle.qp_calls.specs.Clauses.{last_nil}
use Rattle.qp_calls.specs.LaneView.{Counts, LaneView, NotShown}
use Rattle.qp_dispatch.specs.declared.objects.Turn.{Turn}
use Rattle.qp_dispatch.specs.declared.objects.Turn.TheVariants as turn
use Rattle.qp_dispatch.specs.declared.steps.Step.{Step}
use Rattle.qp_dispatch.specs.declared.steps.Step.TheVariants as step
use Rattle.qp_dispatch.specs.Lasts.{config_of}
use Rattle.qp_kernel.specs.Interrupting.{is_unset}
use Rattle.qp_kernel.specs.ZeroEnds.{own_told}
use Rattle.qp_kernel_turns.specs.declared.halting.Halt.{Halt}
use Rattle.qp_kernel_turns.specs.declared.halting.Halt.TheVariants as halt
use Rattle.qp_kernel_turns.specs.Lanes.{LaneGoes}
use Rattle.qp_kernel_turns.specs.Ordering.{IsSeenEmpty}
use Rattle.qp_model_order.specs.SourceRun.{untold_all}
use Rattle.qp_port_law.specs.Homes.{HomeEnds}
use Rattle.qp_kernel.specs.Starts.{AreStarts, IsStartAlone}
use Rattle.qp_port_law.specs.HomeLanes.{looks_in, nils_in}
use Rattle.qp_port_lanes.specs.declared.home.Home.{Home}
use Rattle.qp_port_lanes.specs.At.{IsBusyHome, IsHome}

-- The object rests, and its queue was found empty. Its lane tells so by its last `nil`, or, at the budget, by the look in the place of a take.
pub record HomeIdles (sys : System) (budget : ℕ) (y : Home) (w : LaneView) : Type 0 where
  pub home : IsHome sys budget y w
  pub empty : IsSeenEmpty y.me w
  pub told : y.looked ≡ false → last_nil y.me NotShown w.told ≡ Counts empty.f empty.l empty.m

-- The lane ends where a lane of the object of this priority may, whatever else ended the run. Where the object rests, it is where the course of its
-- records leaves it.
pub record HomeStops (sys : System) (budget me : ℕ) (y : Home) (w : LaneView) : Type 0 where
  pub ends : (d : ObjectDef) → object_at sys me ≡ Some d → (end : ℕ) → may_cut end ≡ true → HomeEnds sys d budget end w.told
  pub rests : (d : ObjectDef) (chart : Chart) → object_at sys me ≡ Some d → chart_at sys d.chart ≡ Some chart → y.object.started ≡ true → y.busy ≡ false
      → CourseLeaves sys d chart (own_told d.priority w.told) (config_of y.object.lasting)

abbrev pub HomeHalts : System → ℕ → ℕ → Home → LaneView → Halt → Type 0
HomeHalts sys budget me y w halt.Stopped = HomeStops sys budget me y w
HomeHalts sys budget me y w halt.Memory = Unit {0}

-- what the turn of an object comes to
abbrev pub HomeTurns : System → ℕ → ℕ → Home → LaneView → Turn → Type 0
HomeTurns sys budget me y w turn.Idle = HomeIdles sys budget y w
HomeTurns sys budget me y w turn.Stopped = HomeStops sys budget me y w
HomeTurns sys budget me y w turn.Memory = Unit {0}

-- and its start, for any budget
abbrev pub HomeStarts : System → ℕ → Home → LaneView → Step → Type 0
HomeStarts sys me y w step.Point = ⊥
HomeStarts sys me y w step.Done = (budget : ℕ) → IsHome sys budget y w
HomeStarts sys me y w step.Stopped = (budget : ℕ) → HomeStops sys budget me y w
HomeStarts sys me y w step.Memory = Unit {0}

-- The start alone stands in the lane, to its end, or as far as it came. Nothing is said where memory was refused.
abbrev pub StartsAlone : LaneView → Step → Type 0
StartsAlone w step.Point = ⊥
StartsAlone w step.Done = AreStarts 1 (untold_all w.told)
StartsAlone w step.Stopped = IsStartAlone 1 (untold_all w.told)
StartsAlone w step.Memory = Unit {0}

-- at the budget the queue was found empty, or an entry stopped the lane
abbrev pub HomeLooksTo : System → ℕ → ℕ → Home → LaneView → Result (Unit {0}) Halt → Type 0
HomeLooksTo sys budget me y w (Ok u) = HomeIdles sys budget y w
HomeLooksTo sys budget me y w (Err h) = HomeHalts sys budget me y w h

-- a step has begun, or the turn is over
abbrev pub NextTo : System → ℕ → ℕ → Home → LaneView → Result Bool Halt → Type 0
NextTo sys budget me y w (Ok true) = IsBusyHome sys budget false y w
NextTo sys budget me y w (Ok false) = HomeIdles sys budget y w
NextTo sys budget me y w (Err h) = HomeHalts sys budget me y w h

-- No step begins, and no turn is over, but where the stop word was found unset first.
abbrev pub UnsetFirst : LaneView → Result Bool Halt → Type 0
UnsetFirst v (Ok b) = is_unset v ≡ true
UnsetFirst v (Err h) = Unit {0}

-- the step is done
abbrev pub HomeStepsTo : System → ℕ → ℕ → Home → LaneView → Result (Unit {0}) Halt → Type 0
HomeStepsTo sys budget me y w (Ok u) = IsHome sys budget y w
HomeStepsTo sys budget me y w (Err h) = HomeHalts sys budget me y w h

-- a look that showed an entry
abbrev pub shows_entry : ℕ × ℕ × ℕ → Bool
shows_entry x = nat_lt x.2 (x.0 + x.1)

-- No look of which the lane has told since found the queue empty: no `nil` came, and each look in the place of a take showed an entry.
pub record NeverEmpty (v w : LaneView) : Type 0 where
  pub ts : List ToldItem
  pub told : w.told ≡ v.told ++ ts
  pub nils : nils_in ts ≡ []
  pub looks : list_all shows_entry (looks_in ts) ≡ true

-- so it is where the turn didn't find the queue empty, or nothing says so yet
abbrev pub NeverEmptyUnlessIdle : LaneView → LaneView → Turn → Type 0
NeverEmptyUnlessIdle v w turn.Idle = Unit {0}
NeverEmptyUnlessIdle v w turn.Stopped = NeverEmpty v w
NeverEmptyUnlessIdle v w turn.Memory = NeverEmpty v w

abbrev pub UnlessFound : LaneView → LaneView → Result (Unit {0}) Halt → Type 0
UnlessFound v w (Ok u) = Unit {0}
UnlessFound v w (Err h) = NeverEmpty v w

abbrev pub UnlessOver : LaneView → LaneView → Result Bool Halt → Type 0
UnlessOver v w (Ok true) = NeverEmpty v w
UnlessOver v w (Ok false) = Unit {0}
UnlessOver v w (Err h) = NeverEmpty v w

-- the lane has seen an entry in the queue of its object
pub record KnowsEntry (me : ℕ) (v : LaneView) : Type 0 where
  pub f : ℕ
  pub mark : v.mark (word.Queue me) ≡ f + (v.own me).l + (v.own me).m
  pub some : (v.own me).m < f + (v.own me).l

-- An object at its budget whose queue isn't known to be empty. It rests as before, with no record more; where its queue was found empty earlier, an
-- entry has come.
pub record IsToLook (sys : System) (budget : ℕ) (x : Home) (v w : LaneView) : Type 0 where
  pub home : IsHome sys budget x w
  pub goes : LaneGoes false v w
  pub told : w.told ≡ v.told
  pub spare : w.spare ≡ v.spare
  pub entry : x.looked ≡ true → KnowsEntry x.me w

-- its queue was found empty, and is so still; no record says so
abbrev pub StaysEmpty : System → ℕ → Home → LaneView → LaneView → Bool → Type 0
StaysEmpty sys budget x v w true = HomeIdles sys budget x w × LaneGoes false v w × (w.told ≡ v.told)
StaysEmpty sys budget x v w false = IsToLook sys budget x v w
