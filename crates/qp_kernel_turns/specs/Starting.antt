-- The start of all objects, in ascending priority.
use Rattle.std.specs.Prelude.{◌≡◌, ℕ, ◌<◌, ◌≤◌, true, false, List, [], length, map, drop, Some}
use Rattle.qp_chart.specs.StateTree.{has}
use Rattle.qp_model.specs.declared.systems.System.{System}
use Rattle.qp_model.specs.declared.systems.ObjectDef.{ObjectDef}
use Rattle.qp_model.specs.Ends.{may_cut}
use Rattle.qp_model.specs.KernelLane.{Inside}
use Rattle.qp_model.specs.Sites.{object_at}
use Rattle.qp_model.specs.Told.{ToldItem}
use Rattle.qp_model.specs.Stops as stop
use Rattle.qp_calls.specs.Clauses.{Stops}
use Rattle.qp_calls.specs.LaneView.{Gains, IsNew, LaneView}
use Rattle.qp_calls.specs.Notes.{last_code}
use Rattle.qp_dispatch.specs.declared.steps.Step.{Step}
use Rattle.qp_dispatch.specs.declared.steps.Step.TheVariants as step
use Rattle.qp_model_order.specs.RunOrder.{has_stim}
use Rattle.qp_model_order.specs.SourceRun.{untold_all}
use Rattle.qp_kernel.specs.Starts.{AreStarts, IsStartAlone}
use Rattle.qp_kernel.specs.Happenings.{IsInOrder, IsOrderEnded, has_no_stim, lanes_of}
use Rattle.qp_kernel.specs.Stages as stage
use Rattle.qp_kernel.specs.Stages.{is_resting}
use Rattle.qp_kernel.specs.Turning.{KernelState, Terms}
use Rattle.qp_kernel_turns.specs.declared.objects.Objects.{Objects}
use Rattle.qp_kernel_turns.specs.Knowing.{HandsFollow, KnowsAt, MayLook}
use Rattle.qp_kernel_turns.specs.Turning.{TurnStopped, idle_in}

-- a lane of the system that has done nothing yet, and serves all objects
pub record IsFreshLane (sys : System) (v : LaneView) : Type 0 where
  pub new : IsNew v
  pub of : v.sys ≡ sys
  pub serves : (d : ObjectDef) → object_at sys d.priority ≡ Some d → v.serves d.priority ≡ true

-- the objects of these priorities have not started, the others rest, and no look has come
pub record HasBegun (sys : System) (left : List ℕ) (s : KernelState) : Type 0 where
  pub unstarted : s.reading.unstarted ≡ left
  pub fresh : (o : ℕ) → has left o ≡ true → s.stages o ≡ stage.Unstarted
  pub rests : (d : ObjectDef) → object_at sys d.priority ≡ Some d → has left d.priority ≡ false → is_resting (s.stages d.priority) ≡ true
  pub owed : s.owed ≡ 0
  pub base : s.reading.running ≡ []
  pub place : s.reading.place ≡ Inside
  pub idle : s.reading.idle ≡ 0

-- the same of the objects and their lane, whatever an object may take up
pub record HaveBegun (sys : System) (left : List ℕ) (xs : Objects) (v : LaneView) : Type 0 where
  pub knows : (terms : Terms) → KnowsAt (HasBegun sys left) sys terms 0 [] xs v
  pub order : IsInOrder sys 0 v
  pub no_stim : has_no_stim v

-- the priorities of the objects from this place on
abbrev pub priorities_from : System → ℕ → List ℕ
priorities_from sys place = map (λ d. d.priority) (drop place sys.objects)

-- the lane went on by the records of so many starts alone, each to its end, and the hands changed as what the objects keep
pub record GrowsAlong (starts : ℕ) (xs : Objects) (v : LaneView) (ys : Objects) (w : LaneView) : Type 0 where
  pub ts : List ToldItem
  pub gains : Gains ts v w
  pub hands : HandsFollow xs v ys w
  pub are : AreStarts starts (untold_all ts)

-- the lane went on by records alone, and then stopped with this code
pub record GrowsAndStops (code : ℕ) (v w : LaneView) : Type 0 where
  pub ts : List ToldItem
  pub mid : LaneView
  pub gains : Gains ts v mid
  pub stops : Stops code mid w

-- A start ended in its assertion, or found no room, behind so many that came to their end; the code is that of the last record, and no row of looks has
-- come. Nothing else stands in the lane.
pub record StartStopped (sys : System) (v w : LaneView) : Type 0 where
  pub turn : (terms : Terms) → TurnStopped sys terms v w
  pub none : (terms : Terms) → terms.threaded ≡ true → idle_in sys terms w.told (has_stim (lanes_of w)) ≤ 0
  pub order : (end : ℕ) → may_cut end ≡ true → IsOrderEnded sys end w
  pub code : ℕ
  pub some : 0 < code
  pub last : last_code w.told ≡ code
  pub grows : GrowsAndStops code v w
  pub before : ℕ
  pub left : before < length sys.objects
  pub alone : (n : ℕ) → before < n → IsStartAlone n (untold_all grows.ts)

-- the first object that has not started starts, and those from this place on are left
abbrev pub StartsOne : System → ℕ → Objects → Objects → LaneView → LaneView → Step → Type 0
StartsOne sys place xs ys v w step.Point = ⊥
StartsOne sys place xs ys v w step.Done = HaveBegun sys (priorities_from sys place) ys w × GrowsAlong 1 xs v ys w
StartsOne sys place xs ys v w step.Stopped = (h : StartStopped sys v w) × (h.before ≡ 0)
StartsOne sys place xs ys v w step.Memory = GrowsAndStops stop.memory v w

-- all objects rest, and a kernel that has not looked yet may look
pub record AllStarted (sys : System) (xs ys : Objects) (v w : LaneView) : Type 0 where
  pub knows : (terms : Terms) → KnowsAt (MayLook sys terms) sys terms 0 [] ys w
  pub base : (terms : Terms) → KnowsAt (HasBegun sys []) sys terms 0 [] ys w
  pub order : IsInOrder sys 0 w
  pub no_stim : has_no_stim w
  pub grows : GrowsAlong (length sys.objects) xs v ys w

abbrev pub StartsAll : System → Objects → Objects → LaneView → LaneView → Step → Type 0
StartsAll sys xs ys v w step.Point = ⊥
StartsAll sys xs ys v w step.Done = AllStarted sys xs ys v w
StartsAll sys xs ys v w step.Stopped = StartStopped sys v w
StartsAll sys xs ys v w step.Memory = GrowsAndStops stop.memory v w
