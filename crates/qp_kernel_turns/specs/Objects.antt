-- The objects of a system, each at its priority, and what calls of one of them do.
use Rattle.std.specs.Prelude.{◌≡◌, ℕ, ◌<◌, ℤ, true, List, [], length, slice_get, slice_set, Some, None}
use Rattle.std.specs.declared.option.Option.{Option}
use Rattle.qp_model.specs.declared.systems.System.{System}
use Rattle.qp_model.specs.declared.systems.ObjectDef.{ObjectDef}
use Rattle.qp_model.specs.Sites.{object_at}
use Rattle.qp_calls.specs.declared.tokens.HeldEntry.{HeldEntry}
use Rattle.qp_calls.specs.LaneView.{LaneView}
use Rattle.qp_dispatch.specs.declared.steps.Position.TheVariants as standing
use Rattle.qp_dispatch.specs.declared.steps.Step.{Step}
use Rattle.qp_dispatch.specs.Objects.{BeginsStep, IsNewObject, MayResume, MayStart, ObjectResumes, ObjectStarts, leaf_shown, works_for}
use Rattle.qp_kernel_turns.specs.declared.objects.Objects.{Objects}
use Rattle.qp_kernel_turns.specs.declared.objects.Slot.{Slot}

-- what stands at this priority
abbrev pub slot_at : List (Option Slot) → ℕ → Option (Option Slot)
slot_at slots p = slice_get slots p

-- this object stands there
abbrev pub IsAt : Objects → ℕ → Slot → Type 0
IsAt xs p slot = slice_get xs.slots.items p ≡ Some (Some slot)

-- another stands there now
abbrev pub PutsSlot : Objects → Objects → ℕ → Slot → Type 0
PutsSlot xs ys p slot = ys.slots.items ≡ slice_set xs.slots.items p (Some slot)

-- and all else is as it was
pub record IsSlotPut (xs ys : Objects) (p : ℕ) (slot : Slot) : Type 0 where
  pub slots : PutsSlot xs ys p slot
  pub ceiling : ys.ceiling ≡ xs.ceiling

-- an object before its start, with its threshold, or none
abbrev pub IsPlace : System → ℕ → Option Slot → Type 0
IsPlace sys p None = object_at sys p ≡ None
IsPlace sys p (Some slot) = IsNewObject sys p slot.object × ((d : ObjectDef) → object_at sys p ≡ Some d → slot.threshold ≡ d.threshold)

-- all objects, before their start
pub record AreMade (sys : System) (xs : Objects) : Type 0 where
  pub places : length xs.slots.items ≡ 33
  pub each : (p : ℕ) (slot : Option Slot) → slice_get xs.slots.items p ≡ Some slot → IsPlace sys p slot
  pub ceiling : xs.ceiling ≡ 0

-- the object of this priority rests, and may take up an entry
pub record MayBeginAt (p : ℕ) (xs : Objects) : Type 0 where
  pub slot : Slot
  pub there : IsAt xs p slot
  pub between : slot.object.stage ≡ standing.Between
  pub started : slot.object.started ≡ true
  pub few : slot.object.taken < 1000000

pub record BeginsAt (p : ℕ) (e : HeldEntry) (xs ys : Objects) : Type 0 where
  pub slot : Slot
  pub later : Slot
  pub there : IsAt xs p slot
  pub put : IsSlotPut xs ys p later
  pub threshold : later.threshold ≡ slot.threshold
  pub begins : BeginsStep e slot.object later.object

-- the object of this priority has a step under way
pub record MayResumeAt (sys : System) (ceiling p : ℕ) (xs : Objects) (v : LaneView) : Type 0 where
  pub slot : Slot
  pub there : IsAt xs p slot
  pub may : MayResume sys ceiling slot.object (works_for slot.object.me v)

pub record ResumesAt (sys : System) (ceiling level p : ℕ) (xs ys : Objects) (v w : LaneView) (answer : Step) : Type 0 where
  pub slot : Slot
  pub later : Slot
  pub there : IsAt xs p slot
  pub put : IsSlotPut xs ys p later
  pub threshold : later.threshold ≡ slot.threshold
  pub resumes : ObjectResumes sys ceiling level slot.object later.object v w answer

-- the object of this priority has not started
pub record MayStartAt (sys : System) (ceiling p : ℕ) (xs : Objects) (v : LaneView) : Type 0 where
  pub slot : Slot
  pub there : IsAt xs p slot
  pub may : MayStart sys ceiling slot.object (works_for slot.object.me v)

pub record StartsAt (sys : System) (level p : ℕ) (xs ys : Objects) (v w : LaneView) (answer : Step) : Type 0 where
  pub slot : Slot
  pub later : Slot
  pub there : IsAt xs p slot
  pub put : IsSlotPut xs ys p later
  pub threshold : later.threshold ≡ slot.threshold
  pub starts : ObjectStarts sys level slot.object later.object v w answer

-- What is read of the object of a priority.

abbrev pub taken_there : Option (Option Slot) → ℕ
taken_there (Some (Some slot)) = slot.object.taken
taken_there _ = 0

abbrev pub taken_up_by : List (Option Slot) → ℕ → ℕ
taken_up_by slots p = taken_there (slice_get slots p)

abbrev pub threshold_there : Option (Option Slot) → ℕ
threshold_there (Some (Some slot)) = slot.threshold
threshold_there _ = 0

abbrev pub threshold_in : List (Option Slot) → ℕ → ℕ
threshold_in slots p = threshold_there (slice_get slots p)

abbrev pub leaf_there : Option (Option Slot) → Option ℕ
leaf_there (Some (Some slot)) = leaf_shown slot.object
leaf_there _ = None

abbrev pub leaf_in : List (Option Slot) → ℕ → Option ℕ
leaf_in slots p = leaf_there (slice_get slots p)

abbrev pub vars_there : Option (Option Slot) → List ℤ
vars_there (Some (Some slot)) = slot.object.lasting.vars
vars_there _ = []

abbrev pub vars_in : List (Option Slot) → ℕ → List ℤ
vars_in slots p = vars_there (slice_get slots p)
