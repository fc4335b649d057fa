-- What the parts of a turn do.
use Rattle.std.specs.Prelude.{◌≡◌, ℕ, ◌+◌, ◌<◌, ◌⊎◌, nat_lt, Bool, true, false, List, [], ◌∷◌, ◌++◌, map, length, reverse, take, Ok, Err}
use Rattle.std.specs.declared.result.Result.{Result}
use Rattle.std.specs.List.{AllByRecursion, filter}
use Rattle.std.specs.Option.{option_map_or}
use Rattle.qp_model.specs.declared.systems.System.{System}
use Rattle.qp_model.specs.Ends.{may_cut}
use Rattle.qp_model.specs.KernelLane.{Over, above, floor_in, lane_read, threshold_of}
use Rattle.qp_model.specs.Told.{ToldItem, untold}
use Rattle.qp_model_order.specs.RunOrder.{has_stim}
use Rattle.qp_calls.specs.LaneView.{LaneView}
use Rattle.qp_calls.specs.Notes.{last_code}
use Rattle.qp_dispatch.specs.declared.objects.Turn.{Turn}
use Rattle.qp_dispatch.specs.declared.objects.Turn.TheVariants as turn
use Rattle.qp_kernel.specs.declared.kernel.Kernel.{Kernel}
use Rattle.qp_kernel.specs.Happenings.{lanes_of}
use Rattle.qp_kernel.specs.LaneZero.{setting}
use Rattle.qp_kernel.specs.Turning.{KernelState, Terms, kernel_in}
use Rattle.qp_kernel.specs.ZeroEnds.{ZeroEnds, most_rows}
use Rattle.qp_kernel_turns.specs.declared.halting.Halt.{Halt}
use Rattle.qp_kernel_turns.specs.declared.halting.Halt.TheVariants as halt
use Rattle.qp_kernel_turns.specs.declared.objects.Objects.{Objects}
use Rattle.qp_kernel_turns.specs.declared.turning.Bounds.{Bounds}
use Rattle.qp_kernel_turns.specs.Objects.{threshold_in}
use Rattle.qp_kernel_turns.specs.Pending.{PendingStays}
use Rattle.qp_kernel_turns.specs.BaseRows.{InRow, SameRow, reading_in}
use Rattle.qp_kernel_turns.specs.Knowing.{HandsFollow, HasStack, IsRunning, IsScanning, KnowsAt, MayLook}

-- what a turn goes by
abbrev pub terms_of : Bounds → Terms
terms_of at = record { cooperative = at.cooperative; threaded = at.threaded; budget = at.budget }

-- how many rows at the base of these records have no step
abbrev pub idle_in : System → Terms → List ToldItem → (ℕ → Bool) → ℕ
idle_in sys terms told has = option_map_or (λ k. k.idle) (lane_read (setting sys (kernel_in terms) has) (map untold told)) 0

-- Lane 0 may end so. A kernel of one thread has at most one row without a step, and `qk` as many as its lane has.
abbrev pub EndsSo : System → Terms → ℕ → List ToldItem → (ℕ → Bool) → Type 0
EndsSo sys terms end told has = ZeroEnds sys (kernel_in terms) terms.budget end (most_rows (kernel_in terms) (idle_in sys terms told has)) told has

-- Lane 0 of a run that has stopped: it may end so, with every end that a stop gives. The lane has just added the record that stopped
-- it, or it found the stop word set since v.
pub record TurnStopped (sys : System) (terms : Terms) (v w : LaneView) : Type 0 where
  pub zero : (end : ℕ) → may_cut end ≡ true → EndsSo sys terms end w.told (has_stim (lanes_of w))
  pub why : (0 < last_code w.told) ⊎ (length v.answered < length w.answered)

abbrev pub HaltsTurn : System → Terms → LaneView → LaneView → Halt → Type 0
HaltsTurn sys terms v w halt.Stopped = TurnStopped sys terms v w
HaltsTurn sys terms v w halt.Memory = Unit {0}

-- the turn goes on: the hands changed as what the objects keep, and the stop word wasn't found set
pub record GoesOnward (xs : Objects) (v : LaneView) (ys : Objects) (w : LaneView) : Type 0 where
  pub hands : HandsFollow xs v ys w
  pub answered : w.answered ≡ v.answered
  pub plan : w.plan ≡ v.plan

-- the objects above the floor among the first n, descending
abbrev pub row_below : System → ℕ → ℕ → List ℕ
row_below sys floor n = reverse (map (λ d. d.priority) (filter (λ d. nat_lt floor d.priority) (take n sys.objects)))

-- a kernel with its objects and its lane
pub record Stand : Type 0 where
  pub looks : ℕ
  pub stack : List ℕ
  pub objects : Objects
  pub lane : LaneView

abbrev pub stand_of : Kernel → Objects → LaneView → Stand
stand_of k xs v = record { looks = k.looks; stack = k.stack.items; objects = xs; lane = v }

abbrev pub Stood : (KernelState → Type 0) → System → Terms → Stand → Type 0
Stood P sys terms s = KnowsAt P sys terms s.looks s.stack s.objects s.lane

-- the floor of a look
abbrev pub floor_of : System → Terms → Stand → ℕ
floor_of sys terms s = floor_in sys (kernel_in terms) (reverse s.stack) s.objects.ceiling

-- the objects of the stack stand at their priorities, with their thresholds
abbrev pub AreHeld : System → List ℕ → Objects → Type 0
AreHeld sys stack xs = AllByRecursion (λ p. threshold_in xs.slots.items p ≡ threshold_of sys p) stack

-- a look was added, and a stimulus happened in it or not
pub record Looked (sys : System) (terms : Terms) (a b : Stand) (came : Bool) : Type 0 where
  pub counted : b.looks ≡ a.looks + 1
  pub stack : b.stack ≡ a.stack
  pub knows : Stood (IsScanning sys terms (above sys (floor_of sys terms a))) sys terms b
  pub onward : GoesOnward a.objects a.lane b.objects b.lane
  pub happened : has_stim (lanes_of b.lane) b.looks ≡ came
  pub stays : PendingStays a.lane b.lane
  pub row : InRow sys terms (above sys (floor_of sys terms a)) a.lane b.lane

abbrev pub LooksTo : System → Terms → Stand → Stand → Result Bool Halt → Type 0
LooksTo sys terms a b (Ok happened) = Looked sys terms a b happened
LooksTo sys terms a b (Err h) = HaltsTurn sys terms a.lane b.lane h

-- the object at the top of the stack has a step that may go on
pub record RunsTop (sys : System) (terms : Terms) (s : Stand) : Type 0 where
  pub p : ℕ
  pub outer : List ℕ
  pub top : s.stack ≡ outer ++ p ∷ []
  pub knows : Stood (IsRunning sys p) sys terms s

-- an object was visited: its queue is empty, or its step has begun
pub record Passed (others : List ℕ) (sys : System) (terms : Terms) (a b : Stand) : Type 0 where
  pub looks : b.looks ≡ a.looks
  pub stack : b.stack ≡ a.stack
  pub knows : Stood (IsScanning sys terms others) sys terms b
  pub onward : GoesOnward a.objects a.lane b.objects b.lane
  pub lanes : lanes_of b.lane ≡ lanes_of a.lane

pub record Entered (sys : System) (terms : Terms) (a b : Stand) : Type 0 where
  pub looks : b.looks ≡ a.looks
  pub runs : RunsTop sys terms b
  pub onward : GoesOnward a.objects a.lane b.objects b.lane

abbrev pub VisitsTo : List ℕ → System → Terms → Stand → Stand → Result Bool Halt → Type 0
VisitsTo others sys terms a b (Ok true) = Entered sys terms a b
VisitsTo others sys terms a b (Ok false) = Passed others sys terms a b
VisitsTo others sys terms a b (Err h) = HaltsTurn sys terms a.lane b.lane h

-- the step at the top of the stack went on to its next scheduling point, or to its end
pub record Stepped (sys : System) (terms : Terms) (a b : Stand) : Type 0 where
  pub looks : b.looks ≡ a.looks
  pub knows : Stood (MayLook sys terms) sys terms b
  pub onward : GoesOnward a.objects a.lane b.objects b.lane
  pub row : SameRow (reading_in sys terms a.lane) (reading_in sys terms b.lane)

abbrev pub StepsTo : System → Terms → Stand → Stand → Result (Unit {0}) Halt → Type 0
StepsTo sys terms a b (Ok u) = Stepped sys terms a b
StepsTo sys terms a b (Err h) = HaltsTurn sys terms a.lane b.lane h

-- The row of looks at the base is over, and all objects rest.
pub record IsOver (sys : System) (s : KernelState) : Type 0 where
  pub stack : HasStack sys [] s
  pub owed : s.owed ≡ 0
  pub base : s.reading.running ≡ []
  pub over : s.reading.place ≡ Over

-- Under `qk` another turn may come.
pub record Idled (sys : System) (terms : Terms) (a b : Stand) : Type 0 where
  pub knows : Stood (IsOver sys) sys terms b
  pub again : terms.threaded ≡ true → Stood (MayLook sys terms) sys terms b
  pub onward : GoesOnward a.objects a.lane b.objects b.lane

abbrev pub TurnsTo : System → Terms → Stand → Stand → Turn → Type 0
TurnsTo sys terms a b turn.Idle = Idled sys terms a b
TurnsTo sys terms a b turn.Stopped = TurnStopped sys terms a.lane b.lane
TurnsTo sys terms a b turn.Memory = Unit {0}

-- the same within a turn
abbrev pub EndsTo : System → Terms → Stand → Stand → Result (Unit {0}) Halt → Type 0
EndsTo sys terms a b (Ok u) = Idled sys terms a b
EndsTo sys terms a b (Err h) = HaltsTurn sys terms a.lane b.lane h
