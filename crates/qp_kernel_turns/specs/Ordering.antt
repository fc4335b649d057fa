-- The one order of all records through the parts of a turn, in a world whose sources act in its looks.
use Rattle.std.specs.Prelude.{◌≡◌, ℕ, ◌+◌, ◌<◌, ◌≤◌, ◌==◌, Bool, true, false, slice_get, Some, None, Ok, Err}
use Rattle.std.specs.declared.result.Result.{Result}
use Rattle.qp_model.specs.declared.systems.System.{System}
use Rattle.qp_model.specs.declared.systems.ObjectDef.{ObjectDef}
use Rattle.qp_model.specs.declared.words.Word.TheVariants as word
use Rattle.qp_model.specs.Ends.{may_cut}
use Rattle.qp_model.specs.OneOrder.{acts_next}
use Rattle.qp_model.specs.Sites.{object_at}
use Rattle.qp_calls.specs.LaneView.{Counts, LaneView}
use Rattle.qp_kernel.specs.Turning.{Terms}
use Rattle.qp_dispatch.specs.declared.objects.Turn.{Turn}
use Rattle.qp_dispatch.specs.declared.objects.Turn.TheVariants as turn
use Rattle.qp_kernel.specs.Happenings.{IsInOrder, IsOrderEnded, has_no_stim, lane_order}
use Rattle.qp_kernel_turns.specs.declared.halting.Halt.{Halt}
use Rattle.qp_kernel_turns.specs.declared.halting.Halt.TheVariants as halt
use Rattle.qp_kernel_turns.specs.Pending.{PendingStays}
use Rattle.qp_kernel_turns.specs.Turning.{Stand, floor_of}

-- The lane itself has no `stim`; where sources act in its looks, all records are in the order of a run with so many looks.
pub record InOrder (acts : Bool) (sys : System) (looks : ℕ) (v : LaneView) : Type 0 where
  pub order : acts ≡ true → IsInOrder sys looks v
  pub no_stim : has_no_stim v

-- the run has stopped, in the order of a run that ended early
pub record StopsInOrder (acts : Bool) (sys : System) (v w : LaneView) : Type 0 where
  pub of : w.sys ≡ v.sys
  pub plan : w.plan ≡ v.plan
  pub order : acts ≡ true → (end : ℕ) → may_cut end ≡ true → IsOrderEnded sys end w

abbrev pub HaltsInOrder : Bool → System → LaneView → LaneView → Halt → Type 0
HaltsInOrder acts sys v w halt.Stopped = StopsInOrder acts sys v w
HaltsInOrder acts sys v w halt.Memory = Unit {0}

-- no source may act behind these records; `base` tells that no step is under way
abbrev pub NoneActs : Bool → System → LaneView → Type 0
NoneActs base sys v = acts_next sys v.plan (lane_order v) base ≡ None

-- in a look without a stimulus no source may act
pub record LookedInOrder (acts : Bool) (sys : System) (base : Bool) (b : Stand) (came : Bool) : Type 0 where
  pub order : InOrder acts sys b.looks b.lane
  pub none : came ≡ false → acts ≡ true → NoneActs base sys b.lane

abbrev pub LooksInOrder : Bool → System → Terms → Stand → Stand → Result Bool Halt → Type 0
LooksInOrder acts sys terms a b (Ok came) = LookedInOrder acts sys (floor_of sys terms a == 0) b came
LooksInOrder acts sys terms a b (Err h) = HaltsInOrder acts sys a.lane b.lane h

-- the queue of p has no entry, as the lane last saw it, and knows of no operation since
pub record IsSeenEmpty (p : ℕ) (v : LaneView) : Type 0 where
  pub f : ℕ
  pub l : ℕ
  pub m : ℕ
  pub says : v.shown (word.Queue p) ≡ Counts f l m
  pub none : f + l ≡ m
  pub mark : v.mark (word.Queue p) ≡ f + l + m
  pub own : (v.own p).m ≡ m

-- so have those of all objects above the floor from this place on
abbrev pub AreSeenEmpty : System → ℕ → ℕ → LaneView → Type 0
AreSeenEmpty sys floor place v = (i : ℕ) (d : ObjectDef) → place ≤ i → slice_get sys.objects i ≡ Some d → floor < d.priority → IsSeenEmpty d.priority v

-- the objects from this place on were found with empty queues
pub record PassedInOrder (acts : Bool) (sys : System) (floor place : ℕ) (a b : Stand) : Type 0 where
  pub order : InOrder acts sys b.looks b.lane
  pub none : (base : Bool) → acts ≡ true → NoneActs base sys a.lane → NoneActs base sys b.lane
  pub empty : AreSeenEmpty sys floor place b.lane
  pub stays : PendingStays a.lane b.lane

abbrev pub VisitsInOrder : Bool → System → ℕ → ℕ → Stand → Stand → Result Bool Halt → Type 0
VisitsInOrder acts sys floor place a b (Ok true) = InOrder acts sys b.looks b.lane
VisitsInOrder acts sys floor place a b (Ok false) = PassedInOrder acts sys floor place a b
VisitsInOrder acts sys floor place a b (Err h) = HaltsInOrder acts sys a.lane b.lane h

abbrev pub GoesInOrder : Bool → System → Stand → Stand → Result (Unit {0}) Halt → Type 0
GoesInOrder acts sys a b (Ok u) = InOrder acts sys b.looks b.lane
GoesInOrder acts sys a b (Err h) = HaltsInOrder acts sys a.lane b.lane h

-- a step keeps the order in any world
abbrev pub StepsInOrder : System → Stand → Stand → Result (Unit {0}) Halt → Type 0
StepsInOrder sys a b answer = (acts : Bool) → InOrder acts sys a.looks a.lane → GoesInOrder acts sys a b answer

-- The turn is over: no source may act, and all queues were seen empty.
pub record IdlesInOrder (acts : Bool) (sys : System) (b : Stand) : Type 0 where
  pub order : InOrder acts sys b.looks b.lane
  pub none : acts ≡ true → NoneActs true sys b.lane
  pub empties : (d : ObjectDef) → object_at sys d.priority ≡ Some d → IsSeenEmpty d.priority b.lane

abbrev pub TurnsInOrder : Bool → System → Stand → Stand → Turn → Type 0
TurnsInOrder acts sys a b turn.Idle = IdlesInOrder acts sys b
TurnsInOrder acts sys a b turn.Stopped = StopsInOrder acts sys a.lane b.lane
TurnsInOrder acts sys a b turn.Memory = Unit {0}

-- the same within a turn
abbrev pub RoundsInOrder : Bool → System → Stand → Stand → Result (Unit {0}) Halt → Type 0
RoundsInOrder acts sys a b (Ok u) = IdlesInOrder acts sys b
RoundsInOrder acts sys a b (Err h) = HaltsInOrder acts sys a.lane b.lane h
