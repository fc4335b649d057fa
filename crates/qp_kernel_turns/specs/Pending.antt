-- Queues with an entry that the lane hasn't taken.
use Rattle.std.specs.Prelude.{◌≡◌, ℕ, ◌+◌, ◌<◌, [], Some}
use Rattle.qp_model.specs.declared.systems.System.{System}
use Rattle.qp_model.specs.declared.systems.ObjectDef.{ObjectDef}
use Rattle.qp_model.specs.declared.words.Word.TheVariants as word
use Rattle.qp_model.specs.Sites.{object_at}
use Rattle.qp_calls.specs.LaneView.{LaneView}
use Rattle.qp_dispatch.specs.declared.objects.Turn.{Turn}
use Rattle.qp_dispatch.specs.declared.objects.Turn.TheVariants as turn
use Rattle.qp_kernel.specs.declared.kernel.Kernel.{Kernel}

-- of the operations of the queue that the lane knows of fewer than half are its own takes
abbrev pub Pending : ℕ → LaneView → Type 0
Pending p v = (v.own p).m + (v.own p).m < v.mark (word.Queue p)

-- what is pending stays so
abbrev pub PendingStays : LaneView → LaneView → Type 0
PendingStays v w = (p : ℕ) → Pending p v → Pending p w

-- a turn from the base over a pending queue has a step
abbrev pub StepsOver : System → Kernel → Kernel → LaneView → Type 0
StepsOver sys k later v = k.stack.items ≡ [] → (d : ObjectDef) → object_at sys d.priority ≡ Some d → Pending d.priority v → k.steps < later.steps

abbrev pub TurnsOver : System → Kernel → Kernel → LaneView → Turn → Type 0
TurnsOver sys k later v turn.Idle = StepsOver sys k later v
TurnsOver sys k later v _ = Unit {0}
