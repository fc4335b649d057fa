-- The count of steps that have begun, which the gate is told.
use Rattle.std.specs.Prelude.{◌≡◌, ℕ, ◌+◌, ◌≤◌, true, false, List, [], ◌∷◌, Some, None, Ok, Bool}
use Rattle.std.specs.declared.option.Option.{Option}
use Rattle.std.specs.declared.result.Result.{Result}
use Rattle.qp_calls.specs.LaneView.{LaneView}
use Rattle.qp_dispatch.specs.declared.objects.Turn.{Turn}
use Rattle.qp_dispatch.specs.declared.objects.Turn.TheVariants as turn
use Rattle.qp_kernel.specs.declared.kernel.Kernel.{Kernel}
use Rattle.qp_kernel_turns.specs.declared.halting.Halt.{Halt}
use Rattle.qp_kernel_turns.specs.declared.objects.Objects.{Objects}
use Rattle.qp_kernel_turns.specs.declared.objects.Slot.{Slot}

-- how many entries all objects have taken up
unfoldable pub taken_by_all : List (Option Slot) → ℕ
taken_by_all [] = 0
taken_by_all (None ∷ xs) = taken_by_all xs
taken_by_all (Some slot ∷ xs) = slot.object.taken + taken_by_all xs

-- so many steps have begun, each with an entry taken up
pub record Begin (n : ℕ) (k later : Kernel) (xs ys : Objects) : Type 0 where
  pub steps : later.steps ≡ k.steps + n
  pub taken : taken_by_all ys.slots.items ≡ taken_by_all xs.slots.items + n

-- one where an object was found
abbrev pub BeginsFound : Kernel → Kernel → Objects → Objects → Result Bool Halt → Type 0
BeginsFound k later xs ys (Ok true) = Begin 1 k later xs ys
BeginsFound k later xs ys _ = Begin 0 k later xs ys

-- as many as the count rose by; there are no more than looks
pub record AreCounted (k later : Kernel) (xs ys : Objects) : Type 0 where
  pub n : ℕ
  pub begin : Begin n k later xs ys
  pub few : later.steps ≤ later.looks

abbrev pub TurnsCounted : Kernel → Kernel → Objects → Objects → Turn → Type 0
TurnsCounted k later xs ys turn.Idle = AreCounted k later xs ys
TurnsCounted k later xs ys _ = Unit {0}

-- The lane asked for the stop word once for each look that the kernel began, and twice for each step: before it looked at the queue, and before it
-- took the entry. Nothing is said of a world whose sources act in looks.
abbrev pub Asks : Bool → Kernel → Kernel → LaneView → LaneView → Type 0
Asks acts k later v w = acts ≡ false → later.looks + (later.steps + later.steps) + v.asked ≤ w.asked + (k.looks + (k.steps + k.steps))
