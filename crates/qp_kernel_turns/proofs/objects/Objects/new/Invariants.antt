use Rattle.std.proofs.Common.{◌≡◌, ℕ, length, Option, Some}
use Rattle.std.specs.Prelude.{slice_get}
use Rattle.qp_kernel_turns.specs.declared.objects.Slot.{Slot}
use Rattle.qp_kernel_turns.specs.Objects.{IsPlace}
use Rattle.qp_kernel_turns.proofs.objects.Objects.new.Given as goal

-- the places so far
abbrev pub invariant-loop-p : goal.invariant-loop-p
invariant-loop-p l =
    record {
      places : length l.slots.items ≡ l.p;
      each : (p : ℕ) (slot : Option Slot) → slice_get l.slots.items p ≡ Some slot → IsPlace l.sys p slot;
    }
