-- The rest of the cooperative kernel, behind a look at the base that found every queue empty.
use Rattle.std.specs.Prelude.{◌≡◌, Bool, true, false, Ok, Err}
use Rattle.std.specs.declared.result.Result.{Result}
use Rattle.qp_model.specs.declared.systems.System.{System}
use Rattle.qp_model_order.specs.RunOrder.{has_stim}
use Rattle.qp_kernel.specs.Happenings.{lanes_of}
use Rattle.qp_kernel.specs.Turning.{Terms}
use Rattle.qp_kernel_turns.specs.declared.halting.Halt.{Halt}
use Rattle.qp_kernel_turns.specs.Knowing.{MayLook}
use Rattle.qp_kernel_turns.specs.Ordering.{HaltsInOrder, PassedInOrder}
use Rattle.qp_kernel_turns.specs.Turning.{GoesOnward, HaltsTurn, IsOver, Stand, Stood}

-- the row goes on where a stimulus happened in its last look, and else it is over
pub record Rested (sys : System) (terms : Terms) (a b : Stand) : Type 0 where
  pub again : has_stim (lanes_of a.lane) a.looks ≡ true → Stood (MayLook sys terms) sys terms b
  pub over : has_stim (lanes_of a.lane) a.looks ≡ false → Stood (IsOver sys) sys terms b
  pub onward : GoesOnward a.objects a.lane b.objects b.lane

abbrev pub RestsTo : System → Terms → Stand → Stand → Result (Unit {0}) Halt → Type 0
RestsTo sys terms a b (Ok u) = Rested sys terms a b
RestsTo sys terms a b (Err h) = HaltsTurn sys terms a.lane b.lane h

-- the records stay in order, what may act is the same, and every queue is still seen empty
abbrev pub RestsInOrder : Bool → System → Stand → Stand → Result (Unit {0}) Halt → Type 0
RestsInOrder acts sys a b (Ok u) = PassedInOrder acts sys 0 0 a b
RestsInOrder acts sys a b (Err h) = HaltsInOrder acts sys a.lane b.lane h
