-- A lane behind a part of a turn has more records.
use Rattle.std.proofs.Common.{false, Ok, Err}
use Rattle.std.specs.declared.result.Result.{Result}
use Rattle.qp_calls.specs.LaneView.{LaneView}
use Rattle.qp_kernel_turns.specs.declared.halting.Halt.{Halt}
use Rattle.qp_kernel_turns.specs.Lanes.{LaneTo}
use Rattle.qp_wait.proofs.Wrapped.{Grown}

pub lane-grown : {A : Type 0} (v w : LaneView) (r : Result A Halt) → LaneTo false v w r → Grown v w
lane-grown v w (Ok x) h = record { sys = h.keeps.same.sys; ts = h.keeps.told.0; told = h.keeps.told.1 }
lane-grown v w (Err e) h = record { sys = h.keeps.same.sys; ts = h.keeps.told.0; told = h.keeps.told.1 }
