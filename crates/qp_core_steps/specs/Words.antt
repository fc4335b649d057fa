-- What a step does to the words and to its seat: where it is allowed it does this, and else nothing changes.
use Rattle.std.specs.Prelude.{◌≡◌, Bool, Ok, Err}
use Rattle.std.specs.declared.result.Result.{Result}
use Rattle.std.specs.Bool.{MatchBool}
use Rattle.qp_base.specs.declared.faults.Memory.{Memory}

-- `may` is where the step is allowed, and `made` what it does; `same` says that nothing changed
abbrev pub StepsAs : Bool → Type 0 → Type 0 → Result Bool Memory → Type 0
StepsAs may made same (Ok b) = (b ≡ may) × MatchBool b made same
StepsAs may made same (Err e) = same
