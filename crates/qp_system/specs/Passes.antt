-- What a check of a system answers.
use Rattle.std.specs.Prelude.{◌≡◌, None, Ok, Err, ⊤}
use Rattle.std.specs.declared.option.Option.{Option}
use Rattle.std.specs.declared.result.Result.{Result}
use Rattle.qp_chart_names.specs.Faults.{Fault, fault}
use Rattle.qp_system_tables.specs.declared.fault.SystemFault.{SystemFault}
use Rattle.qp_system_tables.specs.declared.fault.SystemFault.TheVariants.{Memory, NotToml, At}

-- what is refused is the first fault, unless memory ran out
abbrev pub IsFirstFault : Option Fault → SystemFault → Type 0
IsFirstFault first Memory = ⊤
IsFirstFault first NotToml = ⊥
IsFirstFault first (At code path) = first ≡ fault code path.0.items

-- there is no fault, or the refusal carries the first
abbrev pub Passes : {X : Type 0} → Option Fault → Result X SystemFault → Type 0
Passes first (Ok _) = first ≡ None
Passes first (Err e) = IsFirstFault first e
