-- What a reader answers.
use Rattle.std.specs.Prelude.{◌≡◌, ℕ, List, Ok, Err, ⊤}
use Rattle.std.specs.declared.result.Result.{Result}
use Rattle.qp_chart_names.specs.declared.place.Part.{Part}
use Rattle.qp_chart_names.specs.Faults.{Fault}
use Rattle.qp_system_tables.specs.declared.fault.SystemFault.{SystemFault}
use Rattle.qp_system_tables.specs.declared.fault.SystemFault.TheVariants.{Memory, NotToml, At}

-- the refusal with this code at this path
abbrev pub fault_at : ℕ → List Part → SystemFault
fault_at code parts = At code (record { 0 = record { items = parts } })

-- what is refused is the fault, unless memory ran out
abbrev pub ReadFails : {Y : Type 0} → SystemFault → Result Y Fault → Type 0
ReadFails Memory read = ⊤
ReadFails NotToml read = ⊥
ReadFails (At code path) read = read ≡ Err (record { code = code; path = path.0.items })

-- what was read, seen by view, is what reading gives, unless memory ran out
abbrev pub ReadsAs : {X Y : Type 0} → (X → Y) → Result X SystemFault → Result Y Fault → Type 0
ReadsAs view (Ok x) read = read ≡ Ok (view x)
ReadsAs view (Err e) read = ReadFails e read
