-- Laws of reading system files.
use Rattle.std.specs.Prelude.{◌≡◌, ℕ, List, ◌⊎◌}
use Rattle.qp_model.specs.declared.systems.System.{System}
use Rattle.qp_system_tables.specs.declared.fault.SystemFault.{SystemFault}
use Rattle.qp_system_tables.specs.declared.fault.SystemFault.TheVariants.{Memory}
use Rattle.qp_model.specs.Sound.{IsSound}
use Rattle.qp_system.specs.SystemOf.{IsSystemOf, RefusesSystem}

-- the system of a file meets the rules of its file
abbrev pub SystemsAreSound : Type 0
SystemsAreSound = (bytes : List ℕ) (sys : System) → IsSystemOf bytes sys → IsSound sys

-- bytes that are a system are refused for want of memory alone
abbrev pub SystemsHaveNoFault : Type 0
SystemsHaveNoFault = (bytes : List ℕ) (sys : System) (e : SystemFault) → IsSystemOf bytes sys → RefusesSystem bytes e → e ≡ Memory

-- two refusals of the same bytes are the same, where neither is for want of memory
abbrev pub RefusalsAreOne : Type 0
RefusalsAreOne = (bytes : List ℕ) (e f : SystemFault) → RefusesSystem bytes e → RefusesSystem bytes f → (e ≡ Memory) ⊎ (f ≡ Memory) ⊎ (e ≡ f)

-- the bytes of a file are one system
abbrev pub SystemsAreOne : Type 0
SystemsAreOne = (bytes : List ℕ) (a b : System) → IsSystemOf bytes a → IsSystemOf bytes b → a ≡ b
