-- Why files are refused, as answers.
use Rattle.std.specs.Prelude.{◌≡◌, ◌≢◌, ℕ, List, Result, Ok, Err}
use Rattle.qp_chart_names.specs.Codes.{NOT_TOML}
use Rattle.qp_model.specs.declared.stimulus.Stim.{Stim}
use Rattle.qp_stim.specs.declared.fault.StimFault as stim
use Rattle.qp_stim.specs.declared.fault.StimFault.TheVariants as stim_fault
use Rattle.qp_stim.specs.Stimuli.{FaultLine}
use Rattle.qp_system_tables.specs.declared.fault.SystemFault as system
use Rattle.qp_system_tables.specs.declared.fault.SystemFault.TheVariants as system_fault
use Rattle.qp_system.specs.SystemOf.{RefusesSystem}
use Rattle.qp_run_parts.specs.declared.place.Place.TheVariants.{Nowhere, Path, Line}
use Rattle.qp_run_parts.specs.declared.status.Status.{Status}
use Rattle.qp_run_parts.specs.declared.status.Status.TheVariants.{Refused, Memory}

-- why a system's file is refused, as an answer
abbrev pub system_refusal : system.SystemFault → Status
system_refusal system_fault.Memory = Memory
system_refusal system_fault.NotToml = Refused 1 NOT_TOML Nowhere
system_refusal (system_fault.At code path) = Refused 1 code (Path path)

abbrev pub stimuli_refusal : stim.StimFault → Status
stimuli_refusal stim_fault.Memory = Memory
stimuli_refusal (stim_fault.Line number code) = Refused 2 code (Line number)

-- the bytes of the system's file are refused so
abbrev pub RefusesFirst : List ℕ → Status → Type 0
RefusesFirst bytes answer = (fault : system.SystemFault) × RefusesSystem bytes fault × (fault ≢ system_fault.Memory) × (answer ≡ system_refusal fault)

-- what the stimuli's file says is refused so
abbrev pub RefusesSecond : Result (List (List Stim)) FaultLine → Status → Type 0
RefusesSecond (Err fault) answer = answer ≡ Refused 2 fault.code (Line fault.line)
RefusesSecond (Ok sources) answer = ⊥
