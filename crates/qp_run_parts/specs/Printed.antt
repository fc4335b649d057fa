-- What of a run is printed.
use Rattle.std.specs.Prelude.{◌≡◌, ℕ, true, List, IsTrue, ◌⊎◌, Option}
use Rattle.qp_model.specs.declared.journals.Journal.{Journal}
use Rattle.qp_model.specs.declared.stimulus.Stim.{Stim}
use Rattle.qp_model.specs.declared.systems.System.{System}
use Rattle.qp_model.specs.Ends.{spills_in}
use Rattle.qp_model.specs.History.{lane_items}
use Rattle.qp_model.specs.Home.{lane_at}
use Rattle.qp_model.specs.Output.{has_form, is_in_range}
use Rattle.qp_model.specs.OutputSummary.{IsSummary}
use Rattle.qp_summary.specs.Written.{lines_joined}
use Rattle.qp_kernel_runs.specs.SimRun.{IsQvRun, IsSimRun}
use Rattle.qp_model.specs.Kernels.{port, qk}
use Rattle.qp_port_law.specs.ThreadRun.{IsThreadRun}
use Rattle.qp_system.specs.Made.{IsMade}
use Rattle.qp_unique.specs.JournalLaws.{IsUnspilt}
use Rattle.qp_unique.specs.Tidy.{has_short_lanes}
use Rattle.qp_run_parts.specs.declared.status.Status.{Status}
use Rattle.qp_run_parts.specs.declared.status.Status.TheVariants.{Memory}
use Rattle.qp_commands.specs.declared.values.KernelName.{KernelName}
use Rattle.qp_commands.specs.declared.values.KernelName.TheVariants.{Sim, Qk, Port, Wait, Qv}
use Rattle.qp_commands.specs.declared.values.Output.{Output}
use Rattle.qp_commands.specs.declared.values.Output.TheVariants.{Whole, Summary}
use Rattle.qp_run_parts.specs.Conversions.{IsWrittenAs, written}
use Rattle.qp_run_parts.specs.Endings.{ending_of}

-- lane 0 of the journal ended with a `spill`
abbrev pub HaltedFull : Journal → Type 0
HaltedFull j = spills_in (lane_items (lane_at j 0)) ≡ true

-- where no lane has more than 999,992 records, this is the only such journal, but for one whose lane 0 ended with a `spill`
abbrev pub IsOnlyJournal : (Journal → Type 0) → Journal → Type 0
IsOnlyJournal IsRun j = IsTrue (has_short_lanes j) → (other : Journal) → IsRun other → (other ≡ j) ⊎ HaltedFull other

-- and where no lane ended with a `spill`, it is the only one of these, however long its lanes are
abbrev pub IsOnlyUnspilt : (Journal → Type 0) → Journal → Type 0
IsOnlyUnspilt IsRun j = IsUnspilt j → (other : Journal) → IsRun other → IsUnspilt other → other ≡ j

-- what a run with one thread leaves
pub record IsOnlyRun (IsRun : Journal → Type 0) (j : Journal) : Type 0 where
  pub run : IsRun j
  pub only : IsOnlyJournal IsRun j
  pub only_unspilt : IsOnlyUnspilt IsRun j

-- a lawful journal of this system and these stimuli, of this kernel and with this budget
abbrev pub IsRunUnder : KernelName → System → List (List Stim) → ℕ → Journal → Type 0
IsRunUnder Sim sys sources budget j = IsOnlyRun (λ other. IsSimRun sys sources budget other) j
IsRunUnder Qk sys sources budget j = IsThreadRun qk sys sources budget j
IsRunUnder Port sys sources budget j = IsThreadRun port sys sources budget j
IsRunUnder Wait sys sources budget j = IsThreadRun port sys sources budget j
IsRunUnder Qv sys sources budget j = IsOnlyRun (λ other. IsQvRun sys sources budget other) j

-- what is printed of a journal: the whole of it in this form, or the lines of its summary one after another
unfoldable pub IsPrintOf : Output → ℕ → System → Journal → List ℕ → Type 0
IsPrintOf (Whole kind) form sys j whole = whole ≡ written kind form j
IsPrintOf Summary form sys j whole = (lines : List (List ℕ)) × IsSummary sys j lines × (whole ≡ lines_joined lines)

-- the same with the answer: what the journal's records say
unfoldable pub PrintsOf : Output → ℕ → System → Journal → Status → List ℕ → Type 0
PrintsOf output form sys j answer whole = (answer ≡ ending_of j) × IsPrintOf output form sys j whole

-- what is printed of a run of this system and these stimuli under this kernel with this budget, and the answer with it; the journal has
-- the form and is in range, so that its text or frames are of no other
unfoldable pub PrintsRun : System → List (List Stim) → KernelName → ℕ → Output → ℕ → Status → List ℕ → Type 0
PrintsRun sys sources kernel budget output form answer whole =
    (j : Journal) × IsRunUnder kernel sys sources budget j × IsTrue (has_form form j) × IsTrue (is_in_range form j)
    × PrintsOf output form sys j answer whole

-- the budget of what a number makes
abbrev pub made_budget : ℕ
made_budget = 100000

-- what is printed of the run under `sim` of the system and the stimuli that a number makes: the summary
unfoldable pub PrintsMade : ℕ → Status → List ℕ → Type 0
PrintsMade n answer whole =
    (sys : System) × (sources : List (List Stim)) × IsMade n sys sources × PrintsRun sys sources Sim made_budget Summary 1 answer whole

-- such bytes were written with their answer, or a part of them; or memory was refused before anything was
unfoldable pub IsPrinted : (Status → List ℕ → Type 0) → (old new : Option (List ℕ)) → (faults faults' : ℕ) → Status → Type 0
IsPrinted IsWhole old new faults faults' answer =
    ((answer ≡ Memory) × (new ≡ old))
    ⊎ ((told : Status) × (whole : List ℕ) × IsWhole told whole × IsWrittenAs told whole old new faults faults' answer)
